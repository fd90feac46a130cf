-- What may be spent at the pairs: the weight of the rows grows with each that begins or opens, and pays for its scans.
use Rattle.std.specs.Prelude.{ℕ, ◌+◌, ◌*◌, cond, List, length, sum_by}
use Rattle.std.specs.List.{range_with_len}
use Rattle.dcg_moves.specs.Layers.{Layers, children}
use Rattle.dcg_moves.specs.Rows.{Rows, is_kept, is_open}

-- what a scan of one graph row may spend: six steps a turn
abbrev pub scan_cost : (ℕ → ℕ) → ℕ → ℕ
scan_cost degree v = 6 * (1 + degree v)

-- the scans of a row that begins or goes: one for each child
abbrev pub fan_cost : Layers → (ℕ → ℕ) → ℕ → ℕ → ℕ
fan_cost s degree u v = length (children s u) * scan_cost degree v

-- what is spent at a pair: a scan for each child where it has a row, and one more where it is open
abbrev pub pay : Layers → (ℕ → ℕ) → Rows → ℕ → ℕ → ℕ
pay s degree r u v = cond (is_kept r u v) (fan_cost s degree u v) 0 + cond (is_open r u v) (scan_cost degree v) 0

-- at all pairs of these graph vertices
abbrev pub weight : Layers → List ℕ → (ℕ → ℕ) → Rows → ℕ
weight s ids degree r = sum_by (λ u. sum_by (pay s degree r u) ids) (range_with_len 0 s.count)
