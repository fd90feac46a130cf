-- The rows of a layer, where the out counters of all lie in one list.
use Rattle.std.specs.Prelude.{◌≡◌, ℕ, ◌*◌, List, [], ◌∷◌, take, drop, length}
use Rattle.std.specs.Ordering.{nat_cmp}
use Rattle.std.specs.FinMap.{from_entries}
use Rattle.flux_model.specs.Exact.{Row}
use Rattle.dcg_store.specs.Layers.{live_in}

-- each in counter, with the next `width` out counters
abbrev pub flat_rows : ℕ → List (ℕ × ℕ) → List ℕ → List (ℕ × Row)
flat_rows width [] outs = []
flat_rows width (e ∷ ins) outs = (e.0, record { ins = e.1; outs = take width outs }) ∷ flat_rows width ins (drop width outs)

-- the out counters are those of all rows, and the explicit rows are counted
pub record IsFlat (width : ℕ) (ins : List (ℕ × ℕ)) (outs : List ℕ) (live : ℕ) : Type 0 where
  pub filled : length outs ≡ width * length ins
  pub counted : live ≡ live_in (from_entries {R = nat_cmp} (flat_rows width ins outs))
