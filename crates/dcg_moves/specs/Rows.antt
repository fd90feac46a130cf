-- The rows as they are looked up, and what one of them tells.
use Rattle.std.specs.Prelude.{◌≡◌, ℕ, Bool, false, slice_index, Option, None, Some, is_some}
use Rattle.flux_model.specs.Exact.{Row}
use Rattle.dcg_store.specs.Counters.{is_full}

-- the row of each pair that has one, by pattern vertex and graph vertex
abbrev pub Rows : Type 0
Rows = ℕ → ℕ → Option Row

-- the pair has a row
abbrev pub is_kept : Rows → ℕ → ℕ → Bool
is_kept r u v = is_some (r u v)

-- there is a row, and each of its out counters is at least 1
abbrev pub has_all : Option Row → Bool
has_all None = false
has_all (Some row) = is_full row

-- the pair is open: its row has each out counter at least 1, so it is explicit
abbrev pub is_open : Rows → ℕ → ℕ → Bool
is_open r u v = has_all (r u v)

-- the in counter, 0 where there is no row
abbrev pub ins_in : Option Row → ℕ
ins_in None = 0
ins_in (Some row) = row.ins

-- the out counter of number j, 0 where there is no row
abbrev pub outs_in : ℕ → Option Row → ℕ
outs_in j None = 0
outs_in j (Some row) = slice_index row.outs j

-- the row of one pair alone differs, and is this now
pub record Changes (old new : Rows) (u v : ℕ) (row : Option Row) : Type 0 where
  pub here : new u v ≡ row
  pub elsewhere : (w y : ℕ) → ((w ≡ u) × (y ≡ v) → ⊥) → new w y ≡ old w y
