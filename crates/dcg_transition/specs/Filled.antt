-- The rows while they are made.
use Rattle.std.specs.Prelude.{◌≡◌, ◌≢◌, ◌<◌, ◌^◌, ◌-◌, ℕ, zero, suc, ◌+◌, ◌==◌, ◌&&◌, Bool, false, List, length, map, replicate, slice_index, slice_set, Option, Some, None, if◌then◌else◌}
use Rattle.std.specs.Option.{option_map, option_map_or}
use Rattle.std.specs.List.{range_with_len}
use Rattle.flux_model.specs.Tree.{QueryTree, children}
use Rattle.flux_model.specs.States.{Joined, reaches}
use Rattle.flux_model.specs.Exact.{Row, StateRows, row_at, in_count, out_count}
use Rattle.dcg_store.specs.Counters.{is_full}

-- how many children each vertex has
abbrev pub child_counts : QueryTree → List ℕ
child_counts t = map (λ u. length (children t u)) (range_with_len 0 (length t.links))

-- ---- rows with no out counter raised yet

-- how many joints lead into a pair by its row
abbrev pub ins_at : StateRows → ℕ → ℕ → ℕ
ins_at d u v = option_map_or (λ (row : Row). row.ins) (row_at d u v) 0

-- the row of a pair that so many joints lead into
abbrev pub begun : ℕ → ℕ → Option Row
begun width zero = None
begun width (suc k) = Some (record { ins = suc k; outs = replicate width 0 })

-- no out counter of u's rows is raised
abbrev pub AreBegun : StateRows → ℕ → Type 0
AreBegun d u = (v : ℕ) → row_at d u v ≡ begun (slice_index d.children u) (ins_at d u v)

-- no rows but u's have changed
pub record IsSameBeside (u : ℕ) (old new : StateRows) : Type 0 where
  pub whole : new.is_broken ≡ old.is_broken
  pub children : new.children ≡ old.children
  pub others : (x y : ℕ) → x ≢ u → row_at new x y ≡ row_at old x y

-- so many joints more lead into each pair of u
pub record HasMoreIns (u : ℕ) (more : ℕ → ℕ) (old new : StateRows) : Type 0 where
  pub beside : IsSameBeside u old new
  pub begun : AreBegun new u
  pub ins : (v : ℕ) → ins_at new u v ≡ ins_at old u v + more v

-- ---- rows with some out counters raised

-- whether there is a row whose out counters are all at least 1
abbrev pub is_open : Option Row → Bool
is_open None = false
is_open (Some row) = is_full row

-- whether the end x makes a joint to an explicit pair of u
abbrev pub opens : StateRows → ℕ → ℕ → Bool
opens d u x = is_open (row_at d u x)

-- so much more in the out counter of the child of number k
abbrev pub with_more_outs : ℕ → ℕ → Row → Row
with_more_outs k more row = record row { outs = slice_set row.outs k (slice_index row.outs k + more) }

-- the out counter of the pair of u and v for the child of number k has grown by so much
pub record HasMoreOuts (u v k more : ℕ) (old new : StateRows) : Type 0 where
  pub whole : new.is_broken ≡ old.is_broken
  pub children : new.children ≡ old.children
  pub rows : (x y : ℕ) → row_at new x y ≡ (if x == u && y == v then option_map (with_more_outs k more) (row_at old u v) else row_at old x y)

-- the out counter for the child of number k can grow by so much
abbrev pub HasRoomFor : ℕ → ℕ → Row → Type 0
HasRoomFor k more row = (k < length row.outs) × (slice_index row.outs k + more < 2 ^ 32 - 1)

-- the exact row of a pair but for the children that are not counted, whose counters are 0
abbrev pub counted_row : (ℕ → Bool) → Joined → ℕ → ℕ → Option Row
counted_row is_counted j u v =
    if reaches j u v
    then Some (record { ins = in_count j u v; outs = map (λ c. if is_counted c then out_count j v c else 0) (children j.tree u) })
    else None
