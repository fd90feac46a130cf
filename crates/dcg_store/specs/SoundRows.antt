-- What is true of all rows that are kept, and how many are explicit.
use Rattle.std.specs.Prelude.{◌≡◌, ◌<◌, ℕ, ◌==◌, ◌&&◌, Bool, List, length, count_by, slice_index, Some, refl}
use Rattle.std.specs.Ordering.{nat_cmp}
use Rattle.std.specs.FinMap.{FinMap, entries}
use Rattle.std.specs.FinMap as map
use Rattle.std.specs.Coded.{Coded, code_by, coded×, coded_ℕ, coded_bool, coded_list}
use Rattle.flux_model.specs.Exact.{Row, StateRows, pair_cmp, row_at}
use Rattle.dcg_store.specs.Counters.{is_full}

-- a row of a pair of the pattern vertex u has a joint that leads in, and a counter for each child of u
pub record IsSoundRow (children : List ℕ) (u : ℕ) (row : Row) : Type 0 where
  pub inside : u < length children
  pub has_ins : 0 < row.ins
  pub width : length row.outs ≡ slice_index children u

-- each row is as above
pub record HasSoundRows (d : StateRows) : Type 0 where
  pub rows : (u v : ℕ) (row : Row) → row_at d u v ≡ Some row → IsSoundRow d.children u row

-- whether the entry is an explicit pair of the pattern vertex u
abbrev pub is_live : ℕ → (ℕ × ℕ) × Row → Bool
is_live u entry = entry.0.0 == u && is_full entry.1

-- how many pairs of the pattern vertex u are explicit
abbrev pub live_count : StateRows → ℕ → ℕ
live_count d u = count_by (is_live u) (entries d.rows)

-- ---- the codes of the values

abbrev pub row_code : Coded Row
row_code = code_by (ℕ × List ℕ) (coded× coded_ℕ (coded_list coded_ℕ)) (λ r. (r.ins, r.outs)) (λ p. record { ins = p.0; outs = p.1 }) (λ _. refl)

abbrev pub rows_code : Coded (FinMap pair_cmp Row)
rows_code = map.code (coded× coded_ℕ coded_ℕ) row_code

abbrev pub layer_code : Coded (FinMap nat_cmp Row)
layer_code = map.code coded_ℕ row_code

abbrev pub state_rows_code : Coded StateRows
state_rows_code =
    code_by (Bool × (List ℕ × FinMap pair_cmp Row)) (coded× coded_bool (coded× (coded_list coded_ℕ) rows_code)) (λ d. (d.is_broken, (d.children, d.rows)))
    (λ p. record { is_broken = p.0; children = p.1.0; rows = p.1.1 }) (λ _. refl)
