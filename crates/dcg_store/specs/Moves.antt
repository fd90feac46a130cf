-- How each move changes the rows.
use Rattle.std.specs.Prelude.{ℕ, ◌==◌, slice_index, if◌then◌else◌}
use Rattle.std.specs.Option.{option_map_or}
use Rattle.std.specs.declared.cmp.Ordering.{Ordering}
use Rattle.std.specs.FinMap.{FinMap, get, insert, remove}
use Rattle.flux_model.specs.Exact.{Row, StateRows}
use Rattle.dcg_store.specs.Counters.{first_row, more_ins, fewer_ins, more_outs, fewer_outs}

module _ {K : Type 0} {R : K → K → Ordering} where
  -- with the row at the key changed, where there is one
  abbrev pub with_changed : (Row → Row) → FinMap R Row → K → FinMap R Row
  with_changed change rows k = option_map_or (λ row. insert rows k (change row)) (get rows k) rows

  -- with one joint more that leads in; where there is no row, one begins with so many children
  abbrev pub with_more_ins : ℕ → FinMap R Row → K → FinMap R Row
  with_more_ins width rows k = insert rows k (option_map_or more_ins (get rows k) (first_row width))

  -- with one joint less that leads in; the row goes with its last
  abbrev pub with_fewer_ins : FinMap R Row → K → FinMap R Row
  with_fewer_ins rows k = option_map_or (λ row. if row.ins == 1 then remove rows k else insert rows k (fewer_ins row)) (get rows k) rows

-- with one joint more into the pair, which gets a row where it has none
abbrev pub in_raised : StateRows → ℕ → ℕ → StateRows
in_raised d u v = record d { rows = with_more_ins (slice_index d.children u) d.rows (u, v) }

-- with one joint less into the pair, whose row goes with the last
abbrev pub in_lowered : StateRows → ℕ → ℕ → StateRows
in_lowered d u v = record d { rows = with_fewer_ins d.rows (u, v) }

-- with one joint more from the pair to an explicit pair of its child of number j
abbrev pub out_raised : StateRows → ℕ → ℕ → ℕ → StateRows
out_raised d u v j = record d { rows = with_changed (more_outs j) d.rows (u, v) }

-- with one joint less from the pair to an explicit pair of its child of number j
abbrev pub out_lowered : StateRows → ℕ → ℕ → ℕ → StateRows
out_lowered d u v j = record d { rows = with_changed (fewer_outs j) d.rows (u, v) }
