use Rattle.std.proofs.Common.{◌<◌, ◌∷◌, [], refl, ap, arith}
use Rattle.std.specs.Prelude.{is_some, slice_index}
use Rattle.dcg_store.specs.Counters.{first_row, more_ins}
use Rattle.worked_rows.proofs.CounterLemmas.{none_at_first, no_room_wanted, row_begins, row_gains_in, row_loses_in, has_room}
use Rattle.worked_rows.proofs.counter_rows.two_joints_in.Goals as goal

pub raise_in-requires-clause-room : goal.raise_in-requires-clause-room
raise_in-requires-clause-room c =
    no_room_wanted (λ row. row.ins < 4294967295) c.in_ok-dcg.dcg 0 7 (none_at_first c.in_ok-dcg.dcg (0 ∷ []) 0 7 c.in_ok-dcg.ensures)

pub raise_in-requires-2-clause-room : goal.raise_in-requires-2-clause-room
raise_in-requires-2-clause-room c =
    let begun = row_begins c.in_ok-dcg.dcg c.raise_in.new.self 0 7 0 7 0 refl c.in_ok-raise_in.ensures.ok (ap (λ d. slice_index d.children 0) c.in_ok-dcg.ensures) (none_at_first c.in_ok-dcg.dcg (0 ∷ []) 0 7 c.in_ok-dcg.ensures) in
    has_room (λ row. row.ins < 4294967295) c.raise_in.new.self 0 7 (first_row 0) begun (omega arith)

pub lower_in-requires-clause-row : goal.lower_in-requires-clause-row
lower_in-requires-clause-row c =
    let begun = row_begins c.in_ok-dcg.dcg c.raise_in.new.self 0 7 0 7 0 refl c.in_ok-raise_in.ensures.ok (ap (λ d. slice_index d.children 0) c.in_ok-dcg.ensures) (none_at_first c.in_ok-dcg.dcg (0 ∷ []) 0 7 c.in_ok-dcg.ensures) in
    ap is_some (row_gains_in c.raise_in.new.self c.raise_in-2.new.self 0 7 0 7 (first_row 0) refl c.in_ok-raise_in-2.ensures.ok begun)

pub lower_in-requires-2-clause-row : goal.lower_in-requires-2-clause-row
lower_in-requires-2-clause-row c =
    let begun = row_begins c.in_ok-dcg.dcg c.raise_in.new.self 0 7 0 7 0 refl c.in_ok-raise_in.ensures.ok (ap (λ d. slice_index d.children 0) c.in_ok-dcg.ensures) (none_at_first c.in_ok-dcg.dcg (0 ∷ []) 0 7 c.in_ok-dcg.ensures) in
    let gains = row_gains_in c.raise_in.new.self c.raise_in-2.new.self 0 7 0 7 (first_row 0) refl c.in_ok-raise_in-2.ensures.ok begun in
    ap is_some (row_loses_in c.raise_in-2.new.self c.lower_in.new.self 0 7 0 7 (more_ins (first_row 0)) refl c.lower_in.ensures.lowered gains)
