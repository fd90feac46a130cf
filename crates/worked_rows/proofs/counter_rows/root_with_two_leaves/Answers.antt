use Rattle.std.proofs.Common.{◌<◌, ◌∷◌, [], refl, ap, arith}
use Rattle.std.specs.Prelude.{None, Some, is_some, slice_index}
use Rattle.dcg_store.specs.Counters.{first_row, more_outs}
use Rattle.worked_rows.proofs.CounterLemmas.{none_at_first, no_room_wanted, row_begins, row_stays, row_gains_out, row_loses_out, has}
use Rattle.worked_rows.proofs.counter_rows.root_with_two_leaves.Goals as goal

pub raise_in-requires-clause-room : goal.raise_in-requires-clause-room
raise_in-requires-clause-room c =
    no_room_wanted (λ row. row.ins < 4294967295) c.in_ok-dcg.dcg 0 5 (none_at_first c.in_ok-dcg.dcg (2 ∷ 0 ∷ 0 ∷ []) 0 5 c.in_ok-dcg.ensures)

pub raise_in-requires-2-clause-room : goal.raise_in-requires-2-clause-room
raise_in-requires-2-clause-room c =
    no_room_wanted (λ row. row.ins < 4294967295) c.raise_in.new.self 1 6
    (row_stays c.in_ok-dcg.dcg c.raise_in.new.self 0 5 1 6 None refl c.in_ok-raise_in.ensures.ok (none_at_first c.in_ok-dcg.dcg (2 ∷ 0 ∷ 0 ∷ []) 1 6 c.in_ok-dcg.ensures))

pub raise_out-requires-clause-room : goal.raise_out-requires-clause-room
raise_out-requires-clause-room c =
    let begun = row_begins c.in_ok-dcg.dcg c.raise_in.new.self 0 5 0 5 2 refl c.in_ok-raise_in.ensures.ok (ap (λ d. slice_index d.children 0) c.in_ok-dcg.ensures) (none_at_first c.in_ok-dcg.dcg (2 ∷ 0 ∷ 0 ∷ []) 0 5 c.in_ok-dcg.ensures) in
    let stays = row_stays c.raise_in.new.self c.raise_in-2.new.self 1 6 0 5 (Some (first_row 2)) refl c.in_ok-raise_in-2.ensures.ok begun in
    has (λ row. slice_index row.outs 0 < 4294967295) c.raise_in-2.new.self 0 5 (first_row 2) stays (omega arith)

pub raise_out-requires-2-clause-room : goal.raise_out-requires-2-clause-room
raise_out-requires-2-clause-room c =
    let begun = row_begins c.in_ok-dcg.dcg c.raise_in.new.self 0 5 0 5 2 refl c.in_ok-raise_in.ensures.ok (ap (λ d. slice_index d.children 0) c.in_ok-dcg.ensures) (none_at_first c.in_ok-dcg.dcg (2 ∷ 0 ∷ 0 ∷ []) 0 5 c.in_ok-dcg.ensures) in
    let stays = row_stays c.raise_in.new.self c.raise_in-2.new.self 1 6 0 5 (Some (first_row 2)) refl c.in_ok-raise_in-2.ensures.ok begun in
    let gains = row_gains_out c.raise_in-2.new.self c.raise_out.new.self 0 5 0 5 0 (first_row 2) refl c.raise_out.ensures.raised stays in
    has (λ row. slice_index row.outs 1 < 4294967295) c.raise_out.new.self 0 5 (more_outs 0 (first_row 2)) gains (omega arith)

pub lower_out-requires-clause-counted : goal.lower_out-requires-clause-counted
lower_out-requires-clause-counted c =
    let begun = row_begins c.in_ok-dcg.dcg c.raise_in.new.self 0 5 0 5 2 refl c.in_ok-raise_in.ensures.ok (ap (λ d. slice_index d.children 0) c.in_ok-dcg.ensures) (none_at_first c.in_ok-dcg.dcg (2 ∷ 0 ∷ 0 ∷ []) 0 5 c.in_ok-dcg.ensures) in
    let stays = row_stays c.raise_in.new.self c.raise_in-2.new.self 1 6 0 5 (Some (first_row 2)) refl c.in_ok-raise_in-2.ensures.ok begun in
    let gains = row_gains_out c.raise_in-2.new.self c.raise_out.new.self 0 5 0 5 0 (first_row 2) refl c.raise_out.ensures.raised stays in
    let twice = row_gains_out c.raise_out.new.self c.raise_out-2.new.self 0 5 0 5 1 (more_outs 0 (first_row 2)) refl c.raise_out-2.ensures.raised gains in
    has (λ row. 0 < slice_index row.outs 1) c.raise_out-2.new.self 0 5 (more_outs 1 (more_outs 0 (first_row 2))) twice (omega arith)

pub lower_in-requires-clause-row : goal.lower_in-requires-clause-row
lower_in-requires-clause-row c =
    let begun = row_begins c.in_ok-dcg.dcg c.raise_in.new.self 0 5 0 5 2 refl c.in_ok-raise_in.ensures.ok (ap (λ d. slice_index d.children 0) c.in_ok-dcg.ensures) (none_at_first c.in_ok-dcg.dcg (2 ∷ 0 ∷ 0 ∷ []) 0 5 c.in_ok-dcg.ensures) in
    let stays = row_stays c.raise_in.new.self c.raise_in-2.new.self 1 6 0 5 (Some (first_row 2)) refl c.in_ok-raise_in-2.ensures.ok begun in
    let gains = row_gains_out c.raise_in-2.new.self c.raise_out.new.self 0 5 0 5 0 (first_row 2) refl c.raise_out.ensures.raised stays in
    let twice = row_gains_out c.raise_out.new.self c.raise_out-2.new.self 0 5 0 5 1 (more_outs 0 (first_row 2)) refl c.raise_out-2.ensures.raised gains in
    ap is_some (row_loses_out c.raise_out-2.new.self c.lower_out.new.self 0 5 0 5 1 (more_outs 1 (more_outs 0 (first_row 2))) refl c.lower_out.ensures.lowered twice)
