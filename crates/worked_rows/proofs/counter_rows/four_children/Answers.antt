use Rattle.std.proofs.Common.{◌≡◌, ◌<◌, false, ◌∷◌, [], refl, ap, arith}
use Rattle.std.specs.Prelude.{Some, slice_index}
use Rattle.flux_model.specs.Exact.{StateRows}
use Rattle.dcg_store.specs.Counters.{first_row, more_outs}
use Rattle.dcg_store.specs.Moves.{in_raised}
use Rattle.std.specs.FinMap.{empty}
use Rattle.worked_rows.proofs.CounterLemmas.{HasRow, none_at_first, no_room_wanted, row_begins, row_gains_out, has}
use Rattle.worked_rows.proofs.counter_rows.four_children.Goals as goal

pub raise_in-requires-clause-room : goal.raise_in-requires-clause-room
raise_in-requires-clause-room c =
    no_room_wanted (λ row. row.ins < 4294967295) c.in_ok-dcg.dcg 0 1 (none_at_first c.in_ok-dcg.dcg (4 ∷ 0 ∷ 0 ∷ 0 ∷ 0 ∷ []) 0 1 c.in_ok-dcg.ensures)

-- the row that the first move begins
begun : (d e : StateRows) → d ≡ record { is_broken = false; children = 4 ∷ 0 ∷ 0 ∷ 0 ∷ 0 ∷ []; rows = empty } → e ≡ in_raised d 0 1 → HasRow e 0 1 (Some (first_row 4))
begun d e new raised = row_begins d e 0 1 0 1 4 refl raised (ap (λ r. slice_index r.children 0) new) (none_at_first d (4 ∷ 0 ∷ 0 ∷ 0 ∷ 0 ∷ []) 0 1 new)

pub raise_out-requires-clause-room : goal.raise_out-requires-clause-room
raise_out-requires-clause-room c =
    has (λ row. slice_index row.outs 3 < 4294967295) c.raise_in.new.self 0 1 (first_row 4) (begun c.in_ok-dcg.dcg c.raise_in.new.self c.in_ok-dcg.ensures c.in_ok-raise_in.ensures.ok) (omega arith)

pub raise_out-requires-2-clause-room : goal.raise_out-requires-2-clause-room
raise_out-requires-2-clause-room c =
    let before = begun c.in_ok-dcg.dcg c.raise_in.new.self c.in_ok-dcg.ensures c.in_ok-raise_in.ensures.ok in
    let after = row_gains_out c.raise_in.new.self c.raise_out.new.self 0 1 0 1 3 (first_row 4) refl c.raise_out.ensures.raised before in
    has (λ row. slice_index row.outs 0 < 4294967295) c.raise_out.new.self 0 1 (more_outs 3 (first_row 4)) after (omega arith)

pub raise_out-requires-3-clause-room : goal.raise_out-requires-3-clause-room
raise_out-requires-3-clause-room c =
    let before = begun c.in_ok-dcg.dcg c.raise_in.new.self c.in_ok-dcg.ensures c.in_ok-raise_in.ensures.ok in
    let after = row_gains_out c.raise_in.new.self c.raise_out.new.self 0 1 0 1 3 (first_row 4) refl c.raise_out.ensures.raised before in
    let twice = row_gains_out c.raise_out.new.self c.raise_out-2.new.self 0 1 0 1 0 (more_outs 3 (first_row 4)) refl c.raise_out-2.ensures.raised after in
    has (λ row. slice_index row.outs 1 < 4294967295) c.raise_out-2.new.self 0 1 (more_outs 0 (more_outs 3 (first_row 4))) twice (omega arith)

pub raise_out-requires-4-clause-room : goal.raise_out-requires-4-clause-room
raise_out-requires-4-clause-room c =
    let before = begun c.in_ok-dcg.dcg c.raise_in.new.self c.in_ok-dcg.ensures c.in_ok-raise_in.ensures.ok in
    let after = row_gains_out c.raise_in.new.self c.raise_out.new.self 0 1 0 1 3 (first_row 4) refl c.raise_out.ensures.raised before in
    let twice = row_gains_out c.raise_out.new.self c.raise_out-2.new.self 0 1 0 1 0 (more_outs 3 (first_row 4)) refl c.raise_out-2.ensures.raised after in
    let thrice = row_gains_out c.raise_out-2.new.self c.raise_out-3.new.self 0 1 0 1 1 (more_outs 0 (more_outs 3 (first_row 4))) refl c.raise_out-3.ensures.raised twice in
    has (λ row. slice_index row.outs 2 < 4294967295) c.raise_out-3.new.self 0 1 (more_outs 1 (more_outs 0 (more_outs 3 (first_row 4)))) thrice (omega arith)
