use Rattle.std.proofs.Common.{◌<◌, ◌∷◌, [], refl}
use Rattle.std.specs.Prelude.{None}
use Rattle.worked_rows.proofs.CounterLemmas.{none_at_first, no_room_wanted, row_stays}
use Rattle.worked_rows.proofs.counter_rows.edge_by_both_ends.Goals as goal

pub raise_in-requires-clause-room : goal.raise_in-requires-clause-room
raise_in-requires-clause-room c =
    no_room_wanted (λ row. row.ins < 4294967295) c.in_ok-dcg.dcg 0 5 (none_at_first c.in_ok-dcg.dcg (1 ∷ 0 ∷ []) 0 5 c.in_ok-dcg.ensures)

pub raise_in-requires-2-clause-room : goal.raise_in-requires-2-clause-room
raise_in-requires-2-clause-room c =
    no_room_wanted (λ row. row.ins < 4294967295) c.raise_in.new.self 1 6
    (row_stays c.in_ok-dcg.dcg c.raise_in.new.self 0 5 1 6 None refl c.in_ok-raise_in.ensures.ok (none_at_first c.in_ok-dcg.dcg (1 ∷ 0 ∷ []) 1 6 c.in_ok-dcg.ensures))
