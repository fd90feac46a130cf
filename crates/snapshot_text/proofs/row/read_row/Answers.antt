use Rattle.snapshot_text.proofs.RowLemmas.{row_sorted}
use Rattle.snapshot_text.proofs.row.read_row.Goals as goal

pub returns : goal.returns
returns g c =
    row_sorted (g.G.HoldGraph.graph c.args.graph.now) c.args.id c.loop-turn.row.items c.sort_unstable.new.self.items _ _ c.requires.graph c.first-at.ensures.all
    c.loop-turn.invariant.row c.in_default.ensures.turn c.sort_unstable.ensures.permutation c.sort_unstable.ensures.sorted
