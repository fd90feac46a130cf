use Rattle.std.proofs.Common.{sym, ◌∙◌}
use Rattle.tree_search.proofs.WayLemmas.{turns_out, turns_in}
use Rattle.tree_search.proofs.other_rows.turns.Goals as goal

pub returns-in-Out : goal.returns-in-Out
returns-in-Out g c = c.out_degree.ensures ∙ sym (turns_out (g.G.HoldGraph.graph c.args.graph.now) c.args.row.now c.in-Out.is)

pub returns-in-In : goal.returns-in-In
returns-in-In g c = c.in_degree.ensures ∙ sym (turns_in (g.G.HoldGraph.graph c.args.graph.now) c.args.row.now c.in-In.is)
