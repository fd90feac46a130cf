use Rattle.std.proofs.Common.{◌∙◌, arith}
use Rattle.snapshot_text.proofs.VertexLemmas.{sorted_ids, listed_more}
use Rattle.snapshot_text.proofs.graph.sorted_ids.Goals as goal

pub loop-i-preserved : goal.loop-i-preserved
loop-i-preserved g c = c.in_ok-push.ensures.items ∙ listed_more _ _ c.loop-i.i c.vertex_at.result c.vertex_at.ensures.id c.loop-i.invariant

pub returns-clause-ids : goal.returns-clause-ids
returns-clause-ids g c =
    sorted_ids (g.G.HoldGraph.graph c.args.graph.now) (g.G.HoldGraph.listed c.args.graph.now) c.loop-i.ids.items c.sort_unstable.new.self.items c.loop-i.i c.vertex_count-count.ensures.held.graph
    c.vertex_count-count.ensures.listed (omega arith) c.loop-i.invariant c.sort_unstable.ensures.permutation c.sort_unstable.ensures.sorted
