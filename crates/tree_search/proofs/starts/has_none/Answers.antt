use Rattle.std.proofs.Common.{sym, ◌∙◌}
use Rattle.tree_search.proofs.BarrenLemmas.{barren_none}
use Rattle.tree_search.proofs.TieLemmas.{children_sized}
use Rattle.tree_search.proofs.starts.has_none.Goals as goal

pub is_barren-requires-clause-vertices : goal.is_barren-requires-clause-vertices
is_barren-requires-clause-vertices g c = children_sized c.args.pattern.now c.args._tree.now c.args.dcg.now (g.G.HoldGraph.graph c.args.graph.now) c.requires.belongs c.requires.exact

pub returns : goal.returns
returns g c = record {
  none = λ barren. barren_none c.args.pattern.now c.args._tree.now c.args.dcg.now (g.G.HoldGraph.graph c.args.graph.now) c.requires.belongs c.requires.exact c.vertex_count-count.ensures.held.graph (sym c.is_barren.ensures ∙ barren);
}
