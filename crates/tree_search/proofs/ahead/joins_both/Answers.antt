use Rattle.std.proofs.Common.{None, sym, subst, ◌∙◌}
use Rattle.std.specs.Prelude.{slice_index_or}
use Rattle.std.proofs.lemmas.Bool.{both_ways}
use Rattle.flux_model.specs.Graph.{has_triple}
use Rattle.flux_model.specs.declared.pattern.PatternEdge.{PatternEdge}
use Rattle.graph_traits.specs.Numbers.{IsNumberIn}
use Rattle.nontree_test.proofs.SentLemmas.{edge_read}
use Rattle.tree_search.proofs.AheadLemmas.{between_stands}
use Rattle.tree_search.proofs.ahead.joins_both.Goals as goal

pub returns-then-edge-u-clause-none : goal.returns-then-edge-u-clause-none
returns-then-edge-u-clause-none g c = λ fails m is first last.
    (let s = c.args.search.now in
    let graph = g.G.HoldGraph.graph s.graph.now in
    let e = c.edge-edge.result.now in
    both_ways (has_triple graph (record { src = c.args.x; label = e.label; dst = c.args.y })) (sym c.stands.ensures.value ∙ fails)
    (between_stands s.pattern.now graph m is c.args.i c.requires.edge e (edge_read s.pattern.now c.args.i e c.edge-edge.ensures.edge) c.args.w c.args.u c.args.x c.args.y c.if-edge-w.true c.if-edge-u.true first last))

pub stands-requires-then-edge-w-2 : goal.stands-requires-then-edge-w-2
stands-requires-then-edge-w-2 g c =
    let s = c.args.search.now in
    let e = c.edge-edge.result.now in
    subst (λ (f : PatternEdge). IsNumberIn (g.G.HoldGraph.label_text s.graph.now) (g.G.HoldGraph.graph s.graph.now) f.label (slice_index_or s.numbers c.args.i None))
    (edge_read s.pattern.now c.args.i e c.edge-edge.ensures.edge) (c.requires.numbers.each c.args.i c.requires.edge)

pub returns-then-edge-w-2-clause-none : goal.returns-then-edge-w-2-clause-none
returns-then-edge-w-2-clause-none g c = λ fails m is first last.
    (let s = c.args.search.now in
    let graph = g.G.HoldGraph.graph s.graph.now in
    let e = c.edge-edge.result.now in
    both_ways (has_triple graph (record { src = c.args.y; label = e.label; dst = c.args.x })) (sym c.stands-then-edge-w-2.ensures.value ∙ fails)
    (between_stands s.pattern.now graph m is c.args.i c.requires.edge e (edge_read s.pattern.now c.args.i e c.edge-edge.ensures.edge) c.args.u c.args.w c.args.y c.args.x c.if-edge-u-2.true c.if-edge-w-2.true last first))
