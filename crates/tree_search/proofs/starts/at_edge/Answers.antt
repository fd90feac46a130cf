use Rattle.std.proofs.Common.{◌≡◌, sym, ap, ◌∙◌, subst, arith}
use Rattle.std.proofs.lemmas.Result.{on_ok_weaker}
use Rattle.flux_model.specs.Pattern.{HasEnds, vertex_count}
use Rattle.flux_model.specs.States.{joined}
use Rattle.flux_model.specs.Tree.{edge_at}
use Rattle.flux_model.specs.declared.pattern.PatternEdge.{PatternEdge}
use Rattle.nontree_test.proofs.SentLemmas.{edge_read}
use Rattle.flux_model.specs.Classes.{edge_class}
use Rattle.flux_model.specs.Costs.{may_be_sent, are_explicit}
use Rattle.tree_search.proofs.TieLemmas.{children_sized}
use Rattle.tree_search.proofs.BarrenLemmas.{barren_none}
use Rattle.tree_search.proofs.EdgeLemmas.{barren_class, grew_by_no, closed_class, implicit_class, cost_shut}
use Rattle.tree_search.proofs.starts.at_edge.Goals as goal

pub returns-then-not-may_be_sent-clause-found : goal.returns-then-not-may_be_sent-clause-found
returns-then-not-may_be_sent-clause-found g c =
    let q = c.args.pattern.now in
    let graph = g.G.HoldGraph.graph c.args.graph.now in
    let list = g.F.Found.list c.args.found.now in
    let read : edge_at q c.args.number ≡ c.edge-edge.result.now = edge_read q c.args.number c.edge-edge.result.now c.edge-edge.ensures.edge in
    grew_by_no list (edge_class q graph c.args.triple.now c.args.number)
    (closed_class q graph c.args.number c.args.triple.now (ap (λ (e : PatternEdge). may_be_sent e c.args.triple.now) read ∙ sym c.may_be_sent.ensures ∙ c.if-not-may_be_sent.true))

pub returns-then-not-is_entered-clause-found : goal.returns-then-not-is_entered-clause-found
returns-then-not-is_entered-clause-found g c =
    let q = c.args.pattern.now in
    let graph = g.G.HoldGraph.graph c.args.graph.now in
    let list = g.F.Found.list c.args.found.now in
    let read : edge_at q c.args.number ≡ c.edge-edge.result.now = edge_read q c.args.number c.edge-edge.result.now c.edge-edge.ensures.edge in
    let ends : HasEnds (vertex_count q) (edge_at q c.args.number) = subst (HasEnds (vertex_count q)) (sym read) c.edge-edge.ensures.ends in
    grew_by_no list (edge_class q graph c.args.triple.now c.args.number)
    (implicit_class q graph c.args.number c.args.triple.now c.args.tree.now c.requires.belongs ends (ap (λ (e : PatternEdge). are_explicit (joined q c.args.tree.now graph) e c.args.triple.now) read ∙ sym c.is_entered.ensures.value ∙ c.if-not-is_entered.true))

pub returns-then-not-is_entered-clause-steps : goal.returns-then-not-is_entered-clause-steps
returns-then-not-is_entered-clause-steps g c =
    let q = c.args.pattern.now in
    let graph = g.G.HoldGraph.graph c.args.graph.now in
    let read : edge_at q c.args.number ≡ c.edge-edge.result.now = edge_read q c.args.number c.edge-edge.result.now c.edge-edge.ensures.edge in
    let shut = cost_shut q c.args.tree.now graph c.args.number c.args.triple.now (ap (λ (e : PatternEdge). may_be_sent e c.args.triple.now) read ∙ sym c.may_be_sent.ensures ∙ c.if-not-may_be_sent.false)
    (ap (λ (e : PatternEdge). are_explicit (joined q c.args.tree.now graph) e c.args.triple.now) read ∙ sym c.is_entered.ensures.value ∙ c.if-not-is_entered.true) in
    omega (arith, shut, c.is_entered.ensures.steps)

pub is_barren-requires-clause-vertices : goal.is_barren-requires-clause-vertices
is_barren-requires-clause-vertices g c = children_sized c.args.pattern.now c.args.tree.now c.args.dcg.now (g.G.HoldGraph.graph c.args.graph.now) c.requires.belongs c.requires.exact

pub returns-then-is_barren-clause-found : goal.returns-then-is_barren-clause-found
returns-then-is_barren-clause-found g c =
    let q = c.args.pattern.now in
    let graph = g.G.HoldGraph.graph c.args.graph.now in
    grew_by_no (g.F.Found.list c.args.found.now) (edge_class q graph c.args.triple.now c.args.number)
    (barren_class q graph c.args.number c.args.triple.now (barren_none q c.args.tree.now c.args.dcg.now graph c.requires.belongs c.requires.exact c.vertex_count-count.ensures.held.graph (sym c.is_barren.ensures ∙ c.if-is_barren.true)))

pub search_from-requires-clause-sent : goal.search_from-requires-clause-sent
search_from-requires-clause-sent g c =
    let q = c.args.pattern.now in
    let read : edge_at q c.args.number ≡ c.edge-edge.result.now = edge_read q c.args.number c.edge-edge.result.now c.edge-edge.ensures.edge in
    ap (λ (e : PatternEdge). may_be_sent e c.args.triple.now) read ∙ sym c.may_be_sent.ensures ∙ c.if-not-may_be_sent.false

pub search_from-requires-clause-entered : goal.search_from-requires-clause-entered
search_from-requires-clause-entered g c =
    let q = c.args.pattern.now in
    let graph = g.G.HoldGraph.graph c.args.graph.now in
    let read : edge_at q c.args.number ≡ c.edge-edge.result.now = edge_read q c.args.number c.edge-edge.result.now c.edge-edge.ensures.edge in
    ap (λ (e : PatternEdge). are_explicit (joined q c.args.tree.now graph) e c.args.triple.now) read ∙ sym c.is_entered.ensures.value ∙ c.if-not-is_entered.false

pub returns-clause-steps : goal.returns-clause-steps
returns-clause-steps g c =
    on_ok_weaker c.search_from.result (λ most. omega (arith, most, c.is_entered.ensures.steps)) c.search_from.ensures.steps
