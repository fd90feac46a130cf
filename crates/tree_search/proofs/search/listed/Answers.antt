use Rattle.std.proofs.Common.{slice_index, sym, ap, ◌∙◌, arith}
use Rattle.flux_model.specs.States.{joined, is_explicit}
use Rattle.flux_model.proofs.MemberLemmas.{filter_in}
use Rattle.tree_search.specs.Aim.{aimed}
use Rattle.tree_search.specs.Given.{nth_vertex}
use Rattle.tree_search.specs.Members.{goes_on}
use Rattle.tree_search.proofs.CandidateLemmas.{layer_has, one_distinct, one_has}
use Rattle.tree_search.proofs.TieLemmas.{children_count}
use Rattle.tree_search.proofs.GivenLemmas.{vertex_inside, member_explicit}
use Rattle.tree_search.proofs.PassLemmas.{member}
use Rattle.tree_search.proofs.search.listed.Goals as goal

pub row_vertices-requires-clause-vertex : goal.row_vertices-requires-clause-vertex
row_vertices-requires-clause-vertex g c =
    let s = c.args.search.now in
    let graph = g.G.HoldGraph.graph s.graph.now in
    let count = children_count s.pattern.now s.tree.now s.dcg.now graph c.requires.ready.belongs c.requires.ready.exact in
    let inside = vertex_inside s.pattern.now s.tree.now s.dcg.now graph s.order c.requires.ready c.args.k c.requires.few c.args._partial.now c.requires.given in
    omega (arith, count, inside, c.requires.given.places, c.vertex-w.ensures)

pub returns-in-Some-clause-once : goal.returns-in-Some-clause-once
returns-in-Some-clause-once g c = one_distinct c.from_ref.result.now c.in-Some.id.now c.from_ref.ensures.value

pub returns-in-Some-clause-each : goal.returns-in-Some-clause-each
returns-in-Some-clause-each g c = λ m i.
    (let s = c.args.search.now in
    let graph = g.G.HoldGraph.graph s.graph.now in
    let looked = filter_in (goes_on c.args._partial.now) (aimed s.pattern.now graph s.aim) m i in
    one_has c.from_ref.result.now c.in-Some.id.now (slice_index m (nth_vertex s.order c.args.k)) c.from_ref.ensures.value
    (ap (slice_index m) (sym c.vertex-w.ensures) ∙ c.in-Some.ensures graph m looked.0))

pub returns-in-None-clause-each : goal.returns-in-None-clause-each
returns-in-None-clause-each g c = λ m i.
    (let s = c.args.search.now in
    let graph = g.G.HoldGraph.graph s.graph.now in
    let x = slice_index m (nth_vertex s.order c.args.k) in
    let is = member s.pattern.now graph s.aim c.args._partial.now m i in
    let explicit = member_explicit s.pattern.now s.tree.now s.dcg.now graph s.order c.requires.ready c.args.k c.requires.few c.args._partial.now c.requires.given m is.0 in
    layer_has s.pattern.now s.tree.now s.dcg.now graph c.requires.ready.exact c.vertex-w.result c.row_vertices.result.now c.row_vertices.ensures.rows x
    ((λ n. is_explicit (joined s.pattern.now s.tree.now graph) (c.vertex-w.ensures n) x) ∙ explicit))
