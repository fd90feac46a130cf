use Rattle.std.proofs.Common.{◌≡◌, [], Some, None, sym, subst, ◌∙◌}
use Rattle.std.specs.Prelude.{slice_index_or}
use Rattle.std.proofs.lemmas.Option.{get_or_from_slice_get}
use Rattle.flux_model.specs.Partial.{id_of}
use Rattle.flux_model.specs.Tree.{edge_at}
use Rattle.flux_model.specs.declared.pattern.PatternEdge.{PatternEdge}
use Rattle.graph_traits.specs.Numbers.{IsNumberIn}
use Rattle.tree_search.specs.Given.{nth_vertex}
use Rattle.tree_search.specs.Ways.{end_beside}
use Rattle.tree_search.proofs.GivenLemmas.{given_stands}
use Rattle.tree_search.proofs.WayLemmas.{edge_leads}
use Rattle.tree_search.proofs.other_rows.row_by.Goals as goal

pub returns : goal.returns
returns g c =
    let s = c.args.search.now in
    let q = s.pattern.now in
    let graph = g.G.HoldGraph.graph s.graph.now in
    let p = c.args.partial.now in
    let i = c.args.i in
    let e = c.edge-edge.result.now in
    let b = c.in_ok-beside.beside in
    let v = c.in_ok-vertex.vertex in
    let read : edge_at q i ≡ e = get_or_from_slice_get q.edges i e (record { tail = 0; label = []; head = 0 }) c.edge-edge.ensures.edge in
    let beside : end_beside e c.vertex-w.result ≡ Some b = sym c.end_beside.ensures ∙ c.in_ok-beside.was in
    let has : id_of p b ≡ Some v = get_or_from_slice_get p b c.get.result None c.get.ensures ∙ c.in_ok-vertex.was in
    let P : PatternEdge → Type 0 = λ f. IsNumberIn (g.G.HoldGraph.label_text s.graph.now) graph f.label (slice_index_or s.numbers i None) in
    record {
      stands = given_stands q s.tree.now s.dcg.now graph s.order c.requires.ready c.args.k c.requires.few p c.requires.given b v has;
      number = subst P read (c.requires.numbers.each i c.requires.edge);
      leads = edge_leads q graph p (nth_vertex s.order c.args.k) i c.requires.edge e read c.vertex-w.result c.vertex-w.ensures b v beside has c.to.result c.to.ensures;
    }
