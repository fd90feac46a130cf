use Rattle.std.proofs.Common.{◌≡◌, [], Some, None, refl, sym, ap, subst, ◌∙◌, arith}
use Rattle.std.specs.Prelude.{IsSome, slice_index_or}
use Rattle.std.proofs.lemmas.Option.{get_or_from_slice_get}
use Rattle.flux_model.specs.Partial.{id_of}
use Rattle.flux_model.specs.Order.{are_neighbours}
use Rattle.flux_model.specs.Tree.{edge_at}
use Rattle.flux_model.specs.declared.pattern.PatternEdge.{PatternEdge}
use Rattle.graph_traits.specs.Numbers.{IsNumberIn}
use Rattle.graph_rows.specs.Directions.{direction_to}
use Rattle.tree_search.specs.Given.{nth_vertex, nth_anchor, edge_between}
use Rattle.tree_search.proofs.TieLemmas.{anchor_inside, anchor_beside, anchor_given}
use Rattle.tree_search.proofs.search.row_to.Goals as goal

pub edge_between-number-requires-clause-anchor : goal.edge_between-number-requires-clause-anchor
edge_between-number-requires-clause-anchor g c =
    let s = c.args.search.now in
    let inside = anchor_inside s.pattern.now s.tree.now s.dcg.now (g.G.HoldGraph.graph s.graph.now) s.order c.requires.ready c.args.k c.requires.some c.requires.few in
    omega (arith, inside, c.anchor-anchor.ensures)

pub edge_between-number-requires-clause-joined : goal.edge_between-number-requires-clause-joined
edge_between-number-requires-clause-joined g c =
    let s = c.args.search.now in
    (λ i. are_neighbours s.tree.now (c.vertex-w.ensures i) (c.anchor-anchor.ensures i))
    ∙ anchor_beside s.pattern.now s.tree.now s.dcg.now (g.G.HoldGraph.graph s.graph.now) s.order c.requires.ready c.args.k c.requires.some c.requires.few

pub get-requires : goal.get-requires
get-requires g c =
    let s = c.args.search.now in
    let inside = anchor_inside s.pattern.now s.tree.now s.dcg.now (g.G.HoldGraph.graph s.graph.now) s.order c.requires.ready c.args.k c.requires.some c.requires.few in
    omega (arith, inside, c.anchor-anchor.ensures, c.requires.given.places, c.requires.ready.belongs.vertices)

pub unwrap-requires : goal.unwrap-requires
unwrap-requires g c =
    let s = c.args.search.now in
    let v = anchor_given s.pattern.now s.tree.now s.dcg.now (g.G.HoldGraph.graph s.graph.now) s.order c.requires.ready c.args.k c.requires.some c.requires.few c.args.partial.now c.requires.given in
    let is = get_or_from_slice_get c.args.partial.now c.anchor-anchor.result c.get.result None c.get.ensures in
    let same : c.get.result ≡ Some v.0 = sym is ∙ ap (id_of c.args.partial.now) c.anchor-anchor.ensures ∙ v.1 in
    subst IsSome (sym same) refl

pub returns-clause-row : goal.returns-clause-row
returns-clause-row g c =
    let s = c.args.search.now in
    let q = s.pattern.now in
    let t = s.tree.now in
    let is = get_or_from_slice_get c.args.partial.now c.anchor-anchor.result c.get.result None c.get.ensures in
    let found = get_or_from_slice_get q.edges c.edge_between-number.result c.edge-edge.result.now (record { tail = 0; label = []; head = 0 }) c.edge-edge.ensures.edge in
    let edge : c.edge-edge.result.now ≡ edge_at q (edge_between t (nth_vertex s.order c.args.k) (nth_anchor s.order c.args.k)) =
    sym found ∙ ap (edge_at q) (c.edge_between-number.ensures.number ∙ (λ i. edge_between t (c.vertex-w.ensures i) (c.anchor-anchor.ensures i))) in
    record {
      anchor = ap (id_of c.args.partial.now) (sym c.anchor-anchor.ensures) ∙ is ∙ c.unwrap.ensures;
      leads = c.to.ensures ∙ (λ i. direction_to (edge i) (c.vertex-w.ensures i));
      name = ap (λ e. e.label) edge;
    }

pub returns-clause-number : goal.returns-clause-number
returns-clause-number g c =
    let s = c.args.search.now in
    let q = s.pattern.now in
    let n = c.edge_between-number.result in
    let texts = g.G.HoldGraph.label_text s.graph.now in
    let found = get_or_from_slice_get q.edges n c.edge-edge.result.now (record { tail = 0; label = []; head = 0 }) c.edge-edge.ensures.edge in
    let graph = g.G.HoldGraph.graph s.graph.now in
    let P : PatternEdge → Type 0 = λ e. IsNumberIn texts graph e.label (slice_index_or s.numbers n None) in
    subst P found (c.requires.numbers.each n c.edge_between-number.ensures.within)
