-- What an accepted update makes of the graph.
use Rattle.std.proofs.Common.{◌≡◌, ℕ, ◌+◌, ◌≤◌, Bool, true, false, not, ◌||◌, ◌==◌, nat_le, nat_lt, List, [], ◌++◌, length, Ok, refl, sym, ◌∙◌, ap, subst, arith}
use Rattle.std.specs.Prelude.{◌≢◌}
use borrow.Author.Tests.{eqb-true, lt-leb, le-ltb}
use Rattle.std.specs.declared.cmp.Ordering.{Ordering}
use Rattle.std.specs.declared.cmp.Ordering.TheVariants.{Less, Equal, Greater}
use Rattle.std.specs.Ordering.{is_eq}
use Rattle.std.specs.List.{Contains, filter, list_all}
use Rattle.std.proofs.lemmas.Bool.Decides.{nat_tests}
use Rattle.std.proofs.lemmas.Cmp.{tied_itself}
use Rattle.flux_model.specs.Text.{text_cmp}
use Rattle.flux_model.specs.Ordered.{is_in, put}
use Rattle.flux_model.specs.Graph.{Graph, IsGraph, IsWithin, vertex_cmp, triple_cmp, has_vertex, with_vertex, with_triple, without_vertex, without_triple, names_of, name_count, add_vertex}
use Rattle.flux_model.specs.declared.graph.Vertex.{Vertex}
use Rattle.flux_model.specs.declared.graph.Triple.{Triple}
use Rattle.flux_model.specs.declared.graph.Update.TheVariants.{AddVertex, DropVertex, AddEdge, DropEdge}
use Rattle.flux_model.specs.declared.limits.Limits.{Limits}
use Rattle.flux_laws.specs.GraphsLaws.{HasEdgeToo, HasOtherEdges, HasVertexToo, HasOtherVertices, ChangeIsExact, InsertionUndoesVertex}
use Rattle.flux_laws.proofs.AscendingLemmas.{filter-list_all}
use Rattle.flux_laws.proofs.OneMoreLemmas.{in_ids}
use Rattle.flux_laws.proofs.LimitLemmas.{among, name_count-within}
use Rattle.flux_laws.proofs.UndoLemmas.{others, absent_after, fewer}
use Rattle.flux_laws.proofs.MemberLemmas.{each_passes, was_in, still_in, in_or_put, put_in, is_found, member_back}
use Rattle.flux_laws.proofs.GraphsLemmas.{okay, triple_exact, other_ids, vertex_added, vertex_dropped, edge_added, edge_dropped}
use Rattle.flux_laws.proofs.SetsLemmas.{vertex_total, triple_total}

-- ---- a test that leaves one thing out

apart : (b : Bool) → not b ≡ true → b ≡ true → ⊥
apart true n e = cc
apart false n e = cc

not_so : (b : Bool) → (b ≡ true → ⊥) → not b ≡ true
not_so true f = absurd (f refl)
not_so false f = refl

eqb-same : (a b : ℕ) → a ≡ b → (a == b) ≡ true
eqb-same a b e = grind (arith, nat_tests)

tied : (r : Ordering) → is_eq r ≡ true → r ≡ Equal
tied Less h = cc
tied Equal h = refl
tied Greater h = cc

-- ---- the four changes

edge_too : (g : Graph) (t : Triple) → is_in triple_cmp t g.triples ≡ false → HasEdgeToo g (with_triple g t) t
edge_too g t absent = record { vertices = refl; triples = λ s. (in_or_put triple_cmp triple_total t g.triples s absent, put_in triple_cmp triple_total t g.triples s absent) }

other_edges : (g : Graph) (t : Triple) → HasOtherEdges g (without_triple g t) t
other_edges g t = record { vertices = refl; triples = λ s. (one s, two s) }
  where
    test : Triple → Bool
    test s = not (is_eq (triple_cmp s t))

    one : (s : Triple) → Contains (filter test g.triples) s → Contains g.triples s × (s ≢ t)
    one s c =
        let before = was_in test g.triples s c in
        (before.0, λ e. apart (is_eq (triple_cmp s t)) before.1 (ap (λ u. is_eq (triple_cmp u t)) e ∙ ap is_eq (tied_itself triple_total t)))

    two : (s : Triple) → Contains g.triples s × (s ≢ t) → Contains (filter test g.triples) s
    two s h = still_in test g.triples s h.0 (not_so (is_eq (triple_cmp s t)) (λ e. h.1 (triple_exact s t (tied (triple_cmp s t) e))))

vertex_too : (g : Graph) (v : Vertex) → has_vertex g v.id ≡ false → HasVertexToo g (with_vertex g v) v
vertex_too g v absent =
    let free : is_in vertex_cmp v g.vertices ≡ false = in_ids v g.vertices ∙ absent in
    record { vertices = λ w. (in_or_put vertex_cmp vertex_total v g.vertices w free, put_in vertex_cmp vertex_total v g.vertices w free); triples = refl }

other_vertices : (g : Graph) (id : ℕ) → HasOtherVertices g (without_vertex g id) id
other_vertices g id = record { vertices = λ w. (one w, two w); triples = refl }
  where
    test : Vertex → Bool
    test w = not (w.id == id)

    one : (w : Vertex) → Contains (filter test g.vertices) w → Contains g.vertices w × (w.id ≢ id)
    one w c =
        let before = was_in test g.vertices w c in
        (before.0, λ e. apart (w.id == id) before.1 (eqb-same w.id id e))

    two : (w : Vertex) → Contains g.vertices w × (w.id ≢ id) → Contains (filter test g.vertices) w
    two w h = still_in test g.vertices w h.0 (not_so (w.id == id) (λ e. h.1 (eqb-true w.id id e)))

-- a change adds or removes exactly what it names
pub exact : ChangeIsExact
exact limits g h (AddVertex id labels) e =
    let v : Vertex = record { id = id; labels = labels } in
    let a = vertex_added limits g h id labels e in
    subst (λ (k : Graph). HasVertexToo g k v) a.is (vertex_too g v a.absent)
exact limits g h (DropVertex id) e = subst (λ (k : Graph). HasOtherVertices g k id) (vertex_dropped limits g h id e).is (other_vertices g id)
exact limits g h (AddEdge t) e =
    let a = edge_added limits g h t e in
    subst (λ (k : Graph). HasEdgeToo g k t) a.is (edge_too g t a.absent)
exact limits g h (DropEdge t) e = subst (λ (k : Graph). HasOtherEdges g k t) (edge_dropped limits g h t e).is (other_edges g t)

-- ---- a vertex that comes back

add_vertex_ok : (limits : Limits) (g : Graph) (v : Vertex) → has_vertex g v.id ≡ false → (nat_le limits.vertices (length g.vertices) || nat_lt limits.labels (name_count g v.labels)) ≡ false → add_vertex limits g v ≡ Ok (with_vertex g v)
add_vertex_ok limits g v absent full = rw (absent, full) refl

add_vertex_back : (limits : Limits) (g : Graph) (v : Vertex) → IsGraph g → IsWithin limits g → Contains g.vertices v → add_vertex limits (without_vertex g v.id) v ≡ Ok g
add_vertex_back limits g v graph within there =
    let h = without_vertex g v.id in
    let n = among g [] in
    let p : List ℕ → Bool = λ x. is_in text_cmp x (names_of g ++ []) in
    let names : name_count h v.labels ≤ name_count g [] =
    name_count-within h g v.labels [] (record {
      on_vertices = filter-list_all (λ (w : Vertex). not (w.id == v.id)) (λ (w : Vertex). list_all p w.labels) g.vertices n.on_vertices;
      on_triples = n.on_triples;
      others = each_passes (λ (w : Vertex). list_all p w.labels) g.vertices v n.on_vertices there;
    }) in
    let same : h.vertices ≡ others vertex_cmp vertex_total v g.vertices = other_ids v g.vertices in
    let count : length h.vertices + 1 ≤ length g.vertices = omega (arith, ap length same, fewer vertex_cmp vertex_total v g.vertices (is_found vertex_cmp vertex_total v g.vertices there)) in
    let free : nat_le limits.vertices (length h.vertices) ≡ false = lt-leb limits.vertices (length h.vertices) (omega (arith, within.vertices)) in
    let named : nat_lt limits.labels (name_count h v.labels) ≡ false = le-ltb limits.labels (name_count h v.labels) (omega (arith, within.names)) in
    let absent : has_vertex h v.id ≡ false = sym (in_ids v h.vertices) ∙ ap (is_in vertex_cmp v) same ∙ absent_after vertex_cmp vertex_total v g.vertices in
    let back : with_vertex h v ≡ g =
    ap (λ vs. record g { vertices = vs }) (ap (put vertex_cmp v) same ∙ member_back vertex_cmp vertex_total v g.vertices graph.ascending_vertices there) in
    add_vertex_ok limits h v absent (rw (free, named) refl) ∙ ap okay back

-- a vertex that was removed can be added again
pub redo_vertex : InsertionUndoesVertex
redo_vertex limits g h v graph within there e =
    rw (sym (vertex_dropped limits g h v.id e).is) (add_vertex_back limits g v graph within there)
