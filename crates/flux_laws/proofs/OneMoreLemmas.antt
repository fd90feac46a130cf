-- A graph with one vertex or triple more, or fewer, is a graph.
use Rattle.std.proofs.Common.{◌≡◌, ℕ, Bool, true, false, not, ◌||◌, ◌==◌, nat_le, nat_lt, List, [], ◌∷◌, length, Ok, refl, sym, ◌∙◌, ap}
use borrow.Author.Tests.{eqb-true}
use Rattle.std.specs.Ordering.{nat_cmp, is_eq}
use Rattle.std.specs.Cmp.{nat_eq_equiv, unsigned_ties}
use Rattle.std.specs.List.{filter, list_any, list_all}
use Rattle.flux_model.specs.Text.{IsText}
use Rattle.flux_model.specs.Ordered.{is_in}
use Rattle.flux_model.specs.Graph.{Graph, IsVertex, IsGraph, vertex_cmp, triple_cmp, has_vertex, has_both_ends, has_triple, has_incident_triple, with_vertex, with_triple, without_vertex, without_triple, name_count, add_edge}
use Rattle.flux_model.specs.declared.graph.Vertex.{Vertex}
use Rattle.flux_model.specs.declared.graph.Triple.{Triple}
use Rattle.flux_model.specs.declared.limits.Limits.{Limits}
use Rattle.flux_model.proofs.OrderedLemmas.{put-ascending, put-list_all, put-AllByRecursion}
use Rattle.flux_laws.proofs.AscendingLemmas.{put-list_any, filter-list_all, filter-AllByRecursion, filter-ascending}
use Rattle.flux_laws.proofs.TestLemmas.{both, neither}
use Rattle.flux_laws.proofs.PlainLemmas.{list_all-weaker}
use Rattle.flux_laws.proofs.SetsLemmas.{vertex_total, triple_total}

-- a vertex of this id is in the list
pub in_ids : (v : Vertex) (vs : List Vertex) → is_in vertex_cmp v vs ≡ list_any (λ (w : Vertex). w.id == v.id) vs
in_ids v [] = refl
in_ids v (w ∷ ws) = (λ i. same i || in_ids v ws i)
  where
    same : is_eq (nat_cmp v.id w.id) ≡ (w.id == v.id)
    same = sym (unsigned_ties v.id w.id) ∙ nat_eq_equiv.symm v.id w.id

-- ---- one more

-- a graph with a vertex more is a graph
pub with_vertex_graph : (g : Graph) (v : Vertex) → IsGraph g → IsVertex v → IsGraph (with_vertex g v)
with_vertex_graph g v h is_vertex = record {
  ascending_vertices = put-ascending vertex_cmp vertex_total v g.vertices h.ascending_vertices;
  vertices = put-AllByRecursion vertex_cmp IsVertex v g.vertices is_vertex h.vertices;
  ascending_triples = h.ascending_triples;
  texts = h.texts;
  ends = list_all-weaker (has_both_ends g) (has_both_ends (with_vertex g v)) stays g.triples h.ends;
}
  where
    stays : (t : Triple) → has_both_ends g t ≡ true → has_both_ends (with_vertex g v) t ≡ true
    stays t e =
        let two = both (has_vertex g t.src) (has_vertex g t.dst) e in
        rw (put-list_any vertex_cmp (λ (w : Vertex). w.id == t.src) v g.vertices two.0, put-list_any vertex_cmp (λ (w : Vertex). w.id == t.dst) v g.vertices two.1) refl

-- with a triple more
pub with_triple_graph : (g : Graph) (t : Triple) → IsGraph g → IsText t.label → has_both_ends g t ≡ true → IsGraph (with_triple g t)
with_triple_graph g t h text ends = record {
  ascending_vertices = h.ascending_vertices;
  vertices = h.vertices;
  ascending_triples = put-ascending triple_cmp triple_total t g.triples h.ascending_triples;
  texts = put-AllByRecursion triple_cmp (λ (s : Triple). IsText s.label) t g.triples text h.texts;
  ends = put-list_all triple_cmp (has_both_ends g) t g.triples ends h.ends;
}

-- what `add_edge` gives where both ends are there and the triple is not
pub add_edge_ok : (limits : Limits) (g : Graph) (t : Triple) → has_both_ends g t ≡ true → has_triple g t ≡ false → (nat_le limits.edges (length g.triples) || nat_lt limits.labels (name_count g (t.label ∷ []))) ≡ false → add_edge limits g t ≡ Ok (with_triple g t)
add_edge_ok limits g t ends absent full = rw (ends, absent, full) refl

-- ---- one fewer

-- with a triple fewer
pub without_triple_graph : (g : Graph) (t : Triple) → IsGraph g → IsGraph (without_triple g t)
without_triple_graph g t h = record {
  ascending_vertices = h.ascending_vertices;
  vertices = h.vertices;
  ascending_triples = filter-ascending triple_cmp triple_total others g.triples h.ascending_triples;
  texts = filter-AllByRecursion others (λ (s : Triple). IsText s.label) g.triples h.texts;
  ends = filter-list_all others (has_both_ends g) g.triples h.ends;
}
  where
    others : Triple → Bool
    others s = not (is_eq (triple_cmp s t))

-- what is in a list and is not the one id stays
stays_in : (id i : ℕ) (vs : List Vertex) → (i == id) ≡ false → list_any (λ (v : Vertex). v.id == i) vs ≡ true → list_any (λ (v : Vertex). v.id == i) (filter (λ (v : Vertex). not (v.id == id)) vs) ≡ true
stays_in id i [] n h = h
stays_in id i (v ∷ vs) n h = by (v.id == id) refl (v.id == i) refl (stays_in id i vs n)
  where
    by : (b : Bool) → (v.id == id) ≡ b → (c : Bool) → (v.id == i) ≡ c → (list_any (λ (w : Vertex). w.id == i) vs ≡ true → list_any (λ (w : Vertex). w.id == i) (filter (λ (w : Vertex). not (w.id == id)) vs) ≡ true) → list_any (λ (w : Vertex). w.id == i) (filter (λ (w : Vertex). not (w.id == id)) (v ∷ vs)) ≡ true
    by false e c f rest = rw e (late c f)
      where
        late : (c : Bool) → (v.id == i) ≡ c → (v.id == i) || list_any (λ (w : Vertex). w.id == i) (filter (λ (w : Vertex). not (w.id == id)) vs) ≡ true
        late true f = rw f refl
        late false f = rw f (rest (rw f at h))
    by true e true f rest =
        let same : v.id ≡ id = eqb-true v.id id e in
        let other : v.id ≡ i = eqb-true v.id i f in
        let g : (i == id) ≡ true = ap (λ k. k == id) (sym other) ∙ e in
        absurd (true_is_false g n)
      where
        true_is_false : (i == id) ≡ true → (i == id) ≡ false → ⊥
        true_is_false a b = cc
    by true e false f rest = rw e (rest (rw f at h))

-- with a vertex fewer that no triple ends at
pub without_vertex_graph : (g : Graph) (id : ℕ) → IsGraph g → has_incident_triple g id ≡ false → IsGraph (without_vertex g id)
without_vertex_graph g id h free = record {
  ascending_vertices = filter-ascending vertex_cmp vertex_total others g.vertices h.ascending_vertices;
  vertices = filter-AllByRecursion others IsVertex g.vertices h.vertices;
  ascending_triples = h.ascending_triples;
  texts = h.texts;
  ends = keep g.triples free h.ends;
}
  where
    others : Vertex → Bool
    others v = not (v.id == id)

    keep : (ts : List Triple) → list_any (λ (t : Triple). t.src == id || t.dst == id) ts ≡ false → list_all (has_both_ends g) ts ≡ true → list_all (has_both_ends (without_vertex g id)) ts ≡ true
    keep [] n a = refl
    keep (t ∷ ts) n a =
        let first = neither (t.src == id || t.dst == id) (list_any (λ (s : Triple). s.src == id || s.dst == id) ts) n in
        let ends = neither (t.src == id) (t.dst == id) first.0 in
        let two = both (has_both_ends g t) (list_all (has_both_ends g) ts) a in
        let there = both (has_vertex g t.src) (has_vertex g t.dst) two.0 in
        rw (stays_in id t.src g.vertices ends.0 there.0, stays_in id t.dst g.vertices ends.1 there.1) (keep ts first.1 two.1)
