-- Laws of graphs and their changes.
use Rattle.std.proofs.Common.{◌≡◌, ℕ, ◌+◌, ◌≤◌, Bool, true, false, not, ◌||◌, ◌==◌, nat_le, nat_lt, List, [], ◌∷◌, ◌++◌, length, Result, Ok, Err, refl, sym, ◌∙◌, ap, subst, arith}
use borrow.Author.Tests.{eqb-true, lt-leb, le-ltb}
use Rattle.std.specs.Ordering.{is_eq}
use Rattle.std.specs.Cmp.{unsigned_ties}
use Rattle.std.specs.List.{filter, list_any, list_all}
use Rattle.std.proofs.lemmas.Cmp.{tied_itself}
use Rattle.std.proofs.lemmas.List.Elements.{filter_agree}
use Rattle.std.proofs.lemmas.Map.Lookups.{CmpEqualImpliesEq}
use Rattle.flux_model.specs.Text.{text_cmp}
use Rattle.flux_model.specs.Ordered.{put, is_in}
use Rattle.flux_model.specs.Report.{applied, graph_after, next_graph, block_of}
use Rattle.flux_model.specs.declared.said.Said.TheVariants.{Says}
use Rattle.flux_laws.proofs.AscendingLemmas.{in-put, filter-list_all}
use Rattle.flux_laws.proofs.TestLemmas.{both}
use Rattle.flux_model.specs.Graph.{vertex_cmp, triple_cmp, names_of, drop_edge, drop_vertex, add_edge, Graph, IsGraph, IsWithin, apply, refuse, has_vertex, has_both_ends, has_triple, has_incident_triple, with_vertex, with_triple, without_vertex, without_triple, name_count}
use Rattle.flux_model.specs.declared.code.Code.{Code}
use Rattle.flux_model.specs.declared.code.Code.TheVariants as code
use Rattle.flux_model.specs.declared.graph.Triple.{Triple}
use Rattle.flux_model.specs.declared.graph.Vertex.{Vertex}
use Rattle.flux_model.specs.declared.graph.Update.TheVariants.{AddVertex, DropVertex, AddEdge, DropEdge}
use Rattle.flux_model.specs.declared.limits.Limits.{Limits}
use Rattle.flux_laws.specs.GraphsLaws.{ChangeKeepsGraph, ChangeKeepsLimits, RefusalRepeats, RemovalUndoesEdge, RemovalUndoesVertex, InsertionUndoesEdge}
use Rattle.flux_laws.proofs.OneMoreLemmas.{add_edge_ok, in_ids, with_vertex_graph, with_triple_graph, without_triple_graph, without_vertex_graph}
use Rattle.flux_laws.proofs.LimitLemmas.{with_vertex_within, among, name_count-within, with_triple_within, without_vertex_within, without_triple_within}
use Rattle.flux_laws.proofs.UndoLemmas.{others, put_out, absent_after, put_back, fewer, holds_there}
use Rattle.flux_laws.proofs.SetsLemmas.{vertex_total, triple_total, same_triple}

-- an accepted change
abbrev pub okay : Graph → Result Graph Code
okay g = Ok g

-- ---- what acceptance says

refuse-ok : (b : Bool) (c : Code) (r : Result Graph Code) (h : Graph) → refuse b c r ≡ Ok h → (b ≡ false) × (r ≡ Ok h)
refuse-ok true c r h e = cc
refuse-ok false c r h e = (refl, e)

is_not : (b : Bool) → not b ≡ false → b ≡ true
is_not true e = refl
is_not false e = cc

-- a vertex was added: its id was new, and there was room
pub record VertexAdded (limits : Limits) (g h : Graph) (v : Vertex) : Type 0 where
  pub absent : has_vertex g v.id ≡ false
  pub room : (nat_le limits.vertices (length g.vertices) || nat_lt limits.labels (name_count g v.labels)) ≡ false
  pub is : with_vertex g v ≡ h

-- a vertex was removed: it was there, and no triple ended at it
pub record VertexDropped (g h : Graph) (id : ℕ) : Type 0 where
  pub there : has_vertex g id ≡ true
  pub free : has_incident_triple g id ≡ false
  pub is : without_vertex g id ≡ h

-- an edge was added: its ends were there, the edge was not, and there was room
pub record EdgeAdded (limits : Limits) (g h : Graph) (t : Triple) : Type 0 where
  pub ends : has_both_ends g t ≡ true
  pub absent : has_triple g t ≡ false
  pub room : (nat_le limits.edges (length g.triples) || nat_lt limits.labels (name_count g (t.label ∷ []))) ≡ false
  pub is : with_triple g t ≡ h

-- an edge was removed: its ends and the edge were there
pub record EdgeDropped (g h : Graph) (t : Triple) : Type 0 where
  pub ends : has_both_ends g t ≡ true
  pub there : has_triple g t ≡ true
  pub is : without_triple g t ≡ h

-- an accepted AddVertex
pub vertex_added : (limits : Limits) (g h : Graph) (id : ℕ) (labels : List (List ℕ)) → apply limits g (AddVertex id labels) ≡ Ok h → VertexAdded limits g h (record { id = id; labels = labels })
vertex_added limits g h id labels e =
    let first = refuse-ok (has_vertex g id) code.Exists _ h e in
    let second = refuse-ok (nat_le limits.vertices (length g.vertices) || nat_lt limits.labels (name_count g labels)) code.Full _ h first.1 in
    record { absent = first.0; room = second.0; is = cc (second.1) }

-- an accepted DropVertex
pub vertex_dropped : (limits : Limits) (g h : Graph) (id : ℕ) → apply limits g (DropVertex id) ≡ Ok h → VertexDropped g h id
vertex_dropped limits g h id e =
    let first = refuse-ok (not (has_vertex g id)) code.NoVertex _ h e in
    let second = refuse-ok (has_incident_triple g id) code.Busy _ h first.1 in
    record { there = is_not (has_vertex g id) first.0; free = second.0; is = cc (second.1) }

-- an accepted AddEdge
pub edge_added : (limits : Limits) (g h : Graph) (t : Triple) → apply limits g (AddEdge t) ≡ Ok h → EdgeAdded limits g h t
edge_added limits g h t e =
    let first = refuse-ok (not (has_both_ends g t)) code.NoVertex _ h e in
    let second = refuse-ok (has_triple g t) code.Exists _ h first.1 in
    let third = refuse-ok (nat_le limits.edges (length g.triples) || nat_lt limits.labels (name_count g (t.label ∷ []))) code.Full _ h second.1 in
    record { ends = is_not (has_both_ends g t) first.0; absent = second.0; room = third.0; is = cc (third.1) }

-- an accepted DropEdge
pub edge_dropped : (limits : Limits) (g h : Graph) (t : Triple) → apply limits g (DropEdge t) ≡ Ok h → EdgeDropped g h t
edge_dropped limits g h t e =
    let first = refuse-ok (not (has_both_ends g t)) code.NoVertex _ h e in
    let second = refuse-ok (not (has_triple g t)) code.Absent _ h first.1 in
    record { ends = is_not (has_both_ends g t) first.0; there = is_not (has_triple g t) second.0; is = cc (second.1) }

-- ---- what a change keeps

-- an accepted change of a graph makes a graph
pub keeps_graph : ChangeKeepsGraph
keeps_graph limits g h (AddVertex id labels) graph sound e =
    let a = vertex_added limits g h id labels e in
    subst IsGraph a.is (with_vertex_graph g (record { id = id; labels = labels }) graph sound)
keeps_graph limits g h (DropVertex id) graph sound e =
    let a = vertex_dropped limits g h id e in
    subst IsGraph a.is (without_vertex_graph g id graph a.free)
keeps_graph limits g h (AddEdge t) graph sound e =
    let a = edge_added limits g h t e in
    subst IsGraph a.is (with_triple_graph g t graph sound a.ends)
keeps_graph limits g h (DropEdge t) graph sound e =
    let a = edge_dropped limits g h t e in
    subst IsGraph a.is (without_triple_graph g t graph)

-- and keeps the limits
pub keeps_limits : ChangeKeepsLimits
keeps_limits limits g h (AddVertex id labels) within e =
    let a = vertex_added limits g h id labels e in
    subst (IsWithin limits) a.is (with_vertex_within limits g (record { id = id; labels = labels }) within a.room)
keeps_limits limits g h (DropVertex id) within e =
    subst (IsWithin limits) (vertex_dropped limits g h id e).is (without_vertex_within limits g id within)
keeps_limits limits g h (AddEdge t) within e =
    let a = edge_added limits g h t e in
    subst (IsWithin limits) a.is (with_triple_within limits g t within a.room)
keeps_limits limits g h (DropEdge t) within e =
    subst (IsWithin limits) (edge_dropped limits g h t e).is (without_triple_within limits g t within)

-- ---- a refusal

-- a refusal changes nothing and is repeated
pub repeats : RefusalRepeats
repeats limits patterns k g update c e =
    let same : next_graph limits g (Says update) ≡ g = ap (λ r. graph_after g (applied r)) e in
    let again : apply limits (next_graph limits g (Says update)) update ≡ Err c = rw same e in
    (same, again, ap (λ r. block_of k patterns (next_graph limits g (Says update)) (applied r)) again)

-- ---- what one change undoes

-- triples that are equal in their order are the same
pub triple_exact : CmpEqualImpliesEq triple_cmp
triple_exact = same_triple

drop_edge_ok : (g : Graph) (t : Triple) → has_both_ends g t ≡ true → has_triple g t ≡ true → drop_edge g t ≡ Ok (without_triple g t)
drop_edge_ok g t ends there = rw (ends, there) refl

-- a removal undoes an edge
pub undo_edge : RemovalUndoesEdge
undo_edge limits g h t e =
    let a = edge_added limits g h t e in
    let there : has_triple (with_triple g t) t ≡ true = in-put triple_cmp triple_total t t g.triples (tied_itself triple_total t) in
    let back : without_triple (with_triple g t) t ≡ g = ap (λ ts. record g { triples = ts }) (put_out triple_cmp triple_total t g.triples a.absent) in
    rw (sym a.is) (drop_edge_ok (with_triple g t) t a.ends there ∙ ap okay back)

add_edge_back : (limits : Limits) (g : Graph) (t : Triple) → IsGraph g → IsWithin limits g → has_both_ends g t ≡ true → has_triple g t ≡ true → add_edge limits (without_triple g t) t ≡ Ok g
add_edge_back limits g t graph within ends there =
    let h = without_triple g t in
    let n = among g [] in
    let p : List ℕ → Bool = λ x. is_in text_cmp x (names_of g ++ []) in
    let label : p t.label ≡ true = holds_there triple_cmp triple_total triple_exact (λ (s : Triple). p s.label) t g.triples n.on_triples there in
    let names : name_count h (t.label ∷ []) ≤ name_count g [] =
    name_count-within h g (t.label ∷ []) [] (record {
      on_vertices = n.on_vertices;
      on_triples = filter-list_all (λ s. not (is_eq (triple_cmp s t))) (λ (s : Triple). p s.label) g.triples n.on_triples;
      others = rw label refl;
    }) in
    let count : length h.triples + 1 ≤ length g.triples = fewer triple_cmp triple_total t g.triples there in
    let free : nat_le limits.edges (length h.triples) ≡ false = lt-leb limits.edges (length h.triples) (omega (arith, within.triples)) in
    let named : nat_lt limits.labels (name_count h (t.label ∷ [])) ≡ false = le-ltb limits.labels (name_count h (t.label ∷ [])) (omega (arith, within.names)) in
    let absent : has_triple h t ≡ false = absent_after triple_cmp triple_total t g.triples in
    let back : with_triple h t ≡ g = ap (λ ts. record g { triples = ts }) (put_back triple_cmp triple_total triple_exact t g.triples graph.ascending_triples there) in
    add_edge_ok limits h t ends absent (rw (free, named) refl) ∙ ap okay back

-- an insertion undoes its removal
pub redo_edge : InsertionUndoesEdge
redo_edge limits g h t graph within e =
    let a = edge_dropped limits g h t e in
    rw (sym a.is) (add_edge_back limits g t graph within a.ends a.there)

-- no triple ends at what is no vertex
free_id : (g : Graph) (id : ℕ) (ts : List Triple) → has_vertex g id ≡ false → list_all (has_both_ends g) ts ≡ true → list_any (λ (t : Triple). t.src == id || t.dst == id) ts ≡ false
free_id g id [] absent all = refl
free_id g id (t ∷ ts) absent all =
    let two = both (has_both_ends g t) (list_all (has_both_ends g) ts) all in
    let ends = both (has_vertex g t.src) (has_vertex g t.dst) two.0 in
    rw (other t.src ends.0, other t.dst ends.1) (free_id g id ts absent two.1)
  where
    other : (i : ℕ) → has_vertex g i ≡ true → (i == id) ≡ false
    other i there = by (i == id) refl
      where
        by : (b : Bool) → (i == id) ≡ b → (i == id) ≡ false
        by false q = q
        by true q = let same : has_vertex g i ≡ has_vertex g id = ap (has_vertex g) (eqb-true i id q) in cc

-- the vertices of other ids
pub other_ids : (v : Vertex) (vs : List Vertex) → filter (λ (w : Vertex). not (w.id == v.id)) vs ≡ others vertex_cmp vertex_total v vs
other_ids v vs = filter_agree (λ (w : Vertex). not (w.id == v.id)) (λ w. not (is_eq (vertex_cmp w v))) (λ w. ap not (unsigned_ties w.id v.id)) vs

drop_vertex_ok : (g : Graph) (id : ℕ) → has_vertex g id ≡ true → has_incident_triple g id ≡ false → drop_vertex g id ≡ Ok (without_vertex g id)
drop_vertex_ok g id there free = rw (there, free) refl

-- a removal undoes a vertex
pub undo_vertex : RemovalUndoesVertex
undo_vertex limits g h id labels graph e =
    let v : Vertex = record { id = id; labels = labels } in
    let a = vertex_added limits g h id labels e in
    let there : has_vertex (with_vertex g v) id ≡ true = sym (in_ids v (put vertex_cmp v g.vertices)) ∙ in-put vertex_cmp vertex_total v v g.vertices (tied_itself vertex_total v) in
    let absent : is_in vertex_cmp v g.vertices ≡ false = in_ids v g.vertices ∙ a.absent in
    let back : without_vertex (with_vertex g v) id ≡ g = ap (λ vs. record g { vertices = vs }) (other_ids v (put vertex_cmp v g.vertices) ∙ put_out vertex_cmp vertex_total v g.vertices absent) in
    rw (sym a.is) (drop_vertex_ok (with_vertex g v) id there (free_id g id g.triples a.absent graph.ends) ∙ ap okay back)
