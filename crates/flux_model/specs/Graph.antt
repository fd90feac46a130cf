-- Graphs and their changes.
use Rattle.std.specs.Prelude.{ℕ, ◌≤◌, ◌<◌, ◌^◌, ◌==◌, ◌||◌, ◌&&◌, nat_le, nat_lt, not, Bool, List, [], ◌∷◌, ◌++◌, length, map, filter, Result, Ok, Err, IsTrue, if◌then◌else◌, flat_map}
use Rattle.std.specs.List.{list_any, list_all, AllByRecursion}
use Rattle.std.specs.declared.cmp.Ordering.{Ordering}
use Rattle.std.specs.Ordering.{nat_cmp, ordering_then, is_eq}
use Rattle.flux_model.specs.Text.{IsText, text_cmp}
use Rattle.flux_model.specs.Ordered.{is_ascending, is_in, put}
use Rattle.flux_model.specs.Labels.{IsLabelSet, label_set}
use Rattle.flux_model.specs.declared.code.Code.{Code}
use Rattle.flux_model.specs.declared.code.Code.TheVariants as code
use Rattle.flux_model.specs.declared.graph.Triple.{Triple}
use Rattle.flux_model.specs.declared.graph.Vertex.{Vertex}
use Rattle.flux_model.specs.declared.graph.Update.{Update}
use Rattle.flux_model.specs.declared.graph.Update.TheVariants.{AddVertex, DropVertex, AddEdge, DropEdge}
use Rattle.flux_model.specs.declared.limits.Limits.{Limits}

-- vertices with their labels, ascending by id, and triples, ascending by source, label and target
pub record Graph : Type 0 where
  pub vertices : List Vertex
  pub triples : List Triple

abbrev pub empty_graph : Graph
empty_graph = record { vertices = []; triples = [] }

abbrev pub vertex_cmp : Vertex → Vertex → Ordering
vertex_cmp v w = nat_cmp v.id w.id

abbrev pub triple_cmp : Triple → Triple → Ordering
triple_cmp s t = ordering_then (nat_cmp s.src t.src) (ordering_then (text_cmp s.label t.label) (nat_cmp s.dst t.dst))

abbrev pub ids : Graph → List ℕ
ids g = map (λ (v : Vertex). v.id) g.vertices

abbrev pub has_vertex : Graph → ℕ → Bool
has_vertex g id = list_any (λ (v : Vertex). v.id == id) g.vertices

abbrev pub has_triple : Graph → Triple → Bool
has_triple g t = is_in triple_cmp t g.triples

-- whether a triple of the graph has this vertex as an end
abbrev pub has_incident_triple : Graph → ℕ → Bool
has_incident_triple g id = list_any (λ (t : Triple). t.src == id || t.dst == id) g.triples

-- whether both ends of the triple are vertices of the graph
abbrev pub has_both_ends : Graph → Triple → Bool
has_both_ends g t = has_vertex g t.src && has_vertex g t.dst

-- an id of 32 bits and a set of labels
pub record IsVertex (v : Vertex) : Type 0 where
  pub id : v.id < 2 ^ 32
  pub labels : IsLabelSet v.labels

-- what a `Graph` is
pub record IsGraph (g : Graph) : Type 0 where
  pub ascending_vertices : IsTrue (is_ascending vertex_cmp g.vertices)
  pub vertices : AllByRecursion IsVertex g.vertices
  pub ascending_triples : IsTrue (is_ascending triple_cmp g.triples)
  pub texts : AllByRecursion (λ (t : Triple). IsText t.label) g.triples
  pub ends : IsTrue (list_all (has_both_ends g) g.triples)

-- ---- what is in use

-- the label names on vertices and triples, as often as they stand there
abbrev pub names_of : Graph → List (List ℕ)
names_of g = flat_map (λ (v : Vertex). v.labels) g.vertices ++ map (λ (t : Triple). t.label) g.triples

-- how many distinct label names the graph has, together with these
abbrev pub name_count : Graph → List (List ℕ) → ℕ
name_count g more = length (label_set (names_of g ++ more))

-- no more vertices, triples and label names than the limits say
pub record IsWithin (limits : Limits) (g : Graph) : Type 0 where
  pub vertices : length g.vertices ≤ limits.vertices
  pub triples : length g.triples ≤ limits.edges
  pub names : name_count g [] ≤ limits.labels

-- ---- the graph with one vertex or triple more or less

abbrev pub with_vertex : Graph → Vertex → Graph
with_vertex g v = record g { vertices = put vertex_cmp v g.vertices }

abbrev pub without_vertex : Graph → ℕ → Graph
without_vertex g id = record g { vertices = filter (λ (v : Vertex). not (v.id == id)) g.vertices }

abbrev pub with_triple : Graph → Triple → Graph
with_triple g t = record g { triples = put triple_cmp t g.triples }

abbrev pub without_triple : Graph → Triple → Graph
without_triple g t = record g { triples = filter (λ s. not (is_eq (triple_cmp s t))) g.triples }

-- ---- changes, each with its refusals in their order

-- the refusal where the test holds, else what follows
abbrev pub refuse : {T : Type 0} → Bool → Code → Result T Code → Result T Code
refuse test code next = if test then Err code else next

abbrev pub add_vertex : Limits → Graph → Vertex → Result Graph Code
add_vertex limits g v =
    refuse (has_vertex g v.id) code.Exists
    (refuse (nat_le limits.vertices (length g.vertices) || nat_lt limits.labels (name_count g v.labels)) code.Full
    (Ok (with_vertex g v)))

abbrev pub drop_vertex : Graph → ℕ → Result Graph Code
drop_vertex g id =
    refuse (not (has_vertex g id)) code.NoVertex
    (refuse (has_incident_triple g id) code.Busy (Ok (without_vertex g id)))

abbrev pub add_edge : Limits → Graph → Triple → Result Graph Code
add_edge limits g t =
    refuse (not (has_both_ends g t)) code.NoVertex
    (refuse (has_triple g t) code.Exists
    (refuse (nat_le limits.edges (length g.triples) || nat_lt limits.labels (name_count g (t.label ∷ []))) code.Full
    (Ok (with_triple g t))))

abbrev pub drop_edge : Graph → Triple → Result Graph Code
drop_edge g t =
    refuse (not (has_both_ends g t)) code.NoVertex
    (refuse (not (has_triple g t)) code.Absent (Ok (without_triple g t)))

-- the changed graph, or the first refusal
abbrev pub apply : Limits → Graph → Update → Result Graph Code
apply limits g (AddVertex id labels) = add_vertex limits g (record { id = id; labels = labels })
apply limits g (DropVertex id) = drop_vertex g id
apply limits g (AddEdge t) = add_edge limits g t
apply limits g (DropEdge t) = drop_edge g t

-- a graph, and the limits under which it is kept
pub record LimitedGraph : Type 0 where
  pub limits : Limits
  pub graph : Graph
