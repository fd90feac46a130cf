-- Patterns, and what fits their vertices and edges.
use Rattle.std.specs.Prelude.{ℕ, ◌≤◌, ◌<◌, Bool, ◌||◌, ◌&&◌, ◌==◌, zero, suc, List, [], ◌∷◌, length, filter, IsTrue, not, nat_lt, slice_index_or}
use Rattle.std.specs.List.{list_any, range_with_len, AllByRecursion}
use Rattle.std.specs.Ordering.{nat_cmp}
use Rattle.std.specs.Str.{bytes_eq}
use Rattle.flux_model.specs.Text.{IsText}
use Rattle.flux_model.specs.Ordered.{is_in, are_distinct_by}
use Rattle.flux_model.specs.Labels.{IsLabelSet, is_within}
use Rattle.flux_model.specs.Limits.{standard}
use Rattle.flux_model.specs.Graph.{Graph}
use Rattle.flux_model.specs.declared.graph.Triple.{Triple}
use Rattle.flux_model.specs.declared.graph.Vertex.{Vertex}
use Rattle.flux_model.specs.declared.pattern.Mode.{Mode}
use Rattle.flux_model.specs.declared.pattern.PatternEdge.{PatternEdge}

-- a pattern: its name and mode, the labels of its vertices 0, 1, .., and its edges in file order
pub record PatternGraph : Type 0 where
  pub name : List ℕ
  pub mode : Mode
  pub labels : List (List (List ℕ))
  pub edges : List PatternEdge

abbrev pub vertex_count : PatternGraph → ℕ
vertex_count q = length q.labels

-- whether two edges have the same ends and the same label
abbrev pub same_edge : PatternEdge → PatternEdge → Bool
same_edge e f = e.tail == f.tail && bytes_eq e.label f.label && e.head == f.head

-- ---- connected

-- whether an edge, in either direction, leads from a vertex of the list to u
abbrev pub is_next_to : List PatternEdge → List ℕ → ℕ → Bool
is_next_to edges seen u =
    list_any (λ (e : PatternEdge). (e.head == u && is_in nat_cmp e.tail seen) || (e.tail == u && is_in nat_cmp e.head seen)) edges

-- the vertices below n that are at most k edges away from vertex 0, the directions ignored
abbrev pub reached : List PatternEdge → ℕ → ℕ → List ℕ
reached edges n zero = 0 ∷ []
reached edges n (suc k) = wider (reached edges n k)
  where
    wider : List ℕ → List ℕ
    wider seen = filter (λ u. is_in nat_cmp u seen || is_next_to edges seen u) (range_with_len 0 n)

-- each vertex is reached; n edges are enough
abbrev pub is_connected : PatternGraph → Bool
is_connected q = length (reached q.edges (vertex_count q) (vertex_count q)) == vertex_count q

-- ---- what a `Pattern` is

-- the ends of an edge are vertices
abbrev pub HasEnds : ℕ → PatternEdge → Type 0
HasEnds n e = (e.tail < n) × (e.head < n)

pub record IsPattern (q : PatternGraph) : Type 0 where
  pub name : IsText q.name
  pub labels : AllByRecursion IsLabelSet q.labels
  pub texts : AllByRecursion (λ (e : PatternEdge). IsText e.label) q.edges
  pub some_vertex : 1 ≤ vertex_count q
  pub few_vertices : vertex_count q ≤ standard.pattern_vertices
  pub few_edges : length q.edges ≤ standard.pattern_edges
  pub ends : AllByRecursion (HasEnds (vertex_count q)) q.edges
  pub distinct : IsTrue (are_distinct_by same_edge q.edges)
  pub connected : IsTrue (is_connected q)

abbrev pub same_name : PatternGraph → PatternGraph → Bool
same_name q r = bytes_eq q.name r.name

-- no two patterns have the same name
abbrev pub HaveDistinctNames : List PatternGraph → Type 0
HaveDistinctNames qs = IsTrue (are_distinct_by same_name qs)

-- ---- what fits

-- id is a vertex of the graph that has each of these labels
abbrev pub fits_labels : Graph → List (List ℕ) → ℕ → Bool
fits_labels g labels id = list_any (λ (v : Vertex). v.id == id && is_within labels v.labels) g.vertices

-- v fits the pattern vertex u
abbrev pub fits : PatternGraph → ℕ → Graph → ℕ → Bool
fits q u g v = nat_lt u (vertex_count q) && fits_labels g (slice_index_or q.labels u []) v

-- the triple fits the pattern edge
abbrev pub fits_edge : PatternGraph → PatternEdge → Graph → Triple → Bool
fits_edge q e g t =
    bytes_eq e.label t.label && fits q e.tail g t.src && fits q e.head g t.dst && (not (e.tail == e.head) || t.src == t.dst)
