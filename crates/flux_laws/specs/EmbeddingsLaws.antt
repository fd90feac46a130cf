-- Laws of the embeddings of a pattern in a graph.
use Rattle.std.specs.Prelude.{◌≡◌, ℕ, ◌<◌, ◌↔◌, List, [], length, slice_index, slice_index_or, Contains, IsTrue}
use Rattle.std.specs.Ordering.{nat_cmp}
use Rattle.std.specs.Cmp.Lexicographic.{slice_cmp}
use Rattle.flux_model.specs.Ordered.{is_ascending}
use Rattle.flux_model.specs.Graph.{Graph, vertex_cmp}
use Rattle.flux_model.specs.Pattern.{PatternGraph, vertex_count}
use Rattle.flux_model.specs.declared.graph.Vertex.{Vertex}
use Rattle.flux_model.specs.declared.pattern.Mode.TheVariants.{Iso}
use Rattle.flux_model.specs.declared.pattern.PatternEdge.{PatternEdge}
use Rattle.flux_model.specs.Embedding.{IsEmbedding, embeddings}

-- where the vertices of the graph ascend, each embedding is below the next, so none stands twice
abbrev pub EmbeddingsAscend : Type 0
EmbeddingsAscend = (q : PatternGraph) (g : Graph) → IsTrue (is_ascending vertex_cmp g.vertices) → IsTrue (is_ascending (slice_cmp nat_cmp) (embeddings q g))

-- all that stands in the list is an embedding, and each embedding stands there
abbrev pub EmbeddingsAreAll : Type 0
EmbeddingsAreAll = (q : PatternGraph) (g : Graph) (m : List ℕ) → Contains (embeddings q g) m ↔ IsEmbedding q g m

-- the vertex of this id is in the graph, and has each of the labels
abbrev pub HasLabelled : Graph → ℕ → List (List ℕ) → Type 0
HasLabelled g id labels = (v : Vertex) × Contains g.vertices v × (v.id ≡ id) × ((label : List ℕ) → Contains labels label → Contains v.labels label)

-- a map of the pattern into the graph: vertex u goes to the u-th id of m
pub record MapsInto (q : PatternGraph) (g : Graph) (m : List ℕ) : Type 0 where
  pub each : length m ≡ vertex_count q
  pub vertices : (u : ℕ) → u < vertex_count q → HasLabelled g (slice_index m u) (slice_index_or q.labels u [])
  pub edges : (e : PatternEdge) → Contains q.edges e → Contains g.triples (record { src = slice_index m e.tail; label = e.label; dst = slice_index m e.head })
  pub injective : q.mode ≡ Iso → (u w : ℕ) → u < length m → w < length m → slice_index m u ≡ slice_index m w → u ≡ w

-- the embeddings are exactly the maps that keep labels and edges, and that are injective where the mode is iso
abbrev pub EmbeddingsAreMaps : Type 0
EmbeddingsAreMaps = (q : PatternGraph) (g : Graph) (m : List ℕ) → IsEmbedding q g m ↔ MapsInto q g m
