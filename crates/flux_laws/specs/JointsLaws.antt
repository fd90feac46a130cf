-- Changes of the graph that leave the joints of a pattern's tree as they were.
use Rattle.std.specs.Prelude.{◌≡◌, ℕ, false, Bool, List}
use Rattle.std.specs.List.{list_any}
use Rattle.std.specs.Str.{bytes_eq}
use Rattle.flux_model.specs.Graph.{Graph, has_incident_triple, with_vertex, without_vertex, with_triple, without_triple}
use Rattle.flux_model.specs.Pattern.{PatternGraph}
use Rattle.flux_model.specs.States.{joined}
use Rattle.flux_model.specs.Tree.{QueryTree, BelongsTo}
use Rattle.flux_model.specs.declared.graph.Triple.{Triple}
use Rattle.flux_model.specs.declared.graph.Vertex.{Vertex}
use Rattle.flux_model.specs.declared.pattern.PatternEdge.{PatternEdge}

-- each tree edge has the same joints over both graphs
abbrev pub HaveSameJoints : PatternGraph → QueryTree → Graph → Graph → Type 0
HaveSameJoints q t g h = (u : ℕ) → (joined q t g).joints u ≡ (joined q t h).joints u

-- some edge of the pattern has the label
abbrev pub has_edge_labelled : PatternGraph → List ℕ → Bool
has_edge_labelled q label = list_any (λ (e : PatternEdge). bytes_eq e.label label) q.edges

-- a vertex that no triple ends at brings no joint
abbrev pub AddedVertexKeepsJoints : Type 0
AddedVertexKeepsJoints =
    (q : PatternGraph) (t : QueryTree) (g : Graph) (v : Vertex) → has_incident_triple g v.id ≡ false → HaveSameJoints q t (with_vertex g v) g

-- and takes none with it
abbrev pub DroppedVertexKeepsJoints : Type 0
DroppedVertexKeepsJoints =
    (q : PatternGraph) (t : QueryTree) (g : Graph) (id : ℕ) → has_incident_triple g id ≡ false → HaveSameJoints q t (without_vertex g id) g

-- with a triple more whose label no edge of the pattern has, the same vertices fit and the joints are the same
abbrev pub AddedTripleKeepsJoined : Type 0
AddedTripleKeepsJoined =
    (q : PatternGraph) (t : QueryTree) (g : Graph) (triple : Triple) → BelongsTo q t → has_edge_labelled q triple.label ≡ false →
    joined q t (with_triple g triple) ≡ joined q t g

-- and so with a triple fewer
abbrev pub DroppedTripleKeepsJoined : Type 0
DroppedTripleKeepsJoined =
    (q : PatternGraph) (t : QueryTree) (g : Graph) (triple : Triple) → BelongsTo q t → has_edge_labelled q triple.label ≡ false →
    joined q t (without_triple g triple) ≡ joined q t g
