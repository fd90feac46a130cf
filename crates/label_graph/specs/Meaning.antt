-- What a `LabelGraph` means: its graph, its rows from a place on, and of which vertex a place is.
use Rattle.std.specs.Prelude.{◌≡◌, ℕ, List, Some, slice_get}
use Rattle.std.specs.Map.{keys_of}
use Rattle.flux_model.specs.Graph.{Graph}
use Rattle.flux_model.specs.declared.graph.Triple.{Triple}
use Rattle.label_graph.specs.Places.{outs, ins, out_link, in_link}
use Rattle.label_graph.specs.Store.{node_graph, row_from}
use Rattle.graph_traits.specs.declared.spot.Spot.{Spot}
use Rattle.label_graph.specs.declared.store.LabelGraph.{LabelGraph}

-- the graph: the vertices of the nodes, and the triples of the links that have places
abbrev pub graph_in : LabelGraph → Graph
graph_in s = node_graph s.names s.nodes.entries s.places.entries

-- the triples of the out row of v from a place on
abbrev pub outs_in : LabelGraph → ℕ → Spot → List Triple
outs_in s v at = row_from s.names (out_link v) (outs s.nodes.entries v) at.place

-- the triples of the in row of v from a place on
abbrev pub ins_in : LabelGraph → ℕ → Spot → List Triple
ins_in s v at = row_from s.names (in_link v) (ins s.nodes.entries v) at.place

-- the place is of the vertex v: it says where the store has that vertex
abbrev pub IsOfVertex : LabelGraph → ℕ → Spot → Type 0
IsOfVertex s v at = slice_get (keys_of s.nodes.entries) at.node ≡ Some v
