-- What a `BlockGraph` means: its graph, its rows from a place on, and of which row a place is.
use Rattle.std.specs.Prelude.{ℕ, Bool, List, map}
use Rattle.flux_model.specs.Graph.{Graph}
use Rattle.flux_model.specs.declared.graph.Triple.{Triple}
use Rattle.graph_traits.specs.declared.spot.Spot.{Spot}
use Rattle.label_graph.specs.declared.link.RowEntry.{RowEntry}
use Rattle.label_graph.specs.Store.{node_graph, triple_of}
use Rattle.block_graph.specs.declared.store.BlockGraph.{BlockGraph}
use Rattle.block_graph.specs.Blocks.{row_link}
use Rattle.block_graph.specs.Chains.{chain_at}
use Rattle.block_graph.specs.Walks.{entries_from, left_from, IsPlace, IsAmongEntries}

-- the graph: the vertices of the nodes, and the triples of the links that have places
abbrev pub graph_in : BlockGraph → Graph
graph_in s = node_graph s.names s.nodes.entries s.places.entries

-- all entries of a row
abbrev pub row_in : BlockGraph → Bool × ℕ → List RowEntry
row_in s row = entries_from s.blocks.slots (chain_at s.nodes.entries row).blocks (chain_at s.nodes.entries row).first

-- the entries of a row from a place on
abbrev pub row_left : BlockGraph → Bool × ℕ → Spot → List RowEntry
row_left s row at = left_from s.blocks.slots (chain_at s.nodes.entries row).blocks (chain_at s.nodes.entries row).first at.node at.place

-- the triples of a row from a place on
abbrev pub triples_in : BlockGraph → Bool × ℕ → Spot → List Triple
triples_in s row at = map (λ (t : RowEntry). triple_of s.names (row_link row t)) (row_left s row at)

-- it is a place of the row, or its end
abbrev pub IsPlaceIn : BlockGraph → Bool × ℕ → Spot → Type 0
IsPlaceIn s row at = IsPlace s.blocks.slots (chain_at s.nodes.entries row) at.node at.place

-- the entry is one of the row
abbrev pub IsEntryIn : BlockGraph → Bool × ℕ → RowEntry → Type 0
IsEntryIn s row t = IsAmongEntries s.blocks.slots (chain_at s.nodes.entries row) t
