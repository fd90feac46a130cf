-- Laws of graph files.
use Rattle.std.specs.Prelude.{◌≡◌, ℕ, List, Ok}
use Rattle.flux_model.specs.Graph.{Graph, IsGraph, IsWithin}
use Rattle.flux_model.specs.GraphFile.{graph_of}
use Rattle.flux_model.specs.declared.limits.Limits.{Limits}

-- the graph of a graph file that is accepted is a graph
abbrev pub GraphFileMakesGraph : Type 0
GraphFileMakesGraph = (limits : Limits) (bytes : List ℕ) (g : Graph) → graph_of limits bytes ≡ Ok g → IsGraph g

-- and it does not pass the limits
abbrev pub GraphFileKeepsLimits : Type 0
GraphFileKeepsLimits = (limits : Limits) (bytes : List ℕ) (g : Graph) → graph_of limits bytes ≡ Ok g → IsWithin limits g
