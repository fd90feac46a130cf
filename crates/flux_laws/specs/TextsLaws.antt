-- What holds of the text of a graph.
use Rattle.std.specs.Prelude.{◌≡◌, ℕ, ◌≤◌, Ok}
use Rattle.flux_model.specs.Graph.{Graph, IsGraph, IsWithin}
use Rattle.flux_model.specs.GraphFile.{graph_of}
use Rattle.flux_model.specs.GraphText.{graph_text}
use Rattle.flux_model.specs.declared.limits.Limits.{Limits}

-- a vertex with a number of 10 digits and 16 labels of 64 bytes: 1 + 11 + 16 * 65 bytes
abbrev pub longest_line : ℕ
longest_line = 1052

abbrev pub GraphIsReadBack : Type 0
GraphIsReadBack =
    (limits : Limits) (g : Graph) → IsGraph g → IsWithin limits g → longest_line ≤ limits.line_bytes → graph_of limits (graph_text g) ≡ Ok g
