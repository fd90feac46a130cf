-- Files that are accepted under the standard limits.
use Rattle.std.specs.Prelude.{◌≡◌, ℕ, List, Ok, ⊤}
use Rattle.flux_model.specs.Limits.{standard}
use Rattle.flux_model.specs.Graph.{Graph}
use Rattle.flux_model.specs.GraphFile.{graph_of}
use Rattle.flux_model.specs.Pattern.{PatternGraph}
use Rattle.flux_model.specs.PatternFile.{patterns_of}
use Rattle.file_reading.specs.declared.stop.Stop.{Stop}
use Rattle.file_reading.specs.declared.stop.Stop.TheVariants as stop

-- a graph file of these bytes makes this graph
unfoldable pub IsGraphFile : List ℕ → Graph → Type 0
IsGraphFile bytes g = graph_of standard bytes ≡ Ok g

-- a pattern file of these bytes makes these patterns
unfoldable pub IsPatternFile : List ℕ → List PatternGraph → Type 0
IsPatternFile bytes qs = patterns_of standard bytes ≡ Ok qs

-- the reading stopped for want of memory or at a failed read, and not because of the file
abbrev pub IsNoVerdict : Stop → Type 0
IsNoVerdict stop.Memory = ⊤
IsNoVerdict stop.Read = ⊤
IsNoVerdict stop.NoFile = ⊥
IsNoVerdict stop.TooMuch = ⊥
IsNoVerdict (stop.Bad bad) = ⊥
