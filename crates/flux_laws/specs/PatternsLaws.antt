-- Laws of patterns.
use Rattle.std.specs.Prelude.{◌≡◌, ℕ, ◌≤◌, ◌<◌, ◌↔◌, ◌⊎◌, List, [], ◌∷◌, length, Ok, All, IsTrue}
use Rattle.std.specs.List.{Any, AllByRecursion}
use Rattle.flux_model.specs.Limits.{IsFair}
use Rattle.flux_model.specs.Pattern.{PatternGraph, IsPattern, HasEnds, HaveDistinctNames, vertex_count, is_connected}
use Rattle.flux_model.specs.PatternFile.{patterns_of}
use Rattle.flux_model.specs.declared.pattern.PatternEdge.{PatternEdge}
use Rattle.flux_model.specs.declared.limits.Limits.{Limits}

-- ---- pattern files

-- under fair limits, what an accepted pattern file makes are patterns
abbrev pub PatternFileMakesPatterns : Type 0
PatternFileMakesPatterns = (limits : Limits) (bytes : List ℕ) (qs : List PatternGraph) → IsFair limits → patterns_of limits bytes ≡ Ok qs → All IsPattern qs

-- no two of them have the same name
abbrev pub PatternFileNamesDiffer : Type 0
PatternFileNamesDiffer = (limits : Limits) (bytes : List ℕ) (qs : List PatternGraph) → patterns_of limits bytes ≡ Ok qs → HaveDistinctNames qs

-- no more vertices and edges than the limits say
pub record IsPatternWithin (limits : Limits) (q : PatternGraph) : Type 0 where
  pub vertices : vertex_count q ≤ limits.pattern_vertices
  pub edges : length q.edges ≤ limits.pattern_edges

-- there are no more patterns than the limits say, and none is larger
abbrev pub PatternFileKeepsLimits : Type 0
PatternFileKeepsLimits =
    (limits : Limits) (bytes : List ℕ) (qs : List PatternGraph) → patterns_of limits bytes ≡ Ok qs → (length qs ≤ limits.patterns) × All (IsPatternWithin limits) qs

-- ---- connected patterns

-- the edge joins the two vertices, in either direction
abbrev pub Joins : ℕ → ℕ → PatternEdge → Type 0
Joins u v e = ((e.tail ≡ u) × (e.head ≡ v)) ⊎ ((e.tail ≡ v) × (e.head ≡ u))

-- from u over the vertices of the list to v, each joined to the next by an edge: u itself, or the last of the list, is v
abbrev pub IsChain : List PatternEdge → ℕ → List ℕ → ℕ → Type 0
IsChain edges u [] v = u ≡ v
IsChain edges u (w ∷ ws) v = Any (Joins u w) edges × IsChain edges w ws v

-- a pattern that has a vertex, and whose edges end at its vertices, is connected exactly where a chain leads from vertex 0 to each vertex
abbrev pub ConnectedByChains : Type 0
ConnectedByChains =
    (q : PatternGraph) → 1 ≤ vertex_count q → AllByRecursion (HasEnds (vertex_count q)) q.edges →
    IsTrue (is_connected q) ↔ ((u : ℕ) → u < vertex_count q → (ws : List ℕ) × IsChain q.edges 0 ws u)
