-- What it may cost to answer for all patterns.
use Rattle.std.specs.Prelude.{◌≡◌, ℕ, ◌+◌, ◌≤◌, List, [], ◌∷◌, slice_get, Some}
use Rattle.flux_model.specs.Costs.{no_dead_end_cost}
use Rattle.flux_model.specs.Graph.{Graph}
use Rattle.flux_model.specs.Pattern.{PatternGraph}
use Rattle.flux_model.specs.Tree.{QueryTree}
use Rattle.pattern_registry.specs.States.{PatternStates}
use Rattle.tree_search.specs.SearchCosts.{MeetsNoDeadEnd}

-- the search of no pattern meets a dead end, by its tree
pub record MeetNoDeadEnd (patterns : List PatternGraph) (trees : List QueryTree) : Type 0 where
  pub each : (k : ℕ) (q : PatternGraph) (t : QueryTree) → slice_get patterns k ≡ Some q → slice_get trees k ≡ Some t → MeetsNoDeadEnd q t

-- of the embeddings of each pattern, by its tree
abbrev pub no_dead_end_costs : Graph → List PatternGraph → List QueryTree → ℕ
no_dead_end_costs g [] ts = 0
no_dead_end_costs g (q ∷ qs) [] = 0
no_dead_end_costs g (q ∷ qs) (t ∷ ts) = no_dead_end_cost q t g + no_dead_end_costs g qs ts

-- the embeddings of the pattern at a place were found within what they may cost, where its search meets no dead end
abbrev pub AnswerStaysWithin : PatternStates → ℕ → Graph → (old new : ℕ) → Type 0
AnswerStaysWithin s k g old new =
    (q : PatternGraph) (t : QueryTree) → slice_get s.patterns k ≡ Some q → slice_get s.trees k ≡ Some t → MeetsNoDeadEnd q t → new ≤ old + no_dead_end_cost q t g
