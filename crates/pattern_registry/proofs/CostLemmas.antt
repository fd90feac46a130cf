-- The costs of the patterns still to come.
use Rattle.std.proofs.Common.{◌≡◌, ℕ, ◌+◌, List, ◌∷◌, drop, ap, ◌∙◌}
use Rattle.std.specs.Prelude.{Some}
use Rattle.std.specs.List.{slice_get}
use Rattle.flux_model.specs.Costs.{no_dead_end_cost}
use Rattle.flux_model.specs.Graph.{Graph}
use Rattle.flux_model.specs.Pattern.{PatternGraph}
use Rattle.flux_model.specs.Tree.{QueryTree}
use Rattle.flux_model.proofs.PlaceLemmas.{drop_here}
use Rattle.pattern_registry.specs.AnswerCosts.{no_dead_end_costs}

pub no_dead_end_costs-next : (g : Graph) (patterns : List PatternGraph) (trees : List QueryTree) (k : ℕ) (q : PatternGraph) (t : QueryTree) → slice_get patterns k ≡ Some q → slice_get trees k ≡ Some t
    → no_dead_end_costs g (drop k patterns) (drop k trees) ≡ no_dead_end_cost q t g + no_dead_end_costs g (drop (k + 1) patterns) (drop (k + 1) trees)
no_dead_end_costs-next g patterns trees k q t e f =
    ap (λ qs. no_dead_end_costs g qs (drop k trees)) (drop_here patterns k q e) ∙ ap (no_dead_end_costs g (q ∷ drop (k + 1) patterns)) (drop_here trees k t f)
