-- How many pattern vertices exact states are kept for.
use Rattle.std.proofs.Common.{◌≡◌, ℕ, List, length, ap, sym, ◌∙◌}
use Rattle.flux_model.specs.Tree.{QueryTree}
use Rattle.dcg_transition.specs.Filled.{child_counts}
use Rattle.dcg_transition.proofs.LevelLemmas.{length-child_counts}

-- as many as the tree has
pub sized : (t : QueryTree) (cs : List ℕ) (n : ℕ) → cs ≡ child_counts t → n ≡ length t.links → length cs ≡ n
sized t cs n counts count = ap (λ (l : List ℕ). length l) counts ∙ length-child_counts t ∙ sym count
