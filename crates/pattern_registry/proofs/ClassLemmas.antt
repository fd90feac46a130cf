-- The classes of a triple, edge by edge.
use Rattle.std.proofs.Common.{◌≡◌, ℕ, zero, suc, ◌+◌, List, [], ◌∷◌, ◌++◌, sym, ap, subst, ◌∙◌, arith}
use Rattle.std.specs.Prelude.{IsPermutation, flat_map}
use Rattle.std.specs.List.{range_with_len}
use Rattle.std.proofs.lemmas.List.{append-nil}
use Rattle.std.proofs.lemmas.List.Concat.{flat_map-append}
use Rattle.std.proofs.lemmas.List.Sorted.{IsPermutation-append, IsPermutation-refl, IsPermutation-sym}
use Rattle.flux_model.specs.Change.{gained, without}
use Rattle.flux_model.specs.Embedding.{embeddings}
use Rattle.flux_model.specs.Graph.{Graph}
use Rattle.flux_model.specs.Pattern.{PatternGraph}
use Rattle.tree_search.specs.Members.{GrewByAll}

range_next : (s n : ℕ) → range_with_len s (n + 1) ≡ range_with_len s n ++ (s + n) ∷ []
range_next s zero = ap (λ k. k ∷ []) (omega arith)
range_next s (suc n) =
    let number : s + 1 + n ≡ s + suc n = omega arith in
    let one : suc (n + 1) ≡ suc n + 1 = omega arith in
    ap (range_with_len s) (sym one) ∙ ap (λ l. s ∷ l) (range_next (s + 1) n ∙ ap (λ k. range_with_len (s + 1) n ++ k ∷ []) number)

-- what was found and the next class
pub classes_next : {X : Type 0} (class : ℕ → List X) (i : ℕ) (old new : List X) → IsPermutation (flat_map class (range_with_len 0 i)) old → GrewByAll old new (class i)
    → IsPermutation (flat_map class (range_with_len 0 (i + 1))) new
classes_next {X} class i old new before grew =
    let all : flat_map class (range_with_len 0 (i + 1)) ≡ flat_map class (range_with_len 0 i) ++ class i =
    ap (flat_map class) (range_next 0 i) ∙ flat_map-append class (range_with_len 0 i) ((0 + i) ∷ []) ∙ ap (λ l. flat_map class (range_with_len 0 i) ++ l) (append-nil (class (0 + i)) ∙ ap class (omega arith)) in
    subst (λ (l : List X). IsPermutation l new) (sym all)
    (subst (λ (l : List X). IsPermutation (flat_map class (range_with_len 0 i) ++ class i) l) (sym grew.is)
    (IsPermutation-append (flat_map class (range_with_len 0 i)) old (class i) grew.more before (IsPermutation-sym grew.more (class i) grew.permutation)))

-- where there is no embedding, none is gained
pub nothing_gained : (q : PatternGraph) (old new : Graph) (maps : List (List ℕ)) → embeddings q new ≡ [] → maps ≡ [] → IsPermutation (gained q old new) maps
nothing_gained q old new maps none empty =
    subst (λ ms. IsPermutation (gained q old new) ms) (sym empty)
    (subst (λ es. IsPermutation (without es (embeddings q old)) []) (sym none) (IsPermutation-refl []))
