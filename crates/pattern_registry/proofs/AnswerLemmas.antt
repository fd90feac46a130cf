-- Deltas of answers that a loop makes pattern by pattern.
use Rattle.std.proofs.Common.{◌≡◌, ℕ, zero, suc, ◌+◌, ◌<◌, ◌≤◌, Bool, true, false, cond, nat_lt, List, [], ◌∷◌, ◌++◌, length, take, refl, sym, ap, subst, ◌∙◌, arith, Some}
use Rattle.std.specs.Prelude.{IsPermutation}
use Rattle.std.specs.List.{slice_get}
use Rattle.std.proofs.lemmas.List.{length-append, length-take}
use Rattle.std.proofs.lemmas.List.Sorted.{IsPermutation-sym, IsPermutation-refl, length_permutation}
use Rattle.std.proofs.lemmas.Option.{slice_get_within, same_Some}
use Rattle.flux_model.specs.Costs.{no_dead_end_cost}
use Rattle.flux_model.specs.Graph.{Graph}
use Rattle.flux_model.specs.Pattern.{PatternGraph}
use Rattle.flux_model.specs.Embedding.{embeddings}
use Rattle.flux_model.specs.Tree.{QueryTree}
use Rattle.flux_model.specs.declared.maps.Delta.{Delta}
use Rattle.flux_model.specs.Deltas.{IsReordered, AreReordered, with_delta, answer_deltas}
use Rattle.flux_model.proofs.DeltasLemmas.{with_delta-append}
use Rattle.flux_model.proofs.PlaceLemmas.{take_next}
use Rattle.tree_search.specs.Members.{GrewByAll}
use Rattle.tree_search.specs.SearchCosts.{MeetsNoDeadEnd}
use Rattle.pattern_registry.specs.AnswerCosts.{AnswerStaysWithin}
use Rattle.pattern_registry.specs.States.{PatternStates}
use Rattle.pattern_registry.proofs.ZipLemmas.{AllZip-append}

-- what was found from nothing on is all, in some order
pub found-all : {X : Type 0} (old new all : List X) → old ≡ [] → GrewByAll old new all → IsPermutation all new
found-all old new all none grew =
    let is : new ≡ grew.more = grew.is ∙ ap (λ l. l ++ grew.more) none in
    subst (IsPermutation all) (sym is) (IsPermutation-sym grew.more all grew.permutation)

-- below its length a list has an element
pub at_place : {X : Type 0} (xs : List X) (k : ℕ) → k < length xs → (x : X) × (slice_get xs k ≡ Some x)
at_place [] k below = absurd (omega (arith, below))
at_place (x ∷ xs) zero below = (x, refl)
at_place (x ∷ xs) (suc k) below = at_place xs k (omega (arith, below))

-- ---- one pattern more

-- the delta of a pattern that is answered
abbrev answer : ℕ → Graph → PatternGraph → Delta
answer i g q = record { pattern = i; gained = embeddings q g; lost = [] }

answer_deltas-append : (i : ℕ) (g : Graph) (qs rs : List PatternGraph) → answer_deltas i g (qs ++ rs) ≡ answer_deltas i g qs ++ answer_deltas (i + length qs) g rs
answer_deltas-append i g [] rs = ap (λ n. answer_deltas n g rs) (omega arith)
answer_deltas-append i g (q ∷ qs) rs =
    let number : suc i + length qs ≡ i + length (q ∷ qs) = omega arith in
    ap (with_delta (answer i g q)) (answer_deltas-append (suc i) g qs rs)
    ∙ with_delta-append (answer i g q) (answer_deltas (suc i) g qs) (answer_deltas (suc i + length qs) g rs)
    ∙ ap (λ n. with_delta (answer i g q) (answer_deltas (suc i) g qs) ++ answer_deltas n g rs) number

answers_next : (g : Graph) (qs : List PatternGraph) (k : ℕ) (q : PatternGraph) → slice_get qs k ≡ Some q
    → answer_deltas 0 g (take (k + 1) qs) ≡ answer_deltas 0 g (take k qs) ++ with_delta (answer k g q) []
answers_next g qs k q e =
    let within : k < length qs = slice_get_within qs k q e in
    let number : 0 + length (take k qs) ≡ k = omega (arith, length-take k qs) in
    ap (answer_deltas 0 g) (take_next qs k q e) ∙ answer_deltas-append 0 g (take k qs) (q ∷ [])
    ∙ ap (λ n. answer_deltas 0 g (take k qs) ++ with_delta (answer n g q) []) number

-- a delta in another order has a map where it has one
pub with_delta-reordered : (d e : Delta) → IsReordered d e → AreReordered (with_delta d []) (with_delta e [])
with_delta-reordered d e r = by (nat_lt 0 (length (e.gained ++ e.lost))) (ap (nat_lt 0) same)
  where
    same : length (d.gained ++ d.lost) ≡ length (e.gained ++ e.lost)
    same = omega (arith, length-append d.gained d.lost, length-append e.gained e.lost, length_permutation d.gained e.gained r.gained, length_permutation d.lost e.lost r.lost)

    by : (b : Bool) → nat_lt 0 (length (d.gained ++ d.lost)) ≡ b → AreReordered (with_delta d []) (cond b (e ∷ []) [])
    by true h = rw h (r, tt)
    by false h = rw h tt

pub reordered_next : (g : Graph) (qs : List PatternGraph) (k : ℕ) (q : PatternGraph) (old new : List Delta) (maps none : List (List ℕ)) → slice_get qs k ≡ Some q
    → IsPermutation (embeddings q g) maps → none ≡ [] → AreReordered (answer_deltas 0 g (take k qs)) old → new ≡ old ++ with_delta (record { pattern = k; gained = maps; lost = none }) []
    → AreReordered (answer_deltas 0 g (take (k + 1) qs)) new
reordered_next g qs k q old new maps none e maps_are none_is before now =
    rw (answers_next g qs k q e, now)
    (AllZip-append IsReordered (answer_deltas 0 g (take k qs)) (with_delta (answer k g q) []) old (with_delta (record { pattern = k; gained = maps; lost = none }) []) before
    (with_delta-reordered (answer k g q) (record { pattern = k; gained = maps; lost = none }) (record { pattern = refl; gained = maps_are; lost = rw none_is (IsPermutation-refl []) })))

-- ---- the steps of one pattern

-- what the search for a pattern took, by the pattern and the tree at its place
pub stays_here : (s : PatternStates) (k : ℕ) (g : Graph) (p : PatternGraph) (tree : QueryTree) (old new : ℕ) → slice_get s.patterns k ≡ Some p → slice_get s.trees k ≡ Some tree
    → (MeetsNoDeadEnd p tree → new ≤ old + no_dead_end_cost p tree g) → AnswerStaysWithin s k g old new
stays_here s k g p tree old new here tree_here within q t is tree_is live =
    let pattern : p ≡ q = same_Some p q (sym here ∙ is) in
    let its_tree : tree ≡ t = same_Some tree t (sym tree_here ∙ tree_is) in
    subst (λ c. new ≤ old + c) (λ i. no_dead_end_cost (pattern i) (its_tree i) g) (within (subst (λ (T : Type 0). T) (λ i. MeetsNoDeadEnd (sym pattern i) (sym its_tree i)) live))
