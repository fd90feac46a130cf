-- Deltas have one form in ascending order.
use Rattle.std.proofs.Common.{◌≡◌, ℕ, suc, ◌<◌, List, [], ◌∷◌, length, get_or, refl, sym, subst, ◌∙◌, arith}
use Rattle.std.specs.declared.cmp.Ordering.{Ordering}
use Rattle.std.specs.declared.cmp.Ordering.TheVariants.{Less, Equal, Greater}
use Rattle.std.specs.Ordering.{nat_cmp, ordering_then}
use Rattle.std.specs.Cmp.Lexicographic.{slice_cmp, nat_list_cmp_total}
use Rattle.std.specs.List.Sorted.{IsSorted, IsPermutation}
use Rattle.std.proofs.lemmas.Cmp.{ranked}
use Rattle.flux_model.specs.Deltas.{IsReordered, IsInOrder, AreReordered}
use Rattle.flux_model.specs.declared.maps.Delta.{Delta}
use Rattle.flux_model.proofs.SortedLemmas.{sorted_form_unique}
use Rattle.delta_report.specs.Block.{HavePatterns}
use Rattle.delta_report.specs.Sorted.{IsSortedDelta, AreSorted}

-- ---- lists of maps

same_map_from_Equal : (xs ys : List ℕ) → slice_cmp nat_cmp xs ys ≡ Equal → xs ≡ ys
same_map_from_Equal [] [] e = refl
same_map_from_Equal [] (y ∷ ys) e = cc
same_map_from_Equal (x ∷ xs) [] e = cc
same_map_from_Equal (x ∷ xs) (y ∷ ys) e = by (nat_cmp x y) refl e (same_map_from_Equal xs ys)
  where
    by : (r : Ordering) → nat_cmp x y ≡ r → ordering_then r (slice_cmp nat_cmp xs ys) ≡ Equal → (slice_cmp nat_cmp xs ys ≡ Equal → xs ≡ ys) → x ∷ xs ≡ y ∷ ys
    by Less q e rest = cc
    by Equal q e rest = let first : x ≡ y = ranked x y Equal (sym q) in let others = rest e in λ i. first i ∷ others i
    by Greater q e rest = cc

-- one list of maps has one ascending order
pub sorted_maps_unique : (xs ys zs : List (List ℕ)) → IsPermutation xs ys → IsPermutation xs zs → IsSorted (slice_cmp nat_cmp) ys → IsSorted (slice_cmp nat_cmp) zs → ys ≡ zs
sorted_maps_unique = sorted_form_unique (slice_cmp nat_cmp) nat_list_cmp_total same_map_from_Equal

-- ---- deltas

sorted_delta_unique : (d e f : Delta) → IsSortedDelta d e → IsSortedDelta d f → e ≡ f
sorted_delta_unique d e f p q =
    let pattern : e.pattern ≡ f.pattern = p.same.pattern ∙ sym q.same.pattern in
    let gained : e.gained ≡ f.gained = sorted_maps_unique _ _ _ p.same.gained q.same.gained p.order.gained q.order.gained in
    let lost : e.lost ≡ f.lost = sorted_maps_unique _ _ _ p.same.lost q.same.lost p.order.lost q.order.lost in
    λ i. record { pattern = pattern i; gained = gained i; lost = lost i }

-- deltas have one sorted form
pub AreSorted-unique : (ds es fs : List Delta) → AreSorted ds es → AreSorted ds fs → es ≡ fs
AreSorted-unique [] [] [] p q = refl
AreSorted-unique [] [] (f ∷ fs) p q = absurd q
AreSorted-unique [] (e ∷ es) fs p q = absurd p
AreSorted-unique (d ∷ ds) [] fs p q = absurd p
AreSorted-unique (d ∷ ds) (e ∷ es) [] p q = absurd q
AreSorted-unique (d ∷ ds) (e ∷ es) (f ∷ fs) p q =
    let first : e ≡ f = sorted_delta_unique d e f p.0 q.0 in
    let rest : es ≡ fs = AreSorted-unique ds es fs p.1 q.1 in
    λ i. first i ∷ rest i

-- so what holds of one sorted form holds of each
pub each_sorted_form : (P : List Delta → Type 0) (ds es : List Delta) → AreSorted ds es → P es → (sorted : List Delta) → AreSorted ds sorted → P sorted
each_sorted_form P ds es s p sorted t = subst P (AreSorted-unique ds es sorted s t) p

-- what holds at each place holds of the lists
pub AreReordered-from_places : (ds es : List Delta) → length es ≡ length ds → ((k : ℕ) (d : Delta) → k < length ds → IsReordered (get_or ds k d) (get_or es k d)) → AreReordered ds es
AreReordered-from_places [] [] e r = tt
AreReordered-from_places [] (f ∷ fs) e r = cc
AreReordered-from_places (d ∷ ds) [] e r = cc
AreReordered-from_places (d ∷ ds) (f ∷ fs) e r =
    (r 0 d (omega arith), AreReordered-from_places ds fs (omega arith) (λ k d l. r (suc k) d (omega arith)))

-- the same with the order of each delta
pub AreSorted-from_places : (ds es : List Delta) → length es ≡ length ds → ((k : ℕ) (d : Delta) → k < length ds → IsReordered (get_or ds k d) (get_or es k d)) → ((k : ℕ) (d : Delta) → k < length ds → IsInOrder (get_or es k d)) → AreSorted ds es
AreSorted-from_places [] [] e r s = tt
AreSorted-from_places [] (f ∷ fs) e r s = cc
AreSorted-from_places (d ∷ ds) [] e r s = cc
AreSorted-from_places (d ∷ ds) (f ∷ fs) e r s = (
  record { same = r 0 d (omega arith); order = s 0 d (omega arith) },
  AreSorted-from_places ds fs (omega arith) (λ k d l. r (suc k) d (omega arith)) (λ k d l. s (suc k) d (omega arith)),
)

-- a new order of the maps leaves the patterns
pub HavePatterns-reordered : (n : ℕ) (ds es : List Delta) → length es ≡ length ds → ((k : ℕ) (d : Delta) → k < length ds → IsReordered (get_or ds k d) (get_or es k d)) → HavePatterns n ds → HavePatterns n es
HavePatterns-reordered n ds es e r h k d l = rw (r k d (omega arith)).pattern (h k d (omega arith))
