-- Lists in ascending order: a list has one ascending form.
use Rattle.std.proofs.Common.{◌≡◌, ℕ, suc, ◌+◌, ◌<◌, Bool, true, false, cond, ◌&&◌, List, [], ◌∷◌, length, get_or, refl, sym, ap, subst, ◌∙◌, arith}
use Rattle.std.specs.declared.cmp.Ordering.{Ordering}
use Rattle.std.specs.declared.cmp.Ordering.TheVariants.{Less, Equal, Greater}
use Rattle.std.specs.Ordering.{is_lt, ordering_reverse}
use Rattle.std.specs.Cmp.{IsTotalOrder}
use Rattle.std.specs.List.{AllByRecursion, sum_by}
use Rattle.std.specs.List.Sorted.{IsSorted, IsStrictlySortedBy, IsPermutation}
use Rattle.std.proofs.lemmas.List.Sums.{sum_by-cons}
use Rattle.std.proofs.lemmas.List.Sorted.{sorted_far, ranks_by, sum_by-IsPermutation}
use Rattle.std.proofs.lemmas.Map.Keys.{Less-from_sorted}
use Rattle.flux_model.specs.Ordered.{is_ascending}

-- ---- forms of a strictly ascending list

module _ {X : Type 0} (R : X → X → Ordering) (o : IsTotalOrder R) where
  -- where a conjunction holds, both parts do
  pub both : (b c : Bool) → b && c ≡ true → (b ≡ true) × (c ≡ true)
  both true c h = (refl, h)
  both false c h = cc

  is_less : (r : Ordering) → is_lt r ≡ true → r ≡ Less
  is_less Less e = refl
  is_less Equal e = cc
  is_less Greater e = cc

  all_above : (x y : X) (ys : List X) → R x y ≡ Less → AllByRecursion (λ z. R y z ≡ Less) ys → AllByRecursion (λ z. R x z ≡ Less) ys
  all_above x y [] l a = tt
  all_above x y (z ∷ zs) l a = (o.trans x y z l a.0, all_above x y zs l a.1)

  -- ascending by the test is sorted, each element below the next
  pub strict_from_ascending : (xs : List X) → is_ascending R xs ≡ true → IsStrictlySortedBy R xs
  unfolding IsStrictlySortedBy
  strict_from_ascending [] a = tt
  strict_from_ascending (x ∷ []) a = (tt, tt)
  strict_from_ascending (x ∷ y ∷ ys) a =
      let parts = both (is_lt (R x y)) (is_ascending R (y ∷ ys)) a in
      let less : R x y ≡ Less = is_less (R x y) parts.0 in
      let rest = strict_from_ascending (y ∷ ys) parts.1 in
      ((less, all_above x y ys less rest.0), rest)

  -- and the other way round
  pub ascending_from_strict : (xs : List X) → IsStrictlySortedBy R xs → is_ascending R xs ≡ true
  unfolding IsStrictlySortedBy
  ascending_from_strict [] s = refl
  ascending_from_strict (x ∷ []) s = refl
  ascending_from_strict (x ∷ y ∷ ys) s = rw s.0.0 (ascending_from_strict (y ∷ ys) s.1)

  -- a strictly sorted list is sorted
  pub sorted_from_strict : (xs : List X) → IsStrictlySortedBy R xs → IsSorted R xs
  sorted_from_strict xs s k d low high =
      ap is_lt (o.antisymm (get_or xs (k + 1) d) (get_or xs k d) ∙ ap ordering_reverse (Less-from_sorted R xs k (k + 1) d s (omega arith) high))

-- ---- two sorted lists of the same elements

module _ {X : Type 0} (R : X → X → Ordering) (o : IsTotalOrder R) (same : (x y : X) → R x y ≡ Equal → x ≡ y) where
  -- 1 where w is below y
  abbrev below : X → X → ℕ
  below y w = cond (is_lt (R w y)) 1 0

  none_below : (y : X) (xs : List X) → ((k : ℕ) (d : X) → k < length xs → is_lt (R (get_or xs k d) y) ≡ false) → sum_by (below y) xs ≡ 0
  none_below y [] h = refl
  none_below y (x ∷ xs) h =
      let first : below y x ≡ 0 = ap (λ b. cond b 1 0) (h 0 x (omega arith)) in
      let rest : sum_by (below y) xs ≡ 0 = none_below y xs (λ k d l. h (suc k) d (omega arith)) in
      omega (arith, sum_by-cons (below y) x xs)

  first_not_below : (y z : X) (zs : List X) → sum_by (below y) (z ∷ zs) ≡ 0 → is_lt (R z y) ≡ false
  first_not_below y z zs e = by (is_lt (R z y)) refl
    where
      by : (b : Bool) → is_lt (R z y) ≡ b → is_lt (R z y) ≡ false
      by false q = q
      by true q =
          let one : below y z ≡ 1 = ap (λ b. cond b 1 0) q in
          absurd (omega (arith, sum_by-cons (below y) z zs))

  neither_below : (y z : X) → is_lt (R y z) ≡ false → is_lt (R z y) ≡ false → y ≡ z
  neither_below y z p q = by (R y z) refl
    where
      by : (r : Ordering) → R y z ≡ r → y ≡ z
      by Less e = let f = ap is_lt (sym e) ∙ p in cc
      by Equal e = same y z e
      by Greater e = let f = ap is_lt (sym (o.antisymm z y ∙ ap ordering_reverse e)) ∙ q in cc

  sorted_rest : (y : X) (ys : List X) → IsSorted R (y ∷ ys) → IsSorted R ys
  sorted_rest y ys s k d low high =
      let e : suc k + 1 ≡ suc (k + 1) = omega arith in
      subst (λ j. is_lt (R (get_or (y ∷ ys) j d) (get_or ys k d)) ≡ false) e (s (suc k) d (omega arith) (omega arith))

  low_head : (y : X) (ys : List X) → IsSorted R (y ∷ ys) → sum_by (below y) (y ∷ ys) ≡ 0
  low_head y ys s =
      none_below y (y ∷ ys) (λ k d l. sorted_far (λ a b. is_lt (R a b)) (ranks_by o (λ x. x)) (y ∷ ys) s 0 k d (omega arith) l)

  -- two sorted lists with equal sums are one
  alike_sorted : (ys zs : List X) → IsSorted R ys → IsSorted R zs → ((f : X → ℕ) → sum_by f ys ≡ sum_by f zs) → ys ≡ zs
  alike_sorted [] [] s t a = refl
  alike_sorted [] (z ∷ zs) s t a = absurd (omega (arith, a (λ _. 1), sum_by-cons (λ _. 1) z zs))
  alike_sorted (y ∷ ys) [] s t a = absurd (omega (arith, a (λ _. 1), sum_by-cons (λ _. 1) y ys))
  alike_sorted (y ∷ ys) (z ∷ zs) s t a =
      let first : y ≡ z =
      neither_below y z
      (first_not_below z y ys (a (below z) ∙ low_head z zs t))
      (first_not_below y z zs (sym (a (below y)) ∙ low_head y ys s)) in
      let rest : ys ≡ zs =
      alike_sorted ys zs (sorted_rest y ys s) (sorted_rest z zs t)
      (λ f. omega (arith, a f, sum_by-cons f y ys, sum_by-cons f z zs, ap f first)) in
      λ i. first i ∷ rest i

  -- a list has one ascending form
  pub sorted_form_unique : (xs ys zs : List X) → IsPermutation xs ys → IsPermutation xs zs → IsSorted R ys → IsSorted R zs → ys ≡ zs
  sorted_form_unique xs ys zs p q s t =
      alike_sorted ys zs s t (λ f. sum_by-IsPermutation f xs ys p ∙ sym (sum_by-IsPermutation f xs zs q))
