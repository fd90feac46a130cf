-- An ascending list within another is what the other has of it.
use Rattle.std.proofs.Common.{◌≡◌, Bool, true, false, cond, List, [], ◌∷◌, refl, sym, ◌∙◌, ap, subst}
use Rattle.std.specs.declared.cmp.Ordering.{Ordering}
use Rattle.std.specs.declared.cmp.Ordering.TheVariants.{Less, Equal, Greater}
use Rattle.std.specs.Ordering.{is_lt, ordering_reverse}
use Rattle.std.specs.Cmp.{IsTotalOrder}
use Rattle.std.specs.List.{filter, list_all}
use Rattle.std.proofs.lemmas.Map.Lookups.{CmpEqualImpliesEq}
use Rattle.flux_model.specs.Ordered.{is_ascending, is_in}
use Rattle.flux_model.proofs.OrderedLemmas.{in-less, in-equal, in-greater}
use Rattle.flux_laws.proofs.AscendingLemmas.{below_all, below_rest, greater, less, tail_ascending, in_rest}
use Rattle.flux_laws.proofs.TestLemmas.{both}
use Rattle.flux_laws.proofs.PlainLemmas.{list_all-weaker}

module _ {K : Type 0} (R : K → K → Ordering) (o : IsTotalOrder R) where
  none_of : (ys : List K) → filter (λ y. is_in R y []) ys ≡ []
  none_of [] = refl
  none_of (y ∷ ys) = none_of ys

  -- what is above x is in the list exactly where it is in the rest
  past : (x : K) (xs ys : List K) → below_all R o x ys ≡ true → filter (λ y. is_in R y (x ∷ xs)) ys ≡ filter (λ y. is_in R y xs) ys
  past x xs [] b = refl
  past x xs (y ∷ ys) b =
      let two = both (is_lt (R x y)) (below_all R o x ys) b in
      let here : is_in R y (x ∷ xs) ≡ is_in R y xs = in-greater R y x xs (greater R o y x (less R o (R x y) two.0)) in
      rw here (by (is_in R y xs) (past x xs ys two.1))
    where
      by : (c : Bool) → filter (λ z. is_in R z (x ∷ xs)) ys ≡ filter (λ z. is_in R z xs) ys → cond c (y ∷ filter (λ z. is_in R z (x ∷ xs)) ys) (filter (λ z. is_in R z (x ∷ xs)) ys) ≡ cond c (y ∷ filter (λ z. is_in R z xs) ys) (filter (λ z. is_in R z xs) ys)
      by true e = ap (λ l. y ∷ l) e
      by false e = e

  -- an ascending list within another is what a filter keeps of it
  pub within-filter : CmpEqualImpliesEq R → (xs ys : List K) → is_ascending R xs ≡ true → is_ascending R ys ≡ true → list_all (λ x. is_in R x ys) xs ≡ true → filter (λ y. is_in R y xs) ys ≡ xs
  within-filter exact [] ys a b w = none_of ys
  within-filter exact (x ∷ xs) [] a b w = cc
  within-filter exact (x ∷ xs) (y ∷ ys) a b w = by (R x y) refl (λ zs. within-filter exact zs ys)
    where
      two : (is_in R x (y ∷ ys) ≡ true) × (list_all (λ z. is_in R z (y ∷ ys)) xs ≡ true)
      two = both (is_in R x (y ∷ ys)) (list_all (λ z. is_in R z (y ∷ ys)) xs) w

      tail_b : is_ascending R ys ≡ true
      tail_b = tail_ascending R o y ys b

      by : (r : Ordering) → R x y ≡ r → ((zs : List K) → is_ascending R zs ≡ true → is_ascending R ys ≡ true → list_all (λ z. is_in R z ys) zs ≡ true → filter (λ z. is_in R z zs) ys ≡ zs) → filter (λ z. is_in R z (x ∷ xs)) (y ∷ ys) ≡ x ∷ xs
      by Less e rest =
          let absent : is_in R x (y ∷ ys) ≡ false = in-less R o x y ys b e in
          let there = two.0 in cc
      by Equal e rest =
          let same : x ≡ y = exact x y e in
          let here : is_in R y (x ∷ xs) ≡ true = subst (λ (z : K). is_in R z (x ∷ xs) ≡ true) same (in-equal R x x xs (ap (R x) same ∙ e)) in
          let above : below_all R o x ys ≡ true = subst (λ (z : K). below_all R o z ys ≡ true) (sym same) (below_rest R o y ys b) in
          let up : below_all R o y xs ≡ true = subst (λ (z : K). below_all R o z xs ≡ true) same (below_rest R o x xs a) in
          let others : filter (λ z. is_in R z xs) ys ≡ xs = rest xs (tail_ascending R o x xs a) tail_b (in_rest R o y ys xs up two.1) in
          rw here (ap (λ l. y ∷ l) (past x xs ys above ∙ others) ∙ ap (λ z. z ∷ xs) (sym same))
      by Greater e rest =
          let first : R y x ≡ Less = o.antisymm y x ∙ ap ordering_reverse e in
          let absent : is_in R y (x ∷ xs) ≡ false = in-less R o y x xs a first in
          let up : below_all R o y (x ∷ xs) ≡ true = rw first (list_all-weaker (λ z. is_lt (R x z)) (λ z. is_lt (R y z)) (λ z h. ap is_lt (o.trans y x z first (less R o (R x z) h))) xs (below_rest R o x xs a)) in
          rw absent (rest (x ∷ xs) a tail_b (in_rest R o y ys (x ∷ xs) up w))
