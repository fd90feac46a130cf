-- What is put into a list and taken out again, or taken out and put back.
use Rattle.std.proofs.Common.{◌≡◌, ◌+◌, ◌≤◌, Bool, true, false, not, List, [], ◌∷◌, length, refl, sym, ◌∙◌, ap, subst, arith}
use Rattle.std.specs.declared.cmp.Ordering.{Ordering}
use Rattle.std.specs.declared.cmp.Ordering.TheVariants.{Less, Equal, Greater}
use Rattle.std.specs.Ordering.{is_eq, is_lt, ordering_reverse}
use Rattle.std.specs.Cmp.{IsTotalOrder}
use Rattle.std.specs.List.{filter, list_all}
use Rattle.std.proofs.lemmas.Cmp.{tied_itself, tied_back}
use Rattle.std.proofs.lemmas.Map.Lookups.{CmpEqualImpliesEq}
use Rattle.flux_model.specs.Ordered.{put, is_ascending, is_in}
use Rattle.flux_model.proofs.OrderedLemmas.{in-less, in-equal, in-greater, put-less}
use Rattle.flux_laws.proofs.AscendingLemmas.{less, tail_ascending, length-filter-le}
use Rattle.flux_laws.proofs.TestLemmas.{both, neither}

module _ {K : Type 0} (R : K → K → Ordering) (o : IsTotalOrder R) where
  -- the elements other than x
  abbrev pub others : K → List K → List K
  others x xs = filter (λ y. not (is_eq (R y x))) xs

  reversed : (r : Ordering) → is_eq (ordering_reverse r) ≡ is_eq r
  reversed Less = refl
  reversed Equal = refl
  reversed Greater = refl

  turned : (x y : K) → is_eq (R y x) ≡ is_eq (R x y)
  turned x y = ap is_eq (o.antisymm y x) ∙ reversed (R x y)

  below : (x y : K) → R x y ≡ Greater → R y x ≡ Less
  below x y e = o.antisymm y x ∙ ap ordering_reverse e

  -- nothing is taken out of a list that lacks the element
  pub others-absent : (x : K) (xs : List K) → is_in R x xs ≡ false → others x xs ≡ xs
  others-absent x [] e = refl
  others-absent x (y ∷ ys) e =
      let two = neither (is_eq (R x y)) (is_in R x ys) e in
      rw (turned x y ∙ two.0) (ap (λ l. y ∷ l) (others-absent x ys two.1))

  -- put in and taken out again
  pub put_out : (x : K) (xs : List K) → is_in R x xs ≡ false → others x (put R x xs) ≡ xs
  put_out x [] e = rw (tied_itself o x) refl
  put_out x (y ∷ ys) e = by (R x y) refl (put_out x ys)
    where
      by : (r : Ordering) → R x y ≡ r → (is_in R x ys ≡ false → others x (put R x ys) ≡ ys) → others x (put R x (y ∷ ys)) ≡ y ∷ ys
      by Less q rest = rw (q, tied_itself o x) (others-absent x (y ∷ ys) e)
      by Equal q rest = let f = in-equal R x y ys q in cc
      by Greater q rest = rw (q, below x y q) (ap (λ l. y ∷ l) (rest (sym (in-greater R x y ys q) ∙ e)))

  -- what is taken out is not there
  pub absent_after : (x : K) (xs : List K) → is_in R x (others x xs) ≡ false
  absent_after x [] = refl
  absent_after x (y ∷ ys) = by (R x y) refl (absent_after x ys)
    where
      by : (r : Ordering) → R x y ≡ r → is_in R x (others x ys) ≡ false → is_in R x (others x (y ∷ ys)) ≡ false
      by Less q rest = rw (turned x y ∙ ap is_eq q, q) rest
      by Equal q rest = rw (tied_back o x y q) rest
      by Greater q rest = rw (below x y q, q) rest

  -- what an ascending list begins with is not in the rest, and is put before it
  pub absent_above : (x : K) (xs : List K) → is_ascending R (x ∷ xs) ≡ true → is_in R x xs ≡ false
  absent_above x [] a = refl
  absent_above x (y ∷ ys) a =
      let two = both (is_lt (R x y)) (is_ascending R (y ∷ ys)) a in
      in-less R o x y ys two.1 (less R o (R x y) two.0)

  -- what is below all goes to the front
  pub put_first : (x : K) (xs : List K) → is_ascending R (x ∷ xs) ≡ true → put R x xs ≡ x ∷ xs
  put_first x [] a = refl
  put_first x (y ∷ ys) a = put-less R x y ys (less R o (R x y) (both (is_lt (R x y)) (is_ascending R (y ∷ ys)) a).0)

  -- taken out and put in again
  pub put_back : CmpEqualImpliesEq R → (x : K) (xs : List K) → is_ascending R xs ≡ true → is_in R x xs ≡ true → put R x (others x xs) ≡ xs
  put_back exact x [] a there = cc
  put_back exact x (y ∷ ys) a there = by (R x y) refl (put_back exact x ys)
    where
      by : (r : Ordering) → R x y ≡ r → (is_ascending R ys ≡ true → is_in R x ys ≡ true → put R x (others x ys) ≡ ys) → put R x (others x (y ∷ ys)) ≡ y ∷ ys
      by Less q rest = let f = in-less R o x y ys a q in cc
      by Equal q rest =
          let same : y ≡ x = sym (exact x y q) in
          let up : is_ascending R (x ∷ ys) ≡ true = subst (λ (z : K). is_ascending R (z ∷ ys) ≡ true) same a in
          rw (tied_back o x y q)
          (ap (put R x) (others-absent x ys (absent_above x ys up)) ∙ put_first x ys up ∙ ap (λ z. z ∷ ys) (sym same))
      by Greater q rest = rw (below x y q, q) (ap (λ l. y ∷ l) (rest (tail_ascending R o y ys a) (sym (in-greater R x y ys q) ∙ there)))

  -- one element fewer at least
  pub fewer : (x : K) (xs : List K) → is_in R x xs ≡ true → length (others x xs) + 1 ≤ length xs
  fewer x [] there = cc
  fewer x (y ∷ ys) there = by (R x y) refl (fewer x ys)
    where
      by : (r : Ordering) → R x y ≡ r → (is_in R x ys ≡ true → length (others x ys) + 1 ≤ length ys) → length (others x (y ∷ ys)) + 1 ≤ length (y ∷ ys)
      by Less q rest =
          let step = rest (rw q at there) in
          rw (turned x y ∙ ap is_eq q) (omega arith)
      by Equal q rest = rw (tied_back o x y q) (omega (arith, length-filter-le (λ z. not (is_eq (R z x))) ys))
      by Greater q rest =
          let step = rest (sym (in-greater R x y ys q) ∙ there) in
          rw (below x y q) (omega arith)

  -- what holds of each element holds of one that is there
  pub holds_there : CmpEqualImpliesEq R → (p : K → Bool) (x : K) (xs : List K) → list_all p xs ≡ true → is_in R x xs ≡ true → p x ≡ true
  holds_there exact p x [] all there = cc
  holds_there exact p x (y ∷ ys) all there = by (R x y) refl (holds_there exact p x ys)
    where
      two : (p y ≡ true) × (list_all p ys ≡ true)
      two = both (p y) (list_all p ys) all

      by : (r : Ordering) → R x y ≡ r → (list_all p ys ≡ true → is_in R x ys ≡ true → p x ≡ true) → p x ≡ true
      by Less q rest = rest two.1 (rw q at there)
      by Equal q rest = ap p (exact x y q) ∙ two.0
      by Greater q rest = rest two.1 (rw q at there)
