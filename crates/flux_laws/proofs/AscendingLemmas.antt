-- Ascending lists, and what holds of each or some element, when one is put in and when some are filtered out.
use Rattle.std.proofs.Common.{◌≡◌, ◌≤◌, Bool, true, false, ◌||◌, List, [], ◌∷◌, ◌++◌, length, refl, sym, ◌∙◌, ap, arith}
use Rattle.std.specs.declared.cmp.Ordering.{Ordering}
use Rattle.std.specs.declared.cmp.Ordering.TheVariants.{Less, Equal, Greater}
use Rattle.std.specs.Ordering.{is_eq, is_lt, ordering_reverse}
use Rattle.std.specs.Cmp.{IsTotalOrder}
use Rattle.std.specs.List.{filter, list_any, list_all, AllByRecursion}
use Rattle.std.proofs.lemmas.List.Folds.{list_all-append}
use Rattle.flux_model.specs.Ordered.{put, is_ascending, is_in}
use Rattle.flux_model.proofs.OrderedLemmas.{in-less, in-greater}
use Rattle.flux_laws.proofs.TestLemmas.{both, or_right}
use Rattle.flux_laws.proofs.PlainLemmas.{list_all-weaker}

-- ---- one more

-- what passes is still there
pub put-list_any : {K : Type 0} (R : K → K → Ordering) (p : K → Bool) (x : K) (xs : List K) → list_any p xs ≡ true → list_any p (put R x xs) ≡ true
put-list_any R p x [] a = cc
put-list_any R p x (y ∷ ys) a = by (R x y) refl (p y) refl (put-list_any R p x ys)
  where
    by : (r : Ordering) → R x y ≡ r → (b : Bool) → p y ≡ b → (list_any p ys ≡ true → list_any p (put R x ys) ≡ true) → list_any p (put R x (y ∷ ys)) ≡ true
    by Less e b q rest = rw e (or_right (p x) (p y || list_any p ys) a)
    by Equal e b q rest = rw e a
    by Greater e true q rest = rw (e, q) refl
    by Greater e false q rest = rw (e, q) (rest (rw q at a))

-- ---- some fewer

-- a filter keeps at most all
pub length-filter-le : {K : Type 0} (p : K → Bool) (xs : List K) → length (filter p xs) ≤ length xs
length-filter-le p [] = omega arith
length-filter-le p (x ∷ xs) = by (p x) refl (length-filter-le p xs)
  where
    by : (b : Bool) → p x ≡ b → length (filter p xs) ≤ length xs → length (filter p (x ∷ xs)) ≤ length (x ∷ xs)
    by true e rest = rw e (omega arith)
    by false e rest = rw e (omega arith)

module _ {K : Type 0} (p : K → Bool) where
  -- what all pass, all that are kept pass
  pub filter-list_all : (r : K → Bool) (xs : List K) → list_all r xs ≡ true → list_all r (filter p xs) ≡ true
  filter-list_all r [] a = refl
  filter-list_all r (x ∷ xs) a = by (p x) refl (both (r x) (list_all r xs) a) (filter-list_all r xs)
    where
      by : (b : Bool) → p x ≡ b → (r x ≡ true) × (list_all r xs ≡ true) → (list_all r xs ≡ true → list_all r (filter p xs) ≡ true) → list_all r (filter p (x ∷ xs)) ≡ true
      by true e two rest = rw (e, two.0) (rest two.1)
      by false e two rest = rw e (rest two.1)

  -- what holds of all holds of all that are kept
  pub filter-AllByRecursion : (P : K → Type 0) (xs : List K) → AllByRecursion P xs → AllByRecursion P (filter p xs)
  filter-AllByRecursion P [] a = tt
  filter-AllByRecursion P (x ∷ xs) a = by (p x) refl (filter-AllByRecursion P xs a.1)
    where
      by : (b : Bool) → p x ≡ b → AllByRecursion P (filter p xs) → AllByRecursion P (filter p (x ∷ xs))
      by true e rest = rw e (a.0, rest)
      by false e rest = rw e rest

module _ {K : Type 0} (R : K → K → Ordering) (o : IsTotalOrder R) where
  -- y is below each element
  abbrev pub below_all : K → List K → Bool
  below_all y xs = list_all (λ x. is_lt (R y x)) xs

  -- the test for Less tells Less
  pub less : (r : Ordering) → is_lt r ≡ true → r ≡ Less
  less Less h = refl
  less Equal h = cc
  less Greater h = cc

  below_more : (y x : K) (xs : List K) → R y x ≡ Less → below_all x xs ≡ true → below_all y xs ≡ true
  below_more y x xs l a = list_all-weaker (λ z. is_lt (R x z)) (λ z. is_lt (R y z)) (λ z h. rw (o.trans y x z l (less (R x z) h)) refl) xs a

  -- the first of an ascending list is below each of the others
  pub below_rest : (y : K) (xs : List K) → is_ascending R (y ∷ xs) ≡ true → below_all y xs ≡ true
  below_rest y [] a = refl
  below_rest y (x ∷ xs) a =
      let two = both (is_lt (R y x)) (is_ascending R (x ∷ xs)) a in
      rw two.0 (below_more y x xs (less (R y x) two.0) (below_rest x xs two.1))

  cons_below : (y : K) (xs : List K) → below_all y xs ≡ true → is_ascending R xs ≡ true → is_ascending R (y ∷ xs) ≡ true
  cons_below y [] b a = refl
  cons_below y (x ∷ xs) b a = rw (both (is_lt (R y x)) (below_all y xs) b).0 a

  -- the tail of an ascending list is ascending
  pub tail_ascending : (y : K) (xs : List K) → is_ascending R (y ∷ xs) ≡ true → is_ascending R xs ≡ true
  tail_ascending y [] a = refl
  tail_ascending y (x ∷ xs) a = (both (is_lt (R y x)) (is_ascending R (x ∷ xs)) a).1

  -- what is kept of an ascending list is ascending
  pub filter-ascending : (p : K → Bool) (xs : List K) → is_ascending R xs ≡ true → is_ascending R (filter p xs) ≡ true
  filter-ascending p [] a = refl
  filter-ascending p (x ∷ xs) a = by (p x) refl (filter-ascending p xs (tail_ascending x xs a))
    where
      by : (b : Bool) → p x ≡ b → is_ascending R (filter p xs) ≡ true → is_ascending R (filter p (x ∷ xs)) ≡ true
      by true e rest = rw e (cons_below x (filter p xs) (filter-list_all p (λ y. is_lt (R x y)) xs (below_rest x xs a)) rest)
      by false e rest = rw e rest

  -- one ascending list behind another
  pub append-ascending : (xs ys : List K) → is_ascending R xs ≡ true → is_ascending R ys ≡ true → list_all (λ x. below_all x ys) xs ≡ true → is_ascending R (xs ++ ys) ≡ true
  append-ascending [] ys a b c = b
  append-ascending (x ∷ xs) ys a b c =
      let two = both (below_all x ys) (list_all (λ z. below_all z ys) xs) c in
      let below : below_all x (xs ++ ys) ≡ true = list_all-append (λ z. is_lt (R x z)) xs ys ∙ rw (below_rest x xs a, two.0) refl in
      cons_below x (xs ++ ys) below (append-ascending xs ys (tail_ascending x xs a) b two.1)

  -- ---- one ascending list within another

  -- an order told the other way round
  pub greater : (x y : K) → R y x ≡ Less → R x y ≡ Greater
  greater x y e = o.antisymm x y ∙ ap ordering_reverse e

  -- what is above y and in a list that begins with y is in the rest of it
  pub in_rest : (y : K) (ys xs : List K) → below_all y xs ≡ true → list_all (λ x. is_in R x (y ∷ ys)) xs ≡ true → list_all (λ x. is_in R x ys) xs ≡ true
  in_rest y ys [] b a = refl
  in_rest y ys (x ∷ xs) b a =
      let above = both (is_lt (R y x)) (below_all y xs) b in
      let within = both (is_in R x (y ∷ ys)) (list_all (λ z. is_in R z (y ∷ ys)) xs) a in
      rw (sym (in-greater R x y ys (greater x y (less (R y x) above.0))) ∙ within.0) (in_rest y ys xs above.1 within.1)

  -- an ascending list within another is no longer
  pub within-length : (ys xs : List K) → is_ascending R ys ≡ true → is_ascending R xs ≡ true → list_all (λ x. is_in R x ys) xs ≡ true → length xs ≤ length ys
  within-length [] [] b a w = omega arith
  within-length [] (x ∷ xs) b a w = cc
  within-length (y ∷ ys) [] b a w = omega arith
  within-length (y ∷ ys) (x ∷ xs) b a w = by (R x y) refl (within-length ys)
    where
      tail_b : is_ascending R ys ≡ true
      tail_b = tail_ascending y ys b

      tail_a : is_ascending R xs ≡ true
      tail_a = tail_ascending x xs a

      two : (is_in R x (y ∷ ys) ≡ true) × (list_all (λ z. is_in R z (y ∷ ys)) xs ≡ true)
      two = both (is_in R x (y ∷ ys)) (list_all (λ z. is_in R z (y ∷ ys)) xs) w

      by : (r : Ordering) → R x y ≡ r → ((zs : List K) → is_ascending R ys ≡ true → is_ascending R zs ≡ true → list_all (λ z. is_in R z ys) zs ≡ true → length zs ≤ length ys) → length (x ∷ xs) ≤ length (y ∷ ys)
      by Less e rest =
          let absent : is_in R x (y ∷ ys) ≡ false = in-less R o x y ys b e in
          let there = two.0 in cc
      by Equal e rest =
          let below : below_all y xs ≡ true = list_all-weaker (λ z. is_lt (R x z)) (λ z. is_lt (R y z)) (λ z h. ap is_lt (sym (o.congr x y z e)) ∙ h) xs (below_rest x xs a) in
          let fewer : length xs ≤ length ys = rest xs tail_b tail_a (in_rest y ys xs below two.1) in
          omega arith
      by Greater e rest =
          let first : R y x ≡ Less = o.antisymm y x ∙ ap ordering_reverse e in
          let below : below_all y (x ∷ xs) ≡ true = rw first (list_all-weaker (λ z. is_lt (R x z)) (λ z. is_lt (R y z)) (λ z h. ap is_lt (o.trans y x z first (less (R x z) h))) xs (below_rest x xs a)) in
          let fewer : length (x ∷ xs) ≤ length ys = rest (x ∷ xs) tail_b a (in_rest y ys (x ∷ xs) below w) in
          omega arith

  -- what is put in is there
  pub in-put : (x y : K) (ys : List K) → R x y ≡ Equal → is_in R x (put R y ys) ≡ true
  in-put x y [] e = rw e refl
  in-put x y (z ∷ zs) e = by (R y z) refl (in-put x y zs e)
    where
      by : (r : Ordering) → R y z ≡ r → is_in R x (put R y zs) ≡ true → is_in R x (put R y (z ∷ zs)) ≡ true
      by Less f rest = rw (f, e) refl
      by Equal f rest = rw (f, o.congr x y z e ∙ f) refl
      by Greater f rest = rw f (or_right (is_eq (R x z)) (is_in R x (put R y zs)) rest)
