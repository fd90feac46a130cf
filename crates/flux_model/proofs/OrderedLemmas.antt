-- Places in ascending lists.
use Rattle.std.proofs.Common.{◌≡◌, ℕ, zero, suc, ◌+◌, ◌<◌, ◌≤◌, Bool, true, false, ◌&&◌, List, [], ◌∷◌, ◌++◌, length, get_or, take, drop, refl, sym, ◌∙◌, ap, subst, append_assoc}
use Rattle.std.specs.declared.cmp.Ordering.{Ordering}
use Rattle.std.specs.declared.cmp.Ordering.TheVariants.{Less, Equal, Greater}
use Rattle.std.specs.Ordering.{is_lt, ordering_reverse}
use Rattle.std.specs.Cmp.{IsTotalOrder}
use Rattle.std.specs.List.{insert, list_all, AllByRecursion}
use Rattle.std.proofs.lemmas.List.{drop_more, take_more, drop_all, take-append-drop}
use Rattle.flux_model.specs.Ordered.{is_ascending, is_in, put}

module _ {K : Type 0} (R : K → K → Ordering) where
  -- an element below the first goes to the front
  pub put-less : (x y : K) (ys : List K) → R x y ≡ Less → put R x (y ∷ ys) ≡ x ∷ y ∷ ys
  put-less x y ys e = rw e refl

  -- an element that is equal to the first is not put in again
  pub put-equal : (x y : K) (ys : List K) → R x y ≡ Equal → put R x (y ∷ ys) ≡ y ∷ ys
  put-equal x y ys e = rw e refl

  -- an element above the first goes into the rest
  pub put-greater : (x y : K) (ys : List K) → R x y ≡ Greater → put R x (y ∷ ys) ≡ y ∷ put R x ys
  put-greater x y ys e = rw e refl

  -- an element above the first is in the list where it is in the rest
  pub in-greater : (x y : K) (ys : List K) → R x y ≡ Greater → is_in R x (y ∷ ys) ≡ is_in R x ys
  in-greater x y ys e = rw e refl

  -- an element that is equal to the first is in the list
  pub in-equal : (x y : K) (ys : List K) → R x y ≡ Equal → is_in R x (y ∷ ys) ≡ true
  in-equal x y ys e = rw e refl

  -- what is below the first of an ascending list is not in it
  pub in-less : IsTotalOrder R → (x y : K) (ys : List K) → is_ascending R (y ∷ ys) ≡ true → R x y ≡ Less → is_in R x (y ∷ ys) ≡ false
  in-less o x y [] a e = rw e refl
  in-less o x y (z ∷ zs) a e = rw e (next (R y z) refl a (λ b q. in-less o x z zs b q))
    where
      next : (r : Ordering) → R y z ≡ r → is_ascending R (y ∷ z ∷ zs) ≡ true → (is_ascending R (z ∷ zs) ≡ true → R x z ≡ Less → is_in R x (z ∷ zs) ≡ false) → is_in R x (z ∷ zs) ≡ false
      next Less q b rest = rest (rw q at b) (o.trans x y z e q)
      next Equal q b rest = let f = rw q at b in cc
      next Greater q b rest = let f = rw q at b in cc

  -- the rest of an ascending list is ascending
  pub ascending_rest : (i : ℕ) (xs : List K) → is_ascending R xs ≡ true → is_ascending R (drop i xs) ≡ true
  ascending_rest zero xs a = a
  ascending_rest (suc i) [] a = refl
  ascending_rest (suc i) (x ∷ []) a = ascending_rest i [] refl
  ascending_rest (suc i) (x ∷ y ∷ ys) a = ascending_rest i (y ∷ ys) (tail (is_lt (R x y)) a)
    where
      tail : (b : Bool) → b && is_ascending R (y ∷ ys) ≡ true → is_ascending R (y ∷ ys) ≡ true
      tail true h = h
      tail false h = cc

  -- the list from a place on begins with the element there
  pub from_here : (xs : List K) (i : ℕ) (y : K) → i < length xs → y ≡ get_or xs i y → drop i xs ≡ y ∷ drop (i + 1) xs
  from_here xs i y h e = drop_more xs i y h ∙ ap (λ z. z ∷ drop (i + 1) xs) (sym e)

  -- one element further, which is below x
  pub put_step : (xs : List K) (i : ℕ) (x y : K) → i < length xs → y ≡ get_or xs i y → R x y ≡ Greater → take i xs ++ put R x (drop i xs) ≡ put R x xs → take (i + 1) xs ++ put R x (drop (i + 1) xs) ≡ put R x xs
  put_step xs i x y h e g before =
      ap (λ l. l ++ put R x (drop (i + 1) xs)) (take_more xs i y h ∙ ap (λ z. take i xs ++ z ∷ []) (sym e))
      ∙ append_assoc (take i xs) (y ∷ []) (put R x (drop (i + 1) xs))
      ∙ ap (λ l. take i xs ++ l) (sym (put-greater x y (drop (i + 1) xs) g))
      ∙ ap (λ l. take i xs ++ put R x l) (sym (from_here xs i y h e))
      ∙ before

  -- what is above the element at a place is in the list from there on where it is behind it
  pub in_step : (xs : List K) (i : ℕ) (x y : K) → i < length xs → y ≡ get_or xs i y → R x y ≡ Greater → is_in R x (drop i xs) ≡ is_in R x xs → is_in R x (drop (i + 1) xs) ≡ is_in R x xs
  in_step xs i x y h e g before = sym (in-greater x y (drop (i + 1) xs) g) ∙ ap (is_in R x) (sym (from_here xs i y h e)) ∙ before

  -- the first element that is above x
  pub put_here : (xs : List K) (i : ℕ) (x y : K) → i < length xs → y ≡ get_or xs i y → R x y ≡ Less → take i xs ++ put R x (drop i xs) ≡ put R x xs → insert xs i x ≡ put R x xs
  put_here xs i x y h e l before =
      ap (λ t. take i xs ++ x ∷ t) (from_here xs i y h e)
      ∙ ap (λ t. take i xs ++ t) (sym (put-less x y (drop (i + 1) xs) l))
      ∙ ap (λ t. take i xs ++ put R x t) (sym (from_here xs i y h e))
      ∙ before

  -- what is below the element at a place, and not before, is not in the list
  pub absent_here : IsTotalOrder R → (xs : List K) (i : ℕ) (x y : K) → is_ascending R xs ≡ true → i < length xs → y ≡ get_or xs i y → R x y ≡ Less → is_in R x (drop i xs) ≡ is_in R x xs → is_in R x xs ≡ false
  absent_here o xs i x y a h e l before =
      sym before ∙ ap (is_in R x) (from_here xs i y h e)
      ∙ in-less o x y (drop (i + 1) xs) (subst (λ t. is_ascending R t ≡ true) (from_here xs i y h e) (ascending_rest i xs a)) l

  -- the element is there
  pub put_found : (xs : List K) (i : ℕ) (x y : K) → i < length xs → y ≡ get_or xs i y → R x y ≡ Equal → take i xs ++ put R x (drop i xs) ≡ put R x xs → put R x xs ≡ xs
  put_found xs i x y h e q before =
      sym before ∙ ap (λ t. take i xs ++ put R x t) (from_here xs i y h e)
      ∙ ap (λ t. take i xs ++ t) (put-equal x y (drop (i + 1) xs) q ∙ sym (from_here xs i y h e))
      ∙ take-append-drop i xs

  -- what is equal to the element at a place is in the list
  pub in_found : (xs : List K) (i : ℕ) (x y : K) → i < length xs → y ≡ get_or xs i y → R x y ≡ Equal → is_in R x (drop i xs) ≡ is_in R x xs → is_in R x xs ≡ true
  in_found xs i x y h e q before = sym before ∙ ap (is_in R x) (from_here xs i y h e) ∙ in-equal x y (drop (i + 1) xs) q

  -- all are below x
  pub put_last : (xs : List K) (i : ℕ) (x : K) → length xs ≤ i → take i xs ++ put R x (drop i xs) ≡ put R x xs → insert xs i x ≡ put R x xs
  put_last xs i x h before = ap (λ t. take i xs ++ x ∷ t) (drop_all i xs h) ∙ ap (λ t. take i xs ++ put R x t) (sym (drop_all i xs h)) ∙ before

  -- what is above all elements is not in the list
  pub absent_last : (xs : List K) (i : ℕ) (x : K) → length xs ≤ i → is_in R x (drop i xs) ≡ is_in R x xs → is_in R x xs ≡ false
  absent_last xs i x h before = sym before ∙ ap (is_in R x) (drop_all i xs h)

  -- ---- `put` keeps the order

  -- y is below the first of the list
  abbrev below_first : K → List K → Bool
  below_first y [] = true
  below_first y (x ∷ xs) = is_lt (R y x)

  cons_ascending : (y : K) (xs : List K) → below_first y xs ≡ true → is_ascending R xs ≡ true → is_ascending R (y ∷ xs) ≡ true
  cons_ascending y [] b a = refl
  cons_ascending y (x ∷ xs) b a = rw b a

  above : IsTotalOrder R → (x y : K) → R x y ≡ Greater → R y x ≡ Less
  above o x y e = o.antisymm y x ∙ ap ordering_reverse e

  both : (b c : Bool) → b && c ≡ true → (b ≡ true) × (c ≡ true)
  both true c h = (refl, h)
  both false c h = (h, cc)

  first_of : (y : K) (xs : List K) → is_ascending R (y ∷ xs) ≡ true → (below_first y xs ≡ true) × (is_ascending R xs ≡ true)
  first_of y [] a = (refl, refl)
  first_of y (x ∷ xs) a = both (is_lt (R y x)) (is_ascending R (x ∷ xs)) a

  below_put : IsTotalOrder R → (x y : K) (xs : List K) → R y x ≡ Less → below_first y xs ≡ true → below_first y (put R x xs) ≡ true
  below_put o x y [] l b = ap is_lt l
  below_put o x y (z ∷ zs) l b = by (R x z) refl
    where
      by : (r : Ordering) → R x z ≡ r → below_first y (put R x (z ∷ zs)) ≡ true
      by Less e = rw e (ap is_lt l)
      by Equal e = rw e b
      by Greater e = rw e b

  -- an ascending list with an element put in is ascending
  pub put-ascending : IsTotalOrder R → (x : K) (xs : List K) → is_ascending R xs ≡ true → is_ascending R (put R x xs) ≡ true
  put-ascending o x [] a = refl
  put-ascending o x (y ∷ ys) a = by (R x y) refl (put-ascending o x ys)
    where
      by : (r : Ordering) → R x y ≡ r → (is_ascending R ys ≡ true → is_ascending R (put R x ys) ≡ true) → is_ascending R (put R x (y ∷ ys)) ≡ true
      by Less e rest = rw e (cons_ascending x (y ∷ ys) (ap is_lt e) a)
      by Equal e rest = rw e a
      by Greater e rest = rw e (cons_ascending y (put R x ys) (below_put o x y ys (above o x y e) (first_of y ys a).0) (rest (first_of y ys a).1))

  -- ---- `put` keeps what holds of each element

  -- a test that all elements and one more pass is passed by all after that one is put in
  pub put-list_all : (p : K → Bool) (x : K) (xs : List K) → p x ≡ true → list_all p xs ≡ true → list_all p (put R x xs) ≡ true
  put-list_all p x [] h a = rw h refl
  put-list_all p x (y ∷ ys) h a = by (R x y) refl (put-list_all p x ys h)
    where
      by : (r : Ordering) → R x y ≡ r → (list_all p ys ≡ true → list_all p (put R x ys) ≡ true) → list_all p (put R x (y ∷ ys)) ≡ true
      by Less e rest = rw (e, h) a
      by Equal e rest = rw e a
      by Greater e rest = rw (e, (both (p y) (list_all p ys) a).0) (rest (both (p y) (list_all p ys) a).1)

  -- what holds of all elements and of one more holds of all after that one is put in
  pub put-AllByRecursion : (P : K → Type 0) (x : K) (xs : List K) → P x → AllByRecursion P xs → AllByRecursion P (put R x xs)
  put-AllByRecursion P x [] h a = (h, tt)
  put-AllByRecursion P x (y ∷ ys) h a = by (R x y) refl (put-AllByRecursion P x ys h a.1)
    where
      by : (r : Ordering) → R x y ≡ r → AllByRecursion P (put R x ys) → AllByRecursion P (put R x (y ∷ ys))
      by Less e rest = rw e (h, a)
      by Equal e rest = rw e a
      by Greater e rest = rw e (a.0, rest)
