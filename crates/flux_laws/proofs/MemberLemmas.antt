-- What a list contains, when some of it is filtered out and when an element is put in.
use Rattle.std.proofs.Common.{◌≡◌, ℕ, zero, suc, ◌<◌, Bool, true, false, cond, List, [], ◌∷◌, length, refl, sym, ◌∙◌, ap, subst, arith}
use mathlib.Core.Logic.{◌⊎◌, inl, inr}
use Rattle.std.specs.declared.cmp.Ordering.{Ordering}
use Rattle.std.specs.declared.cmp.Ordering.TheVariants.{Less, Equal, Greater}
use Rattle.std.specs.Ordering.{is_eq, is_lt}
use Rattle.std.specs.Cmp.{IsTotalOrder}
use Rattle.std.specs.List.{Contains, filter, list_all, slice_index_or}
use Rattle.std.proofs.lemmas.Cmp.{tied_itself}
use Rattle.std.proofs.lemmas.Map.Lookups.{CmpEqualImpliesEq}
use Rattle.flux_model.specs.Ordered.{is_ascending, is_in, put}
use Rattle.flux_model.proofs.OrderedLemmas.{in-equal}
use Rattle.flux_laws.proofs.AscendingLemmas.{less, greater, below_rest, tail_ascending}
use Rattle.flux_laws.proofs.TestLemmas.{both, or_right}
use Rattle.flux_laws.proofs.UndoLemmas.{others, others-absent, absent_above, put_first}

module _ {X : Type 0} where
  -- the first element is in the list
  pub here : (x : X) (xs : List X) → Contains (x ∷ xs) x
  here x xs = (0, omega arith, refl)

  -- what is in the tail is in the list
  pub there : (y x : X) (xs : List X) → Contains xs y → Contains (x ∷ xs) y
  there y x xs c = (suc c.0, omega (arith, c.1), c.2)

  -- what is in the list is its first element or in its tail
  pub first_or_later : (y x : X) (xs : List X) → Contains (x ∷ xs) y → (y ≡ x) ⊎ Contains xs y
  first_or_later y x xs c = by c.0 c.1 c.2
    where
      by : (k : ℕ) → k < length (x ∷ xs) → slice_index_or (x ∷ xs) k y ≡ y → (y ≡ x) ⊎ Contains xs y
      by zero l e = inl (sym e)
      by (suc k) l e = inr (k, omega arith, e)

  -- nothing is in the empty list
  pub none_in : (y : X) → Contains [] y → ⊥
  none_in y c = absurd (omega (arith, c.1))

  -- ---- each element

  -- where all pass, each element does
  pub each_passes : (p : X → Bool) (xs : List X) (y : X) → list_all p xs ≡ true → Contains xs y → p y ≡ true
  each_passes p [] y a c = absurd (none_in y c)
  each_passes p (x ∷ xs) y a c = by (first_or_later y x xs c) (each_passes p xs y)
    where
      two : (p x ≡ true) × (list_all p xs ≡ true)
      two = both (p x) (list_all p xs) a

      by : (y ≡ x) ⊎ Contains xs y → (list_all p xs ≡ true → Contains xs y → p y ≡ true) → p y ≡ true
      by (inl e) rest = ap p e ∙ two.0
      by (inr d) rest = rest two.1 d

  -- where each element passes, all do
  pub all_pass : (p : X → Bool) (xs : List X) → ((y : X) → Contains xs y → p y ≡ true) → list_all p xs ≡ true
  all_pass p [] f = refl
  all_pass p (x ∷ xs) f = rw (f x (here x xs)) (all_pass p xs (λ y c. f y (there y x xs c)))

  -- ---- some fewer

  -- what is kept was in the list, and passes
  pub was_in : (p : X → Bool) (xs : List X) (y : X) → Contains (filter p xs) y → Contains xs y × (p y ≡ true)
  was_in p [] y c = absurd (none_in y c)
  was_in p (x ∷ xs) y c = by (p x) refl c (was_in p xs y)
    where
      by : (b : Bool) → p x ≡ b → Contains (cond b (x ∷ filter p xs) (filter p xs)) y → (Contains (filter p xs) y → Contains xs y × (p y ≡ true)) → Contains (x ∷ xs) y × (p y ≡ true)
      by true e d rest = at (first_or_later y x (filter p xs) d)
        where
          at : (y ≡ x) ⊎ Contains (filter p xs) y → Contains (x ∷ xs) y × (p y ≡ true)
          at (inl q) = (subst (λ (z : X). Contains (x ∷ xs) z) (sym q) (here x xs), ap p q ∙ e)
          at (inr r) = let before = rest r in (there y x xs before.0, before.1)
      by false e d rest = let before = rest d in (there y x xs before.0, before.1)

  -- what was in the list and passes is kept
  pub still_in : (p : X → Bool) (xs : List X) (y : X) → Contains xs y → p y ≡ true → Contains (filter p xs) y
  still_in p [] y c h = absurd (none_in y c)
  still_in p (x ∷ xs) y c h = by (p x) refl (first_or_later y x xs c) (λ d. still_in p xs y d h)
    where
      by : (b : Bool) → p x ≡ b → (y ≡ x) ⊎ Contains xs y → (Contains xs y → Contains (filter p xs) y) → Contains (cond b (x ∷ filter p xs) (filter p xs)) y
      by true e (inl q) rest = subst (λ (z : X). Contains (x ∷ filter p xs) z) (sym q) (here x (filter p xs))
      by true e (inr d) rest = there y x (filter p xs) (rest d)
      by false e (inl q) rest = let f : p y ≡ false = ap p q ∙ e in absurd (clash f)
        where
          clash : p y ≡ false → ⊥
          clash g = cc
      by false e (inr d) rest = rest d

module _ {K : Type 0} (R : K → K → Ordering) (o : IsTotalOrder R) where
  -- ---- one more

  -- after x is put in: what was there, or x
  pub in_or_put : (x : K) (xs : List K) (y : K) → is_in R x xs ≡ false → Contains (put R x xs) y → Contains xs y ⊎ (y ≡ x)
  in_or_put x [] y a c = at (first_or_later y x [] c)
    where
      at : (y ≡ x) ⊎ Contains [] y → Contains [] y ⊎ (y ≡ x)
      at (inl q) = inr q
      at (inr d) = inl d
  in_or_put x (z ∷ zs) y a c = by (R x z) refl (in_or_put x zs y)
    where
      by : (r : Ordering) → R x z ≡ r → (is_in R x zs ≡ false → Contains (put R x zs) y → Contains zs y ⊎ (y ≡ x)) → Contains (z ∷ zs) y ⊎ (y ≡ x)
      by Less e rest = at (first_or_later y x (z ∷ zs) (rw e at c))
        where
          at : (y ≡ x) ⊎ Contains (z ∷ zs) y → Contains (z ∷ zs) y ⊎ (y ≡ x)
          at (inl q) = inr q
          at (inr d) = inl d
      by Equal e rest = let f = in-equal R x z zs e in absurd (clash f)
        where
          clash : is_in R x (z ∷ zs) ≡ true → ⊥
          clash g = cc
      by Greater e rest = at (first_or_later y z (put R x zs) (rw e at c))
        where
          next : Contains zs y ⊎ (y ≡ x) → Contains (z ∷ zs) y ⊎ (y ≡ x)
          next (inl d) = inl (there y z zs d)
          next (inr q) = inr q

          at : (y ≡ z) ⊎ Contains (put R x zs) y → Contains (z ∷ zs) y ⊎ (y ≡ x)
          at (inl q) = inl (subst (λ (w : K). Contains (z ∷ zs) w) (sym q) (here z zs))
          at (inr d) = next (rest (rw e at a) d)

  -- what was there, and x, are there after x is put in
  pub put_in : (x : K) (xs : List K) (y : K) → is_in R x xs ≡ false → Contains xs y ⊎ (y ≡ x) → Contains (put R x xs) y
  put_in x [] y a (inl c) = absurd (none_in y c)
  put_in x [] y a (inr q) = subst (λ (w : K). Contains (x ∷ []) w) (sym q) (here x [])
  put_in x (z ∷ zs) y a h = by (R x z) refl (put_in x zs y)
    where
      by : (r : Ordering) → R x z ≡ r → (is_in R x zs ≡ false → Contains zs y ⊎ (y ≡ x) → Contains (put R x zs) y) → Contains (put R x (z ∷ zs)) y
      by Less e rest = rw e (at h)
        where
          at : Contains (z ∷ zs) y ⊎ (y ≡ x) → Contains (x ∷ z ∷ zs) y
          at (inl c) = there y x (z ∷ zs) c
          at (inr q) = subst (λ (w : K). Contains (x ∷ z ∷ zs) w) (sym q) (here x (z ∷ zs))
      by Equal e rest = let f = in-equal R x z zs e in absurd (clash f)
        where
          clash : is_in R x (z ∷ zs) ≡ true → ⊥
          clash g = cc
      by Greater e rest = rw e (at h)
        where
          absent : is_in R x zs ≡ false
          absent = rw e at a

          old : (y ≡ z) ⊎ Contains zs y → Contains (z ∷ put R x zs) y
          old (inl q) = subst (λ (w : K). Contains (z ∷ put R x zs) w) (sym q) (here z (put R x zs))
          old (inr d) = there y z (put R x zs) (rest absent (inl d))

          at : Contains (z ∷ zs) y ⊎ (y ≡ x) → Contains (z ∷ put R x zs) y
          at (inl c) = old (first_or_later y z zs c)
          at (inr q) = there y z (put R x zs) (rest absent (inr q))

  -- ---- by an order that tells elements apart

  -- what is found is in the list
  pub is_there : CmpEqualImpliesEq R → (x : K) (xs : List K) → is_in R x xs ≡ true → Contains xs x
  is_there exact x [] h = absurd (clash h)
    where
      clash : false ≡ true → ⊥
      clash g = cc
  is_there exact x (y ∷ ys) h = by (R x y) refl (is_there exact x ys)
    where
      by : (r : Ordering) → R x y ≡ r → (is_in R x ys ≡ true → Contains ys x) → Contains (y ∷ ys) x
      by Less e rest = there x y ys (rest (rw e at h))
      by Equal e rest = subst (λ (z : K). Contains (y ∷ ys) z) (sym (exact x y e)) (here y ys)
      by Greater e rest = there x y ys (rest (rw e at h))

  -- what is in the list is found
  pub is_found : (x : K) (xs : List K) → Contains xs x → is_in R x xs ≡ true
  is_found x [] c = absurd (none_in x c)
  is_found x (y ∷ ys) c = by (first_or_later x y ys c) (is_found x ys)
    where
      by : (x ≡ y) ⊎ Contains ys x → (Contains ys x → is_in R x ys ≡ true) → is_in R x (y ∷ ys) ≡ true
      by (inl q) rest = let tie : R x y ≡ Equal = ap (R x) (sym q) ∙ tied_itself o x in in-equal R x y ys tie
      by (inr d) rest = or_right (is_eq (R x y)) (is_in R x ys) (rest d)

  -- an element that is taken out of an ascending list and put back
  pub member_back : (x : K) (xs : List K) → is_ascending R xs ≡ true → Contains xs x → put R x (others R o x xs) ≡ xs
  member_back x [] a c = absurd (none_in x c)
  member_back x (y ∷ ys) a c = by (first_or_later x y ys c) (member_back x ys (tail_ascending R o y ys a))
    where
      by : (x ≡ y) ⊎ Contains ys x → (Contains ys x → put R x (others R o x ys) ≡ ys) → put R x (others R o x (y ∷ ys)) ≡ y ∷ ys
      by (inl q) rest =
          let up : is_ascending R (x ∷ ys) ≡ true = subst (λ (z : K). is_ascending R (z ∷ ys) ≡ true) (sym q) a in
          let tie : R y x ≡ Equal = ap (λ z. R z x) (sym q) ∙ tied_itself o x in
          rw tie (ap (put R x) (others-absent R o x ys (absent_above R o x ys up)) ∙ put_first R o x ys up ∙ ap (λ z. z ∷ ys) q)
      by (inr d) rest =
          let low : R y x ≡ Less = less R o (R y x) (each_passes (λ z. is_lt (R y z)) ys x (below_rest R o y ys a) d) in
          let high : R x y ≡ Greater = greater R o x y low in
          rw (low, high) (ap (λ l. y ∷ l) (rest d))
