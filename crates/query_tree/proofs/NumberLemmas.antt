-- The numbers of a range that pass a test.
use Rattle.std.proofs.Common.{◌≡◌, ℕ, zero, suc, ◌+◌, ◌<◌, ◌≤◌, Bool, true, false, cond, List, [], ◌∷◌, ◌++◌, length, refl, sym, ap, ◌∙◌, subst, map-id, append-nil, arith, inl, inr}
use Rattle.std.specs.Prelude.{◌⊎◌}
use Rattle.std.specs.List.{filter, range_with_len, AllByRecursion}
use Rattle.std.proofs.lemmas.List.FromFn.{filter_of_map_range_with_len_more}
use Rattle.std.proofs.lemmas.Bool.{cases_eq}

-- ---- one number more

-- the numbers below n + 1 that pass: those below n, and maybe n
pub numbers_more : (p : ℕ → Bool) (n : ℕ) → filter p (range_with_len 0 (n + 1)) ≡ filter p (range_with_len 0 n) ++ cond (p n) (n ∷ []) []
numbers_more p n =
    sym (ap (filter p) (map-id (range_with_len 0 (n + 1))))
    ∙ filter_of_map_range_with_len_more p (λ k. k) 0 n n (omega arith)
    ∙ ap (λ (l : List ℕ). filter p l ++ cond (p n) (n ∷ []) []) (map-id (range_with_len 0 n))

-- where n passes
pub numbers_more_yes : (p : ℕ → Bool) (n : ℕ) → p n ≡ true → filter p (range_with_len 0 (n + 1)) ≡ filter p (range_with_len 0 n) ++ n ∷ []
numbers_more_yes p n e = numbers_more p n ∙ ap (λ b. filter p (range_with_len 0 n) ++ cond b (n ∷ []) []) e

-- where it does not
pub numbers_more_no : (p : ℕ → Bool) (n : ℕ) → p n ≡ false → filter p (range_with_len 0 (n + 1)) ≡ filter p (range_with_len 0 n)
numbers_more_no p n e = numbers_more p n ∙ ap (λ b. filter p (range_with_len 0 n) ++ cond b (n ∷ []) []) e ∙ simp append-nil

-- the list that holds those that pass
pub numbers_pushed : (p : ℕ → Bool) (n : ℕ) (old new : List ℕ) → old ≡ filter p (range_with_len 0 n) → p n ≡ true → new ≡ old ++ n ∷ [] → new ≡ filter p (range_with_len 0 (n + 1))
numbers_pushed p n old new is e pushed = pushed ∙ ap (λ (l : List ℕ). l ++ n ∷ []) is ∙ sym (numbers_more_yes p n e)

-- a number that does not pass changes nothing
pub numbers_kept : (p : ℕ → Bool) (n : ℕ) (old new : List ℕ) → old ≡ filter p (range_with_len 0 n) → p n ≡ false → new ≡ old → new ≡ filter p (range_with_len 0 (n + 1))
numbers_kept p n old new is e kept = kept ∙ is ∙ sym (numbers_more_no p n e)

-- ---- each number

module _ (p : ℕ → Bool) where
  -- what holds of each number that passes
  pub each_number : (P : ℕ → Type 0) (a n : ℕ) → ((u : ℕ) → u < a + n → p u ≡ true → P u) → AllByRecursion P (filter p (range_with_len a n))
  each_number P a zero h = tt
  each_number P a (suc n) h = by (p a) refl (each_number P (a + 1) n (λ u l. h u (omega arith)))
    where
      by : (b : Bool) → p a ≡ b → AllByRecursion P (filter p (range_with_len (a + 1) n)) → AllByRecursion P (filter p (range_with_len a (suc n)))
      by true e rest = rw e (h a (omega arith) e, rest)
      by false e rest = rw e rest

  -- none passes
  pub no_number : (a n : ℕ) → filter p (range_with_len a n) ≡ [] → (u : ℕ) → a ≤ u → u < a + n → p u ≡ false
  no_number a zero h u low high = absurd (omega arith)
  no_number a (suc n) h u low high = by (p a) refl (no_number (a + 1) n)
    where
      here : (b : Bool) → p a ≡ b → cond b (a ∷ filter p (range_with_len (a + 1) n)) (filter p (range_with_len (a + 1) n)) ≡ []
      here b e = subst (λ c. cond c (a ∷ filter p (range_with_len (a + 1) n)) (filter p (range_with_len (a + 1) n)) ≡ []) e h

      by : (b : Bool) → p a ≡ b → (filter p (range_with_len (a + 1) n) ≡ [] → (v : ℕ) → a + 1 ≤ v → v < a + 1 + n → p v ≡ false) → p u ≡ false
      by true e rest = let some = here true e in cc
      by false e rest = then (cases_eq u a)
        where
          then : (u ≡ a) ⊎ (u ≡ a → ⊥) → p u ≡ false
          then (inl same) = ap p same ∙ e
          then (inr other) = rest (here false e) u (omega arith) (omega arith)

  count_most : (a n : ℕ) → length (filter p (range_with_len a n)) ≤ n
  count_most a zero = omega arith
  count_most a (suc n) = by (p a) refl (count_most (a + 1) n)
    where
      by : (b : Bool) → p a ≡ b → length (filter p (range_with_len (a + 1) n)) ≤ n → length (filter p (range_with_len a (suc n))) ≤ suc n
      by true e rest = rw e (omega arith)
      by false e rest = rw e (omega arith)

  -- as many pass as there are
  pub all_numbers : (a n : ℕ) → n ≤ length (filter p (range_with_len a n)) → (u : ℕ) → a ≤ u → u < a + n → p u ≡ true
  all_numbers a zero h u low high = absurd (omega arith)
  all_numbers a (suc n) h u low high = by (p a) refl (count_most (a + 1) n) (all_numbers (a + 1) n)
    where
      more : List ℕ
      more = filter p (range_with_len (a + 1) n)

      here : (b : Bool) → p a ≡ b → suc n ≤ length (cond b (a ∷ more) more)
      here b e = subst (λ c. suc n ≤ length (cond c (a ∷ more) more)) e h

      by : (b : Bool) → p a ≡ b → length more ≤ n → (n ≤ length more → (v : ℕ) → a + 1 ≤ v → v < a + 1 + n → p v ≡ true) → p u ≡ true
      by false e most rest = absurd (omega (arith, here false e))
      by true e most rest = then (cases_eq u a)
        where
          then : (u ≡ a) ⊎ (u ≡ a → ⊥) → p u ≡ true
          then (inl same) = ap p same ∙ e
          then (inr other) = rest (omega (arith, here true e)) u (omega arith) (omega arith)

  -- all pass
  pub count_all : (a n : ℕ) → ((u : ℕ) → u < a + n → p u ≡ true) → length (filter p (range_with_len a n)) ≡ n
  count_all a zero h = refl
  count_all a (suc n) h = rw (h a (omega arith)) (omega (arith, count_all (a + 1) n (λ u l. h u (omega arith))))

  pub few_numbers : (n : ℕ) → length (filter p (range_with_len 0 n)) ≤ n
  few_numbers n = count_most 0 n

-- ---- a weaker test passes more

module _ (p r : ℕ → Bool) (weaker : (u : ℕ) → p u ≡ true → r u ≡ true) where
  count_no_less : (a n : ℕ) → length (filter p (range_with_len a n)) ≤ length (filter r (range_with_len a n))
  count_no_less a zero = omega arith
  count_no_less a (suc n) = by (p a) refl (r a) refl (count_no_less (a + 1) n)
    where
      few : List ℕ
      few = filter p (range_with_len (a + 1) n)

      many : List ℕ
      many = filter r (range_with_len (a + 1) n)

      by : (b : Bool) → p a ≡ b → (c : Bool) → r a ≡ c → length few ≤ length many → length (filter p (range_with_len a (suc n))) ≤ length (filter r (range_with_len a (suc n)))
      by true e false f rest = let g = weaker a e in absurd cc
      by true e true f rest = rw (e, f) (omega arith)
      by false e true f rest = rw (e, f) (omega arith)
      by false e false f rest = rw (e, f) (omega arith)

  -- a number passes that did not
  pub count_less : (a n u : ℕ) → a ≤ u → u < a + n → p u ≡ false → r u ≡ true → length (filter p (range_with_len a n)) < length (filter r (range_with_len a n))
  count_less a zero u low high fails passes = absurd (omega arith)
  count_less a (suc n) u low high fails passes = then (cases_eq u a) (count_no_less (a + 1) n) (count_less (a + 1) n u)
    where
      few : List ℕ
      few = filter p (range_with_len (a + 1) n)

      many : List ℕ
      many = filter r (range_with_len (a + 1) n)

      here : p a ≡ false → r a ≡ true → length few ≤ length many → length (filter p (range_with_len a (suc n))) < length (filter r (range_with_len a (suc n)))
      here e f rest = rw (e, f) (omega arith)

      by : (b : Bool) → p a ≡ b → (c : Bool) → r a ≡ c → length few < length many → length (filter p (range_with_len a (suc n))) < length (filter r (range_with_len a (suc n)))
      by true e false f rest = let g = weaker a e in absurd cc
      by true e true f rest = rw (e, f) (omega arith)
      by false e true f rest = rw (e, f) (omega arith)
      by false e false f rest = rw (e, f) (omega arith)

      then : (u ≡ a) ⊎ (u ≡ a → ⊥) → length few ≤ length many → (a + 1 ≤ u → u < a + 1 + n → p u ≡ false → r u ≡ true → length few < length many) → length (filter p (range_with_len a (suc n))) < length (filter r (range_with_len a (suc n)))
      then (inl same) no_less less = here (ap p (sym same) ∙ fails) (ap r (sym same) ∙ passes) no_less
      then (inr other) no_less less = by (p a) refl (r a) refl (less (omega arith) (omega arith) fails passes)
