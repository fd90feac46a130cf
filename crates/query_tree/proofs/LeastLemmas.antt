-- The first number of a list that has the least key.
use Rattle.std.specs.Prelude.{◌⊎◌}
use Rattle.std.proofs.lemmas.Bool.{cases_lt, le-leb, lt-leb}
use Rattle.std.proofs.Common.{inl, inr, subst, ◌≡◌, ℕ, ◌<◌, ◌≤◌, Bool, true, false, cond, leb, ◌+◌, Option, Some, None, List, [], ◌∷◌, ◌++◌, refl, sym, ap, ◌∙◌, arith}
use Rattle.std.specs.List.{AllByRecursion, filter, range_with_len}
use Rattle.query_tree.proofs.NumberLemmas.{each_number, numbers_more_yes, numbers_more_no}
use Rattle.flux_model.specs.Tree.{least}
use Rattle.query_tree.specs.Choice.{better}

module _ (key : ℕ → ℕ) where
  -- of a number and the best behind it, the better one
  abbrev before : ℕ → Option ℕ → ℕ
  before i None = i
  before i (Some j) = cond (leb (key i) (key j)) i j

  least-cons : (i : ℕ) (is : List ℕ) → least key (i ∷ is) ≡ Some (before i (least key is))
  least-cons i is = by (least key is) refl
    where
      by : (o : Option ℕ) → least key is ≡ o → least key (i ∷ is) ≡ Some (before i (least key is))
      by None e = rw e refl
      by (Some j) e = rw e refl

  turn : (i x : ℕ) (o : Option ℕ) → before i (Some (better key o x)) ≡ better key (Some (before i o)) x
  turn i x None = refl
  turn i x (Some j) = by (cases_lt (key x) (key j)) (cases_lt (key j) (key i))
    where
      by : (key x < key j) ⊎ (key j ≤ key x) → (key j < key i) ⊎ (key i ≤ key j) → before i (Some (better key (Some j) x)) ≡ better key (Some (before i (Some j))) x
      by (inl l) (inr m) = rw (lt-leb (key j) (key x) l, le-leb (key i) (key j) m) refl
      by (inr l) (inr m) = rw (le-leb (key j) (key x) l, le-leb (key i) (key j) m, le-leb (key i) (key x) (omega arith)) refl
      by (inl l) (inl m) = rw (lt-leb (key j) (key x) l, lt-leb (key i) (key j) m, lt-leb (key i) (key x) (omega arith), lt-leb (key j) (key x) l) refl
      by (inr l) (inl m) = rw (le-leb (key j) (key x) l, lt-leb (key i) (key j) m, le-leb (key j) (key x) l) refl

  -- one number more at the end
  pub least_push : (is : List ℕ) (x : ℕ) → least key (is ++ x ∷ []) ≡ Some (better key (least key is) x)
  least_push [] x = refl
  least_push (i ∷ is) x =
      least-cons i (is ++ x ∷ [])
      ∙ ap (λ o. Some (before i o)) (least_push is x)
      ∙ ap Some (turn i x (least key is))
      ∙ ap (λ o. Some (better key o x)) (sym (least-cons i is))

  pub least_in : (P : ℕ → Type 0) (is : List ℕ) (i : ℕ) → AllByRecursion P is → least key is ≡ Some i → P i
  least_in P [] i each e = absurd cc
  least_in P (j ∷ js) i each e = by (least key js) refl (sym (least-cons j js) ∙ e) (λ k. least_in P js k each.1)
    where
      by : (o : Option ℕ) → least key js ≡ o → Some (before j (least key js)) ≡ Some i → ((k : ℕ) → least key js ≡ Some k → P k) → P i
      by None n f rest = let g : Some (before j None) ≡ Some i = rw n at f in subst P (cc) each.0
      by (Some k) n f rest = let g : Some (before j (Some k)) ≡ Some i = rw n at f in pick (leb (key j) (key k)) (cc) (rest k n)
        where
          pick : (b : Bool) → cond b j k ≡ i → P k → P i
          pick true same there = subst P same each.0
          pick false same there = subst P same there

  pub least_none : (is : List ℕ) → least key is ≡ None → is ≡ []
  least_none [] e = refl
  least_none (i ∷ is) e = cc

  -- one number more that passes
  pub least_more : (test : ℕ → Bool) (i b : ℕ) (best next : Option ℕ) → best ≡ least key (filter test (range_with_len 0 i)) → test i ≡ true → b ≡ better key best i → next ≡ Some b → next ≡ least key (filter test (range_with_len 0 (i + 1)))
  least_more test i b best next e passes is now =
      now
      ∙ ap Some is
      ∙ sym (ap (least key) (numbers_more_yes test i passes) ∙ least_push (filter test (range_with_len 0 i)) i ∙ ap (λ o. Some (better key o i)) (sym e))

  -- the least of the numbers that pass is one of them
  pub least_passes : (test : ℕ → Bool) (n i : ℕ) → least key (filter test (range_with_len 0 n)) ≡ Some i → (i < n) × (test i ≡ true)
  least_passes test n i = least_in (λ u. (u < n) × (test u ≡ true)) (filter test (range_with_len 0 n)) i (each_number test (λ u. (u < n) × (test u ≡ true)) 0 n (λ u h passes. (omega arith, passes)))

  -- one number more that does not
  pub least_same : (test : ℕ → Bool) (i : ℕ) (best : Option ℕ) → best ≡ least key (filter test (range_with_len 0 i)) → test i ≡ false → best ≡ least key (filter test (range_with_len 0 (i + 1)))
  least_same test i best e fails = e ∙ sym (ap (least key) (numbers_more_no test i fails))
