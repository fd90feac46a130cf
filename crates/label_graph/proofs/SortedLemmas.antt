-- Lists put in ascending order.
use Rattle.std.proofs.Common.{◌≡◌, ◌+◌, Bool, true, false, ◌||◌, List, [], ◌∷◌, refl, ap, ◌∙◌, ⊎_elim, inl, inr, length, arith}
use Rattle.std.specs.Prelude.{IsPermutation}
use Rattle.std.specs.List.{list_any}
use Rattle.std.specs.declared.cmp.Ordering.{Ordering}
use Rattle.std.specs.declared.cmp.Ordering.TheVariants.{Less, Equal, Greater}
use Rattle.std.specs.Cmp.{IsTotalOrder}
use Rattle.flux_model.specs.Ordered.{is_ascending, put}
use Rattle.flux_model.specs.Members.{In, AreOnce}
use Rattle.flux_model.proofs.OrderedLemmas.{put-ascending}
use Rattle.flux_model.proofs.MemberLemmas.{in_permutation, in_permutation_back}
use Rattle.flux_laws.proofs.SameMembersLemmas.{ascending_same, put_in, in_put}
use Rattle.label_graph.specs.Sorted.{sorted}

module _ {X : Type 0} (R : X → X → Ordering) (o : IsTotalOrder R) where
  -- the list in ascending order is ascending
  pub sorted_ascending : (xs : List X) → is_ascending R (sorted R xs) ≡ true
  sorted_ascending [] = refl
  sorted_ascending (x ∷ xs) = put-ascending R o x (sorted R xs) (sorted_ascending xs)

  -- what is in the list in ascending order is in the list
  pub sorted_in : (xs : List X) (z : X) → In (sorted R xs) z → In xs z
  sorted_in [] z i = i
  sorted_in (x ∷ xs) z i = ⊎_elim (λ (q : z ≡ x). inl q) (λ j. inr (sorted_in xs z j)) (put_in R o x (sorted R xs) z i)

  -- elements that are equal under the order are the same
  abbrev pub IsExactOn : List X → Type 0
  IsExactOn xs = (x y : X) → In xs x → In xs y → R x y ≡ Equal → x ≡ y

  -- what is in the list is in the list in ascending order
  pub in_sorted : (xs : List X) → IsExactOn xs → (z : X) → In xs z → In (sorted R xs) z
  in_sorted [] h z i = i
  in_sorted (x ∷ xs) h z i =
      in_put R o x (sorted R xs) (λ y j. h x y (inl refl) (inr (sorted_in xs y j))) z
      (⊎_elim (λ (q : z ≡ x). inl q) (λ j. inr (in_sorted xs (λ a b p q. h a b (inr p) (inr q)) z j)) i)

  -- lists that are permutations of each other have one ascending order
  pub sorted_same : (xs ys : List X) → IsExactOn xs → IsPermutation xs ys → sorted R xs ≡ sorted R ys
  sorted_same xs ys h p =
      let exact : IsExactOn ys = λ a b i j. h a b (in_permutation xs ys p a i) (in_permutation xs ys p b j) in
      ascending_same R o (sorted R xs) (sorted R ys) (sorted_ascending xs) (sorted_ascending ys)
      (λ z i. in_sorted ys exact z (in_permutation_back xs ys p z (sorted_in xs z i)))
      (λ z i. in_sorted xs h z (in_permutation xs ys p z (sorted_in ys z i)))

  -- a test that cannot tell equal elements apart
  pub any_put : (p : X → Bool) → ((x y : X) → R x y ≡ Equal → p x ≡ p y) → (x : X) (ys : List X) → list_any p (put R x ys) ≡ p x || list_any p ys
  any_put p h x [] = refl
  any_put p h x (y ∷ ys) = by (R x y) refl (any_put p h x ys)
    where
      once : (b c : Bool) → b || c ≡ b || (b || c)
      once true c = refl
      once false c = refl

      around : (a b c : Bool) → a || (b || c) ≡ b || (a || c)
      around true true c = refl
      around true false c = refl
      around false b c = refl

      by : (r : Ordering) → R x y ≡ r → list_any p (put R x ys) ≡ p x || list_any p ys → list_any p (put R x (y ∷ ys)) ≡ p x || (p y || list_any p ys)
      by Less e ih = rw e refl
      by Equal e ih = rw (e, h x y e) (once (p y) (list_any p ys))
      by Greater e ih = rw (e, ih) (around (p y) (p x) (list_any p ys))

  -- order does not matter to whether some element passes
  pub any_sorted : (p : X → Bool) → ((x y : X) → R x y ≡ Equal → p x ≡ p y) → (xs : List X) → list_any p (sorted R xs) ≡ list_any p xs
  any_sorted p h [] = refl
  any_sorted p h (x ∷ xs) = any_put p h x (sorted R xs) ∙ ap (λ b. p x || b) (any_sorted p h xs)

  length_put : ((x y : X) → R x y ≡ Equal → x ≡ y) → (x : X) (ys : List X) → (In ys x → ⊥) → length (put R x ys) ≡ length ys + 1
  length_put h x [] n = refl
  length_put h x (y ∷ ys) n = by (R x y) refl (length_put h x ys (λ i. n (inr i)))
    where
      by : (r : Ordering) → R x y ≡ r → length (put R x ys) ≡ length ys + 1 → length (put R x (y ∷ ys)) ≡ length (y ∷ ys) + 1
      by Less e ih = rw e (omega arith)
      by Equal e ih = absurd (n (inl (h x y e)))
      by Greater e ih = rw e (omega arith)

  -- a list without repeats is as long in ascending order
  pub length_sorted : ((x y : X) → R x y ≡ Equal → x ≡ y) → (xs : List X) → AreOnce xs → length (sorted R xs) ≡ length xs
  length_sorted h [] a = refl
  length_sorted h (x ∷ xs) a = let l = length_sorted h xs a.1 in let p = length_put h x (sorted R xs) (λ i. a.0 (sorted_in xs x i)) in omega arith
