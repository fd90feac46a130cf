-- Ascending lists with the same elements are equal.
use Rattle.std.proofs.Common.{◌≡◌, true, List, [], ◌∷◌, refl, sym, ◌∙◌, subst, ⊎_elim, inl, inr}
use Rattle.std.specs.declared.cmp.Ordering.{Ordering}
use Rattle.std.specs.declared.cmp.Ordering.TheVariants.{Less, Equal, Greater}
use Rattle.std.specs.Ordering.{is_lt}
use Rattle.std.specs.Cmp.{IsTotalOrder}
use Rattle.std.proofs.lemmas.Bool.{and_parts}
use Rattle.flux_model.specs.Ordered.{is_ascending, put}
use Rattle.flux_model.specs.Members.{In, AreOnce}
use Rattle.flux_laws.proofs.AscendingLemmas.{tail_ascending, less}

module _ {X : Type 0} (R : X → X → Ordering) (o : IsTotalOrder R) where
  no_loop : (x : X) → R x x ≡ Less → ⊥
  no_loop x e = let a = o.antisymm x x in let b = rw e at a in cc

  -- the first of an ascending list is below each of the others
  pub below : (x : X) (xs : List X) → is_ascending R (x ∷ xs) ≡ true → (y : X) → In xs y → R x y ≡ Less
  below x [] a y i = absurd i
  below x (z ∷ zs) a y i =
      let p = and_parts (is_lt (R x z)) (is_ascending R (z ∷ zs)) a in
      let less = less R o (R x z) p.0 in
      ⊎_elim (λ (e : y ≡ z). rw e less) (λ j. o.trans x z y less (below z zs p.1 y j)) i

  same_head : (x : X) (xs : List X) (y : X) (ys : List X) → is_ascending R (x ∷ xs) ≡ true → is_ascending R (y ∷ ys) ≡ true → In (y ∷ ys) x → In (x ∷ xs) y → x ≡ y
  same_head x xs y ys a b (inl e) j = e
  same_head x xs y ys a b (inr i) (inl e) = sym e
  same_head x xs y ys a b (inr i) (inr j) =
      let p = below y ys b x i in let q = below x xs a y j in let r = o.antisymm y x in let s = rw (p, q) at r in cc

  same_tail : (x : X) (xs ys : List X) → is_ascending R (x ∷ xs) ≡ true → ((z : X) → In (x ∷ xs) z → In (x ∷ ys) z) → (z : X) → In xs z → In ys z
  same_tail x xs ys a f z i = ⊎_elim (λ (e : z ≡ x). absurd (no_loop x (let l = below x xs a z i in rw e at l))) (λ j. j) (f z (inr i))

  -- ascending lists with the same elements are equal
  pub ascending_same : (xs ys : List X) → is_ascending R xs ≡ true → is_ascending R ys ≡ true → ((x : X) → In xs x → In ys x) → ((x : X) → In ys x → In xs x) → xs ≡ ys
  ascending_same [] [] a b f g = refl
  ascending_same [] (y ∷ ys) a b f g = absurd (g y (inl refl))
  ascending_same (x ∷ xs) [] a b f g = absurd (f x (inl refl))
  ascending_same (x ∷ xs) (y ∷ ys) a b f g =
      let e = same_head x xs y ys a b (f x (inl refl)) (g y (inl refl)) in
      let b' : is_ascending R (x ∷ ys) ≡ true = (let P : X → Type 0 = λ v. is_ascending R (v ∷ ys) ≡ true in subst P (sym e) b) in
      let f' : (z : X) → In (x ∷ xs) z → In (x ∷ ys) z = (let P : X → Type 0 = λ v. (z : X) → In (x ∷ xs) z → In (v ∷ ys) z in subst P (sym e) f) in
      let g' : (z : X) → In (x ∷ ys) z → In (x ∷ xs) z = (let P : X → Type 0 = λ v. (z : X) → In (v ∷ ys) z → In (x ∷ xs) z in subst P (sym e) g) in
      let rest : xs ≡ ys = ascending_same xs ys (tail_ascending R o x xs a) (tail_ascending R o y ys b) (same_tail x xs ys a f') (same_tail x ys xs b' g') in cc

  -- an ascending list has no element twice
  pub ascending_once : (xs : List X) → is_ascending R xs ≡ true → AreOnce xs
  ascending_once [] a = tt
  ascending_once (x ∷ xs) a = ((λ i. no_loop x (below x xs a x i)), ascending_once xs (tail_ascending R o x xs a))

  -- ---- one more element

  -- what is there after x is put in was there, or is x
  pub put_in : (x : X) (ys : List X) (z : X) → In (put R x ys) z → In (x ∷ ys) z
  put_in x [] z i = i
  put_in x (y ∷ ys) z i = by (R x y) refl i (put_in x ys z)
    where
      by : (r : Ordering) → R x y ≡ r → In (put R x (y ∷ ys)) z → (In (put R x ys) z → In (x ∷ ys) z) → In (x ∷ y ∷ ys) z
      by Less e j ih = rw e at j
      by Equal e j ih = inr (rw e at j)
      by Greater e j ih = ⊎_elim (λ q. inr (inl q)) (λ k. ⊎_elim (λ q. inl q) (λ l. inr (inr l)) (ih k)) (rw e at j)

  -- what was there, and x, are there after x is put in
  pub in_put : (x : X) (ys : List X) → ((y : X) → In ys y → R x y ≡ Equal → x ≡ y) → (z : X) → In (x ∷ ys) z → In (put R x ys) z
  in_put x [] h z i = i
  in_put x (y ∷ ys) h z i = by (R x y) refl i (in_put x ys (λ w j. h w (inr j)) z)
    where
      by : (r : Ordering) → R x y ≡ r → In (x ∷ y ∷ ys) z → (In (x ∷ ys) z → In (put R x ys) z) → In (put R x (y ∷ ys)) z
      by Less e j ih = rw e j
      by Equal e (inl q) ih = rw e (inl (q ∙ h y (inl refl) e))
      by Equal e (inr j) ih = rw e j
      by Greater e (inl q) ih = rw e (inr (ih (inl q)))
      by Greater e (inr (inl q)) ih = rw e (inl q)
      by Greater e (inr (inr j)) ih = rw e (inr (ih (inr j)))
