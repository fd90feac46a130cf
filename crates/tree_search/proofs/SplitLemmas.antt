-- A list falls apart by the numbers at which its elements have their keys.
use Rattle.std.proofs.Common.{◌≡◌, ◌≢◌, ℕ, Bool, true, false, cond, not, ◌==◌, nat_eq, List, [], ◌∷◌, ◌++◌, inl, inr, refl, sym, ap, ◌∙◌, subst}
use Rattle.std.specs.Prelude.{IsPermutation, flat_map, filter}
use Rattle.std.specs.List.{IsDistinct, AllByRecursion}
use Rattle.std.proofs.lemmas.Bool.{eqb-false, eq-eqb, ne_eqb, cases_eq}
use Rattle.std.proofs.lemmas.List.Sorted.{IsPermutation-trans, IsPermutation-append_right, IsPermutation-sym, IsPermutation-refl, IsPermutation-filter_both}
use Rattle.flux_model.specs.Members.{In}
use Rattle.flux_model.proofs.MemberLemmas.{filter_in}

-- those with the first key, then those with the second, and so on
abbrev pub by_key : {X : Type 0} → (X → ℕ) → List X → List ℕ → List X
by_key key xs zs = flat_map (λ z. filter (λ x. key x == z) xs) zs

skip_others : {X : Type 0} (key : X → ℕ) (z w : ℕ) (ys : List X) → w ≢ z → filter (λ x. key x == w) (filter (λ x. not (key x == z)) ys) ≡ filter (λ x. key x == w) ys
skip_others key z w [] ne = refl
skip_others {X} key z w (y ∷ ys) ne =
    let more = skip_others key z w ys ne in
    let P : Bool → Type 0 = λ b. filter (λ x. key x == w) (cond (not b) (y ∷ filter (λ x. not (key x == z)) ys) (filter (λ x. not (key x == z)) ys)) ≡ filter (λ x. key x == w) (y ∷ ys) in
    elim (cases_eq (key y) z) [
      | inl e ↦ subst P (sym (eq-eqb (key y) z e)) (more ∙ sym (ap (λ b. cond b (y ∷ filter (λ x. key x == w) ys) (filter (λ x. key x == w) ys)) (ne_eqb (key y) w (λ f. ne (sym f ∙ e)))))
      | inr other ↦ subst P (sym (ne_eqb (key y) z other)) (λ i. cond (key y == w) (y ∷ more i) (more i))
    ]

flat_alike : {X : Type 0} (f g : ℕ → List X) (z : ℕ) (ws : List ℕ) → AllByRecursion (λ w. nat_eq z w ≡ false) ws → ((w : ℕ) → w ≢ z → f w ≡ g w) → flat_map f ws ≡ flat_map g ws
flat_alike f g z [] h same = refl
flat_alike f g z (w ∷ ws) h same =
    λ i. same w (λ e. eqb-false z w h.0 (sym e)) i ++ flat_alike f g z ws h.1 same i

-- each of the keys is a number of the list, and no number stands there twice
pub split_by_key : {X : Type 0} (key : X → ℕ) (zs : List ℕ) (xs : List X) → IsDistinct nat_eq zs → ((x : X) → In xs x → In zs (key x)) → IsPermutation (by_key key xs zs) xs
unfolding IsDistinct
split_by_key key [] [] apart among = IsPermutation-refl []
split_by_key key [] (x ∷ xs) apart among = absurd (among x (inl refl))
split_by_key {X} key (z ∷ zs) xs apart among =
    let here = filter (λ x. key x == z) xs in
    let there = filter (λ x. not (key x == z)) xs in
    let others : (x : X) → In there x → In zs (key x) = λ x m.
    (let r = filter_in (λ x. not (key x == z)) xs x m in
    other (key x) (among x r.0) r.1) in
    let rest = split_by_key key zs there apart.1 others in
    let same : by_key key there zs ≡ by_key key xs zs = flat_alike (λ w. filter (λ x. key x == w) there) (λ w. filter (λ x. key x == w) xs) z zs apart.0 (λ w ne. skip_others key z w xs ne) in
    let P : List X → Type 0 = λ l. IsPermutation l there in
    IsPermutation-trans _ _ _ (IsPermutation-append_right here _ _ (subst P same rest))
    (IsPermutation-sym _ _ (IsPermutation-filter_both (λ x. key x == z) (λ x. not (key x == z)) (λ x. refl) xs))
  where
    other : (k : ℕ) → In (z ∷ zs) k → not (k == z) ≡ true → In zs k
    other k (inl e) h = absurd (let bad : not (k == z) ≡ false = ap not (eq-eqb k z e) in cc)
    other k (inr m) h = m
