-- The embeddings that have the given ids.
use Rattle.std.proofs.Common.{◌≡◌, ℕ, zero, suc, ◌<◌, Bool, true, false, cond, ◌&&◌, ◌==◌, nat_eq, List, [], ◌∷◌, ◌++◌, length, slice_index, Option, Some, None, refl, sym, ap, ◌∙◌, subst, arith}
use Rattle.std.specs.Prelude.{IsPermutation, filter}
use Rattle.std.specs.List.{IsDistinct}
use Rattle.std.specs.Cmp.Lexicographic.{pointwise}
use Rattle.std.proofs.lemmas.Bool.{and_parts}
use Rattle.flux_model.specs.Graph.{Graph}
use Rattle.flux_model.specs.Pattern.{PatternGraph}
use Rattle.tree_search.specs.Aim.{aimed}
use Rattle.tree_search.specs.AimedMembers.{members_at, members_over_at}
use Rattle.flux_model.specs.Partial.{id_of, with_id}
use Rattle.flux_model.specs.Members.{In}
use Rattle.tree_search.specs.Members.{agrees, goes_on}
use Rattle.tree_search.specs.declared.aim.Aim.{Aim}
use Rattle.tree_search.proofs.SplitLemmas.{by_key, split_by_key}

-- with one id more
pub goes_on_with : (p : List (Option ℕ)) (m : List ℕ) (w x : ℕ) → w < length p → id_of p w ≡ None → goes_on (with_id p w x) m ≡ goes_on p m && slice_index m w == x
goes_on_with [] m w x h none = absurd (omega arith)
goes_on_with (o ∷ p) [] zero x h none = refl
goes_on_with (o ∷ p) [] (suc w) x h none = refl
goes_on_with (o ∷ p) (y ∷ m) zero x h none =
    swapped (x == y) (y == x) (pointwise agrees p m) (flip x y) ∙ ap (λ r. (agrees r y && pointwise agrees p m) && y == x) (sym none)
  where
    flip : (a b : ℕ) → (a == b) ≡ (b == a)
    flip a b = grind arith

    swapped : (a b c : Bool) → a ≡ b → a && c ≡ c && b
    swapped true b true e = e
    swapped true b false e = refl
    swapped false b true e = e
    swapped false b false e = refl
goes_on_with (o ∷ p) (y ∷ m) (suc w) x h none =
    ap (λ b. agrees o y && b) (goes_on_with p m w x (omega arith) none) ∙ regrouped (agrees o y) (goes_on p m) (slice_index m w == x)
  where
    regrouped : (a b c : Bool) → a && (b && c) ≡ (a && b) && c
    regrouped true b c = refl
    regrouped false b c = refl

-- the id of a vertex that has one
pub given_id : (p : List (Option ℕ)) (m : List ℕ) (u x : ℕ) → goes_on p m ≡ true → id_of p u ≡ Some x → slice_index m u ≡ x
given_id [] m u x goes has = absurd (let none : id_of [] u ≡ None = refl in cc)
given_id (o ∷ p) [] u x goes has = absurd (let bad : false ≡ true = goes in cc)
given_id (o ∷ p) (y ∷ m) zero x goes has =
    let same : (x == y) ≡ true = ap (λ r. agrees r y) (sym has) ∙ (and_parts (agrees o y) (goes_on p m) goes).0 in
    grind arith
given_id (o ∷ p) (y ∷ m) (suc u) x goes has = given_id p m u x (and_parts (agrees o y) (goes_on p m) goes).1 has

filter_both : {X : Type 0} (a b c : X → Bool) (xs : List X) → ((x : X) → c x ≡ a x && b x) → filter c xs ≡ filter b (filter a xs)
filter_both a b c [] h = refl
filter_both {X} a b c (x ∷ xs) h = by (a x) refl (filter_both a b c xs h)
  where
    by : (v : Bool) → a x ≡ v → filter c xs ≡ filter b (filter a xs) → filter c (x ∷ xs) ≡ filter b (filter a (x ∷ xs))
    by true e more = rw (h x, e) (λ i. cond (b x) (x ∷ more i) (more i))
    by false e more = rw (h x, e) more

module _ (q : PatternGraph) (g : Graph) (aim : Aim) (p : List (Option ℕ)) (w : ℕ) (inside : w < length p) (none : id_of p w ≡ None) where
  -- one more id leaves those that have it
  pub members_with : (x : ℕ) → members_at q g aim (with_id p w x) ≡ filter (λ (m : List ℕ). slice_index m w == x) (members_at q g aim p)
  members_with x = filter_both (goes_on p) (λ m. slice_index m w == x) (goes_on (with_id p w x)) (aimed q g aim) (λ m. goes_on_with p m w x inside none)

  -- by the ids that they have for w
  pub members_split : (zs : List ℕ) → IsDistinct nat_eq zs → ((m : List ℕ) → In (members_at q g aim p) m → In zs (slice_index m w)) → IsPermutation (members_over_at q g aim p w zs) (members_at q g aim p)
  members_split zs apart among =
      subst (λ l. IsPermutation l (members_at q g aim p)) (sym (over zs)) (split_by_key (λ (m : List ℕ). slice_index m w) zs (members_at q g aim p) apart among)
    where
      over : (xs : List ℕ) → members_over_at q g aim p w xs ≡ by_key (λ (m : List ℕ). slice_index m w) (members_at q g aim p) xs
      over [] = refl
      over (x ∷ xs) = λ i. members_with x i ++ over xs i
