-- Lists with one more element.
use Rattle.std.proofs.Common.{◌≡◌, ℕ, ◌<◌, Bool, true, false, not, ◌&&◌, ◌||◌, List, [], ◌∷◌, ◌++◌, length, get_or, refl, zero, suc, arith, subst}
use Rattle.std.specs.List.{list_any, AllByRecursion}
use Rattle.std.proofs.lemmas.List.Folds.{list_any-append}
use Rattle.flux_model.specs.Ordered.{are_distinct_by}

-- both hold
pub both : (b c : Bool) → b && c ≡ true → (b ≡ true) × (c ≡ true)
both true c h = (refl, h)
both false c h = (h, cc)

-- neither holds
pub neither : (b c : Bool) → b || c ≡ false → (b ≡ false) × (c ≡ false)
neither true c h = (h, cc)
neither false c h = (refl, h)

not_true : (b : Bool) → not b ≡ true → b ≡ false
not_true true h = cc
not_true false h = refl

-- one element more
pub AllByRecursion-push : {X : Type 0} (P : X → Type 0) (xs : List X) (y : X) → AllByRecursion P xs → P y → AllByRecursion P (xs ++ y ∷ [])
AllByRecursion-push P [] y a p = (p, tt)
AllByRecursion-push P (x ∷ xs) y a p = (a.0, AllByRecursion-push P xs y a.1 p)

-- by a weaker property
pub AllByRecursion-weaker : {X : Type 0} (P Q : X → Type 0) → ((x : X) → P x → Q x) → (xs : List X) → AllByRecursion P xs → AllByRecursion Q xs
AllByRecursion-weaker P Q f [] a = tt
AllByRecursion-weaker P Q f (x ∷ xs) a = (f x a.0, AllByRecursion-weaker P Q f xs a.1)

-- what is so of all is so of the element at a place
pub AllByRecursion-at : {X : Type 0} (P : X → Type 0) (xs : List X) (i : ℕ) (d : X) → AllByRecursion P xs → i < length xs → P (get_or xs i d)
AllByRecursion-at P [] i d a h = absurd (omega arith)
AllByRecursion-at P (x ∷ xs) zero d a h = a.0
AllByRecursion-at P (x ∷ xs) (suc i) d a h = AllByRecursion-at P xs i d a.1 (omega arith)

-- an element that none before it is the same as
pub distinct_push : {K : Type 0} (same : K → K → Bool) (xs : List K) (x : K) → are_distinct_by same xs ≡ true → list_any (λ y. same y x) xs ≡ false → are_distinct_by same (xs ++ x ∷ []) ≡ true
distinct_push same [] x d n = refl
distinct_push same (y ∷ ys) x d n =
    let two = both (not (list_any (same y) ys)) (are_distinct_by same ys) d in
    let new = neither (same y x) (list_any (λ z. same z x) ys) n in
    let e : list_any (same y) ys ≡ false = not_true (list_any (same y) ys) two.0 in
    rw (list_any-append (same y) ys (x ∷ []), e, new.0) (distinct_push same ys x two.1 new.1)

-- a front part of distinct elements is distinct
pub distinct_front : {K : Type 0} (same : K → K → Bool) (xs ys : List K) → are_distinct_by same (xs ++ ys) ≡ true → are_distinct_by same xs ≡ true
distinct_front same [] ys d = refl
distinct_front same (x ∷ xs) ys d =
    let two = both (not (list_any (same x) (xs ++ ys))) (are_distinct_by same (xs ++ ys)) d in
    let e : list_any (same x) xs || list_any (same x) ys ≡ false = subst (λ b. b ≡ false) (list_any-append (same x) xs ys) (not_true (list_any (same x) (xs ++ ys)) two.0) in
    rw (neither (list_any (same x) xs) (list_any (same x) ys) e).0 (distinct_front same xs ys two.1)
