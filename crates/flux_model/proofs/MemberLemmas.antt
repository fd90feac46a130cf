-- What is in a list, and lists without repeats.
use Rattle.std.proofs.Common.{◌≡◌, ℕ, zero, suc, ◌+◌, ◌<◌, ◌≤◌, Bool, true, false, ◌&&◌, ◌||◌, Option, Some, None, List, [], ◌∷◌, ◌++◌, map, refl, sym, ap, ◌∙◌, subst, ⊎_elim, ◌⊎◌, inl, inr, arith}
use Rattle.std.specs.Prelude.{IsPermutation, slice_get}
use Rattle.std.specs.List.{filter, filter_map, list_any, list_all, range_with_len, All}
use Rattle.std.proofs.lemmas.Bool.{cases_eq}
use Rattle.std.proofs.lemmas.Option.{none-some, same_Some}
use Rattle.std.proofs.lemmas.List.Elements.{All-nil, All-cons, All-head, All-tail}
use Rattle.std.proofs.lemmas.List.Sorted.{All-permutation, IsPermutation-refl, IsPermutation-trans, IsPermutation-cons, IsPermutation-middle, IsPermutation-sym}
use Rattle.flux_model.specs.Members.{In, AreOnce}

-- ---- elements

-- what holds of all elements holds of each
pub all_in : {X : Type 0} (P : X → Type 0) (xs : List X) → All P xs → (x : X) → In xs x → P x
all_in P [] h x i = absurd i
all_in P (y ∷ ys) h x (inl e) = subst P (sym e) (All-head P y ys h)
all_in P (y ∷ ys) h x (inr i) = all_in P ys (All-tail P y ys h) x i

-- what holds of each element holds of all
pub all_from_in : {X : Type 0} (P : X → Type 0) (xs : List X) → ((x : X) → In xs x → P x) → All P xs
all_from_in P [] h = All-nil P
all_from_in P (y ∷ ys) h = All-cons P y ys (h y (inl refl)) (all_from_in P ys (λ x i. h x (inr i)))

-- the elements of the second order are those of the first
pub in_permutation : {X : Type 0} (xs ys : List X) → IsPermutation xs ys → (x : X) → In ys x → In xs x
in_permutation xs ys h = all_in (In xs) ys (All-permutation (In xs) xs ys h (all_from_in (In xs) xs (λ x i. i)))

-- the elements of the first order are those of the second
pub in_permutation_back : {X : Type 0} (xs ys : List X) → IsPermutation xs ys → (x : X) → In xs x → In ys x
in_permutation_back xs ys h = in_permutation ys xs (IsPermutation-sym xs ys h)

-- an element is mapped to an element
pub in_mapped : {X Y : Type 0} (f : X → Y) (xs : List X) (x : X) → In xs x → In (map f xs) (f x)
in_mapped f [] x i = i
in_mapped f (y ∷ ys) x (inl e) = inl (ap f e)
in_mapped f (y ∷ ys) x (inr i) = inr (in_mapped f ys x i)

-- an element of the mapped list comes from an element
pub mapped_in : {X Y : Type 0} (f : X → Y) (xs : List X) (y : Y) → In (map f xs) y → (x : X) × (In xs x) × (y ≡ f x)
mapped_in f [] y i = absurd i
mapped_in f (x ∷ xs) y (inl e) = (x, inl refl, e)
mapped_in f (x ∷ xs) y (inr i) = let r = mapped_in f xs y i in (r.0, inr r.1, r.2)

-- an element that passes is kept
pub in_filter : {X : Type 0} (p : X → Bool) (xs : List X) (x : X) → In xs x → p x ≡ true → In (filter p xs) x
in_filter p [] x i h = i
in_filter p (y ∷ ys) x i h = by (p y) refl i (λ j. in_filter p ys x j h)
  where
    by : (b : Bool) → p y ≡ b → In (y ∷ ys) x → (In ys x → In (filter p ys) x) → In (filter p (y ∷ ys)) x
    by true e (inl q) ih = rw e (inl q)
    by true e (inr j) ih = rw e (inr (ih j))
    by false e (inl q) ih = let r : p x ≡ false = rw q e in let k = h in cc
    by false e (inr j) ih = rw e (ih j)

-- what is kept is an element, and passes
pub filter_in : {X : Type 0} (p : X → Bool) (xs : List X) (x : X) → In (filter p xs) x → In xs x × (p x ≡ true)
filter_in p [] x i = absurd i
filter_in p (y ∷ ys) x i = by (p y) refl i (filter_in p ys x)
  where
    by : (b : Bool) → p y ≡ b → In (filter p (y ∷ ys)) x → (In (filter p ys) x → In ys x × (p x ≡ true)) → In (y ∷ ys) x × (p x ≡ true)
    by true e j ih = ⊎_elim (λ (q : x ≡ y). (inl q, rw q e)) (λ k. let r = ih k in (inr r.0, r.1)) (rw e at j)
    by false e j ih = let r = ih (rw e at j) in (inr r.0, r.1)

-- where a function tells something of an element, that is in the list of what it tells
pub in_filter_map : {X Y : Type 0} (f : X → Option Y) (xs : List X) (x : X) (y : Y) → In xs x → f x ≡ Some y → In (filter_map f xs) y
in_filter_map f [] x y i e = absurd i
in_filter_map f (z ∷ zs) x y (inl same) e =
    let here : f z ≡ Some y = ap f (sym same) ∙ e in rw here (inl refl)
in_filter_map f (z ∷ zs) x y (inr i) e = by (f z) refl (in_filter_map f zs x y i e)
  where
    by : (o : Option _) → f z ≡ o → In (filter_map f zs) y → In (filter_map f (z ∷ zs)) y
    by None n m = rw n m
    by (Some w) n m = rw n (inr m)

-- what is in the list of what a function tells, it tells of an element
pub filter_map_in : {X Y : Type 0} (f : X → Option Y) (xs : List X) (y : Y) → In (filter_map f xs) y → (x : X) × In xs x × (f x ≡ Some y)
filter_map_in f [] y i = absurd i
filter_map_in {X} {Y} f (z ∷ zs) y i = by (f z) refl i (filter_map_in f zs y)
  where
    by : (o : Option Y) → f z ≡ o → In (filter_map f (z ∷ zs)) y → (In (filter_map f zs) y → (x : X) × In zs x × (f x ≡ Some y)) → (x : X) × In (z ∷ zs) x × (f x ≡ Some y)
    by None e j rest = let r = rest (rw e at j) in (r.0, inr r.1, r.2)
    by (Some w) e j rest = at_first (rw e at j)
      where
        at_first : (y ≡ w) ⊎ In (filter_map f zs) y → (x : X) × In (z ∷ zs) x × (f x ≡ Some y)
        at_first (inl same) = (z, inl refl, e ∙ ap Some (sym same))
        at_first (inr k) = let r = rest k in (r.0, inr r.1, r.2)

-- where none passes, no element does
pub none_in : {X : Type 0} (p : X → Bool) (xs : List X) → list_any p xs ≡ false → (x : X) → In xs x → p x ≡ false
none_in p [] h x i = absurd i
none_in {X} p (y ∷ ys) h x i = by (p y) refl h i (none_in p ys)
  where
    by : (b : Bool) → p y ≡ b → p y || list_any p ys ≡ false → In (y ∷ ys) x → (list_any p ys ≡ false → (x : X) → In ys x → p x ≡ false) → p x ≡ false
    by true e g j ih = let r = rw e at g in cc
    by false e g (inl q) ih = rw q e
    by false e g (inr j) ih = ih (rw e at g) x j

-- where an element passes, some passes
pub any_in : {X : Type 0} (p : X → Bool) (xs : List X) (x : X) → In xs x → p x ≡ true → list_any p xs ≡ true
any_in p [] x i h = absurd i
any_in {X} p (y ∷ ys) x (inl e) h = let P : X → Type 0 = λ z. p z || list_any p ys ≡ true in subst P e (rw h refl)
any_in {X} p (y ∷ ys) x (inr i) h = by (p y) (any_in p ys x i h)
  where
    by : (b : Bool) → list_any p ys ≡ true → b || list_any p ys ≡ true
    by true g = refl
    by false g = g

-- where some passes, there is an element that passes
pub in_any : {X : Type 0} (p : X → Bool) (xs : List X) → list_any p xs ≡ true → (x : X) × (In xs x) × (p x ≡ true)
in_any p [] h = cc
in_any {X} p (y ∷ ys) h = by (p y) refl h (in_any p ys)
  where
    by : (b : Bool) → p y ≡ b → p y || list_any p ys ≡ true → (list_any p ys ≡ true → (x : X) × (In ys x) × (p x ≡ true)) → (x : X) × (In (y ∷ ys) x) × (p x ≡ true)
    by true e g ih = (y, inl refl, e)
    by false e g ih = let r = ih (rw e at g) in (r.0, inr r.1, r.2)

-- tests that agree on the elements agree on whether some element passes
pub list_any-alike : {X : Type 0} (p q : X → Bool) (xs : List X) → ((x : X) → In xs x → p x ≡ q x) → list_any p xs ≡ list_any q xs
list_any-alike p q [] h = refl
list_any-alike p q (x ∷ xs) h = λ i. h x (inl refl) i || list_any-alike p q xs (λ y m. h y (inr m)) i

-- tests that agree on the elements agree on whether each element passes
pub list_all-alike : {X : Type 0} (p q : X → Bool) (xs : List X) → ((x : X) → In xs x → p x ≡ q x) → list_all p xs ≡ list_all q xs
list_all-alike p q [] h = refl
list_all-alike p q (x ∷ xs) h = λ i. h x (inl refl) i && list_all-alike p q xs (λ y m. h y (inr m)) i

-- ---- two lists in a row

-- an element of two lists in a row is in one of them
pub append_in : {X : Type 0} (xs ys : List X) (z : X) → In (xs ++ ys) z → In xs z ⊎ In ys z
append_in [] ys z i = inr i
append_in (x ∷ xs) ys z (inl e) = inl (inl e)
append_in (x ∷ xs) ys z (inr i) = ⊎_elim (λ j. inl (inr j)) (λ j. inr j) (append_in xs ys z i)

-- an element of the first list is in both lists in a row
pub in_append_left : {X : Type 0} (xs ys : List X) (z : X) → In xs z → In (xs ++ ys) z
in_append_left [] ys z i = absurd i
in_append_left (x ∷ xs) ys z (inl e) = inl e
in_append_left (x ∷ xs) ys z (inr i) = inr (in_append_left xs ys z i)

-- an element of the second list is in both lists in a row
pub in_append_right : {X : Type 0} (xs ys : List X) (z : X) → In ys z → In (xs ++ ys) z
in_append_right [] ys z i = i
in_append_right (x ∷ xs) ys z i = inr (in_append_right xs ys z i)

-- ---- places

-- an element has a place
pub place_of : {X : Type 0} (xs : List X) (x : X) → In xs x → (i : ℕ) × (slice_get xs i ≡ Some x)
place_of [] x i = absurd i
place_of (y ∷ ys) x (inl e) = (zero, ap Some (sym e))
place_of (y ∷ ys) x (inr i) = let r = place_of ys x i in (suc r.0, r.1)

-- what stands at a place is an element
pub in_by_place : {X : Type 0} (xs : List X) (i : ℕ) (x : X) → slice_get xs i ≡ Some x → In xs x
in_by_place [] i x e = absurd (none-some x e)
in_by_place (y ∷ ys) zero x e = inl (sym (same_Some y x e))
in_by_place (y ∷ ys) (suc i) x e = inr (in_by_place ys i x e)

-- ---- lists without repeats

-- a list with an element, about that element
split_at : {X : Type 0} (x : X) (ys : List X) → In ys x → (front : List X) × (tail : List X) × (ys ≡ front ++ x ∷ tail)
split_at x [] i = absurd i
split_at {X} x (y ∷ ys) (inl e) = ([], ys, (let P : X → Type 0 = λ z. y ∷ ys ≡ z ∷ ys in subst P (sym e) refl))
split_at x (y ∷ ys) (inr i) = let r = split_at x ys i in (y ∷ r.0, r.1, ap (λ l. y ∷ l) r.2)

middle_in : {X : Type 0} (front : List X) (x : X) (tail : List X) (z : X) → In (front ++ x ∷ tail) z → (z ≡ x) ⊎ In (front ++ tail) z
middle_in front x tail z i = ⊎_elim (λ j. inr (in_append_left front tail z j)) (λ j. ⊎_elim (λ e. inl e) (λ k. inr (in_append_right front tail z k)) j) (append_in front (x ∷ tail) z i)

in_middle : {X : Type 0} (front : List X) (x : X) (tail : List X) (z : X) → In (front ++ tail) z → In (front ++ x ∷ tail) z
in_middle front x tail z i = ⊎_elim (λ j. in_append_left front (x ∷ tail) z j) (λ j. in_append_right front (x ∷ tail) z (inr j)) (append_in front tail z i)

once_middle : {X : Type 0} (front : List X) (x : X) (tail : List X) → AreOnce (front ++ x ∷ tail) → (In (front ++ tail) x → ⊥) × AreOnce (front ++ tail)
once_middle [] x tail h = h
once_middle {X} (a ∷ front) x tail h =
    let r = once_middle front x tail h.1 in
    (λ i. ⊎_elim (λ e. h.0 (let P : X → Type 0 = λ z. In (front ++ x ∷ tail) z in subst P e (in_append_right front (x ∷ tail) x (inl refl)))) r.0 i, (λ i. h.0 (in_middle front x tail a i), r.1))

-- lists with the same elements, each once
pub once_permutation : {X : Type 0} (xs ys : List X) → AreOnce xs → AreOnce ys → ((z : X) → In xs z → In ys z) → ((z : X) → In ys z → In xs z) → IsPermutation xs ys
once_permutation [] [] a b f g = IsPermutation-refl []
once_permutation [] (y ∷ ys) a b f g = absurd (g y (inl refl))
once_permutation {X} (x ∷ xs) ys a b f g =
    let s = split_at x ys (f x (inl refl)) in
    let P : List X → Type 0 = AreOnce in
    let once = once_middle s.0 x s.1 (subst P s.2 b) in
    let to : (z : X) → In xs z → In (s.0 ++ s.1) z = λ z i.
    (let Q : List X → Type 0 = λ l. In l z in
    let R : X → Type 0 = λ w. In xs w in
    ⊎_elim (λ e. absurd (a.0 (subst R e i))) (λ j. j) (middle_in s.0 x s.1 z (subst Q s.2 (f z (inr i))))) in
    let from : (z : X) → In (s.0 ++ s.1) z → In xs z = λ z i.
    (let Q : List X → Type 0 = λ l. In l z in
    let R : X → Type 0 = λ w. In (s.0 ++ s.1) w in
    ⊎_elim (λ e. absurd (once.0 (subst R e i))) (λ j. j) (g z (subst Q (sym s.2) (in_middle s.0 x s.1 z i)))) in
    let rest = once_permutation xs (s.0 ++ s.1) a.1 once.1 to from in
    let whole = IsPermutation-trans (x ∷ xs) (x ∷ (s.0 ++ s.1)) (s.0 ++ x ∷ s.1) (IsPermutation-cons x xs (s.0 ++ s.1) rest)
    (IsPermutation-sym (s.0 ++ x ∷ s.1) (x ∷ (s.0 ++ s.1)) (IsPermutation-middle s.0 x s.1)) in
    let S : List X → Type 0 = λ l. IsPermutation (x ∷ xs) l in
    subst S (sym s.2) whole

-- a list whose elements tell their places
pub once_by_place : {X : Type 0} (xs : List X) → ((i j : ℕ) (x : X) → slice_get xs i ≡ Some x → slice_get xs j ≡ Some x → i ≡ j) → AreOnce xs
once_by_place [] h = tt
once_by_place {X} (x ∷ xs) h = (
  λ i. let p = place_of xs x i in let e : zero ≡ suc p.0 = h zero (suc p.0) x refl p.1 in absurd (omega arith),
  once_by_place xs (λ i j y p q. let e : suc i ≡ suc j = h (suc i) (suc j) y p q in omega arith),
)

-- what tells elements apart maps a list without repeats to one
pub once_mapped : {X Y : Type 0} (f : X → Y) (xs : List X) → AreOnce xs → ((a b : X) → In xs a → In xs b → f a ≡ f b → a ≡ b) → AreOnce (map f xs)
once_mapped f [] o h = tt
once_mapped {X} f (x ∷ xs) o h = (
  λ i. let r = mapped_in f xs (f x) i in let e : x ≡ r.0 = h x r.0 (inl refl) (inr r.1) r.2 in o.0 (let P : X → Type 0 = λ z. In xs z in subst P (sym e) r.1),
  once_mapped f xs o.1 (λ a b i j e. h a b (inr i) (inr j) e),
)

-- ---- ranges

-- a number of a range is within it
pub range_in : (b n x : ℕ) → In (range_with_len b n) x → (b ≤ x) × (x < b + n)
range_in b zero x i = absurd i
range_in b (suc n) x (inl e) = (omega (arith, e), omega (arith, e))
range_in b (suc n) x (inr i) = let r = range_in (b + 1) n x i in (omega (arith, r.0), omega (arith, r.1))

-- a number within a range is in it
pub in_range : (b n x : ℕ) → b ≤ x → x < b + n → In (range_with_len b n) x
in_range b zero x low high = absurd (omega (arith, low, high))
in_range b (suc n) x low high = by (cases_eq x b) (in_range (b + 1) n x)
  where
    by : (x ≡ b) ⊎ (x ≡ b → ⊥) → (b + 1 ≤ x → x < b + 1 + n → In (range_with_len (b + 1) n) x) → In (range_with_len b (suc n)) x
    by (inl same) rest = inl same
    by (inr other) rest = inr (rest (omega arith) (omega arith))

-- a range has each number once
pub range_once : (b n : ℕ) → AreOnce (range_with_len b n)
range_once b zero = tt
range_once b (suc n) = (λ i. (let r = range_in (b + 1) n b i in omega (arith, r.0)), range_once (b + 1) n)
