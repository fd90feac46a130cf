-- Lists that grow by one, and lists that are related place by place.
use Rattle.std.proofs.Common.{◌≡◌, ℕ, zero, suc, ◌+◌, ◌<◌, ◌≤◌, ◌==◌, cond, List, [], ◌∷◌, ◌++◌, length, get_or, take, map, refl, sym, ap, subst, ◌∙◌, arith}
use Rattle.std.specs.Prelude.{Some, None, count_by, slice_get}
use Rattle.std.specs.List.{AllZip}
use Rattle.std.proofs.lemmas.List.{map-append, take_more, take_all}
use Rattle.std.proofs.lemmas.List.Sums.{sum_by-append, sum_by-cons}
use Rattle.std.proofs.lemmas.Option.{slice_get_within, get_or_from_slice_get}

-- ---- one more at the end

-- the others stand where they stood
pub get-append : {X : Type 0} (xs : List X) (y : X) (i : ℕ) (x : X) → slice_get xs i ≡ Some x → slice_get (xs ++ y ∷ []) i ≡ Some x
get-append [] y i x e = cc
get-append (z ∷ zs) y zero x e = e
get-append (z ∷ zs) y (suc i) x e = get-append zs y i x e

-- it stands at the end
pub get-last : {X : Type 0} (xs : List X) (y : X) → slice_get (xs ++ y ∷ []) (length xs) ≡ Some y
get-last [] y = refl
get-last (z ∷ zs) y = get-last zs y

-- what stands where nothing stood is it
pub get-fresh : {X : Type 0} (xs : List X) (y : X) (i : ℕ) (x : X) → slice_get (xs ++ y ∷ []) i ≡ Some x → slice_get xs i ≡ None → x ≡ y
get-fresh [] y zero x e n = cc
get-fresh [] y (suc i) x e n = cc
get-fresh (z ∷ zs) y zero x e n = cc
get-fresh (z ∷ zs) y (suc i) x e n = get-fresh zs y i x e n

-- how many are equal to a number
pub count-append : (p : ℕ) (xs : List ℕ) (y : ℕ) → count_by (λ x. x == p) (xs ++ y ∷ []) ≡ count_by (λ x. x == p) xs + cond (y == p) 1 0
count-append p xs y =
    let one : count_by (λ x. x == p) (y ∷ []) ≡ cond (y == p) 1 0 + 0 = sum_by-cons (λ x. cond (x == p) 1 0) y [] in
    omega (arith, sum_by-append (λ x. cond (x == p) 1 0) xs (y ∷ []), one)

-- the values of a function, one place further
pub map-next : {X Z : Type 0} (f : X → Z) (xs : List X) (i : ℕ) (x : X) (old new : List Z) (y : Z) → x ≡ get_or xs i x → i < length xs → y ≡ f x → old ≡ map f (take i xs)
    → new ≡ old ++ y ∷ [] → new ≡ map f (take (i + 1) xs)
map-next f xs i x old new y here within is before now =
    let more : take (i + 1) xs ≡ take i xs ++ x ∷ [] = take_more xs i x within ∙ ap (λ r. take i xs ++ r ∷ []) (sym here) in
    now ∙ (λ j. before j ++ is j ∷ []) ∙ sym (map-append f (take i xs) (x ∷ [])) ∙ ap (map f) (sym more)

-- what is so of the first elements is so of all, where they are all
pub all-taken : {X Y : Type 0} (R : X → Y → Type 0) (xs : List X) (ys : List Y) (k : ℕ) → length xs ≤ k → AllZip R (take k xs) ys → AllZip R xs ys
all-taken R xs ys k long all = subst (λ l. AllZip R l ys) (take_all k xs long) all

-- ---- place by place

module _ {X Y : Type 0} (R : X → Y → Type 0) where
  all-append : (xs : List X) (x : X) (ys : List Y) (y : Y) → AllZip R xs ys → R x y → AllZip R (xs ++ x ∷ []) (ys ++ y ∷ [])
  all-append [] x [] y all here = (here, tt)
  all-append [] x (z ∷ ys) y all here = absurd all
  all-append (w ∷ xs) x [] y all here = absurd all
  all-append (w ∷ xs) x (z ∷ ys) y all here = (all.0, all-append xs x ys y all.1 here)

  -- one place further
  pub all-next : (xs : List X) (k : ℕ) (x : X) (old new : List Y) (y : Y) → slice_get xs k ≡ Some x → AllZip R (take k xs) old → R x y → new ≡ old ++ y ∷ [] → AllZip R (take (k + 1) xs) new
  all-next xs k x old new y e before here now =
      let more : take (k + 1) xs ≡ take k xs ++ x ∷ [] = take_more xs k x (slice_get_within xs k x e) ∙ ap (λ r. take k xs ++ r ∷ []) (get_or_from_slice_get xs k x x e) in
      rw (more, now) (all-append (take k xs) x old y before here)

  -- another relation that follows
  pub all-more : (S : X → Y → Type 0) → ((x : X) (y : Y) → R x y → S x y) → (xs : List X) (ys : List Y) → AllZip R xs ys → AllZip S xs ys
  all-more S h [] [] all = tt
  all-more S h [] (y ∷ ys) all = absurd all
  all-more S h (x ∷ xs) [] all = absurd all
  all-more S h (x ∷ xs) (y ∷ ys) all = (h x y all.0, all-more S h xs ys all.1)

  -- at one place
  pub all-at : (xs : List X) (ys : List Y) (d : X) (e : Y) (k : ℕ) → AllZip R xs ys → k < length xs → R (get_or xs k d) (get_or ys k e)
  all-at [] ys d e k all below = absurd (omega (arith, below))
  all-at (x ∷ xs) [] d e k all below = absurd all
  all-at (x ∷ xs) (y ∷ ys) d e zero all below = all.0
  all-at (x ∷ xs) (y ∷ ys) d e (suc k) all below = all-at xs ys d e k all.1 (omega (arith, below))

  -- functions that agree on what is related
  pub all-map : {Z : Type 0} (f : X → Z) (h : Y → Z) → ((x : X) (y : Y) → R x y → h y ≡ f x) → (xs : List X) (ys : List Y) → AllZip R xs ys → map h ys ≡ map f xs
  all-map f h agree [] [] all = refl
  all-map f h agree [] (y ∷ ys) all = absurd all
  all-map f h agree (x ∷ xs) [] all = absurd all
  all-map f h agree (x ∷ xs) (y ∷ ys) all = λ i. agree x y all.0 i ∷ all-map f h agree xs ys all.1 i

  -- what follows for the second
  pub all-each : (P : Y → Type 0) → ((x : X) (y : Y) → R x y → P y) → (xs : List X) (ys : List Y) (d : Y) → AllZip R xs ys → (k : ℕ) → k < length ys → P (get_or ys k d)
  all-each P h xs [] d all k below = absurd (omega (arith, below))
  all-each P h [] (y ∷ ys) d all k below = absurd all
  all-each P h (x ∷ xs) (y ∷ ys) d all zero below = h x y all.0
  all-each P h (x ∷ xs) (y ∷ ys) d all (suc k) below = all-each P h xs ys d all.1 k (omega (arith, below))
