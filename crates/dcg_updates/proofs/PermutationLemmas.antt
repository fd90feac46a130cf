-- A list with one element put in, and lists that are told by their counts.
use Rattle.std.proofs.Common.{◌≡◌, ℕ, ◌+◌, ◌<◌, ◌≤◌, Bool, true, false, cond, ◌==◌, List, [], ◌∷◌, length, get_or, suc, refl, sym, ap, ◌∙◌, arith}
use Rattle.std.specs.Prelude.{count_by, IsPermutation}
use Rattle.std.specs.List.{remove}
use Rattle.std.specs.declared.cmp.Ordering.{Ordering}
use Rattle.std.specs.declared.cmp.Ordering.TheVariants.{Less, Equal, Greater}
use Rattle.std.proofs.lemmas.Bool.{eq-eqb, eqb-true}
use Rattle.std.proofs.lemmas.List.Sums.{sum_by-cons}
use Rattle.std.proofs.lemmas.List.Sorted.{sum_by-IsPermutation, IsPermutation-refl, IsPermutation-sym, IsPermutation-trans, IsPermutation-cons, IsPermutation-middle, IsPermutation-remove}
use Rattle.flux_model.specs.Ordered.{put, is_in}
use Rattle.flux_model.proofs.OrderedLemmas.{in-greater, in-equal}
use Rattle.dcg_moves.specs.Agree.{times}

-- what a test counts
abbrev pub bit : Bool → ℕ
bit b = cond b 1 0

-- ---- one element put in, which was not there

-- stands before the others, in some order
pub perm-put : {K : Type 0} (R : K → K → Ordering) (x : K) (xs : List K) → is_in R x xs ≡ false → IsPermutation (put R x xs) (x ∷ xs)
perm-put R x [] absent = IsPermutation-refl (x ∷ [])
perm-put R x (y ∷ ys) absent = by (R x y) refl (perm-put R x ys)
  where
    by : (r : Ordering) → R x y ≡ r → (is_in R x ys ≡ false → IsPermutation (put R x ys) (x ∷ ys)) → IsPermutation (put R x (y ∷ ys)) (x ∷ y ∷ ys)
    by Less q rest = rw q (IsPermutation-refl (x ∷ y ∷ ys))
    by Equal q rest = let bad : true ≡ false = sym (in-equal R x y ys q) ∙ absent in absurd cc
    by Greater q rest =
        rw q
        (IsPermutation-trans (y ∷ put R x ys) (y ∷ x ∷ ys) (x ∷ y ∷ ys) (IsPermutation-cons y (put R x ys) (x ∷ ys) (rest (sym (in-greater R x y ys q) ∙ absent))) (IsPermutation-middle (y ∷ []) x ys))

-- is counted beside them
pub count-put : {K : Type 0} (R : K → K → Ordering) (p : K → Bool) (x : K) (xs : List K) → is_in R x xs ≡ false → count_by p (put R x xs) ≡ bit (p x) + count_by p xs
count-put R p x xs absent =
    sym (sum_by-IsPermutation (λ z. bit (p z)) (put R x xs) (x ∷ xs) (perm-put R x xs absent)) ∙ sum_by-cons (λ z. bit (p z)) x xs

-- ---- lists that are told by their counts

times-cons : (w x : ℕ) (xs : List ℕ) → times w (x ∷ xs) ≡ bit (x == w) + times w xs
times-cons w x xs = sum_by-cons (λ z. bit (z == w)) x xs

find_in : (x : ℕ) (ys : List ℕ) → 1 ≤ times x ys → (i : ℕ) × (i < length ys) × (x ≡ get_or ys i x)
find_in x [] some = absurd (omega arith)
find_in x (y ∷ ys) some = by (y == x) refl (find_in x ys)
  where
    by : (b : Bool) → (y == x) ≡ b → (1 ≤ times x ys → (i : ℕ) × (i < length ys) × (x ≡ get_or ys i x)) → (i : ℕ) × (i < length (y ∷ ys)) × (x ≡ get_or (y ∷ ys) i x)
    by true e rest = (0, omega arith, sym (eqb-true y x e))
    by false e rest =
        let none : bit (y == x) ≡ 0 = ap bit e in
        let k = rest (omega (arith, times-cons x y ys, none, some)) in
        (suc k.0, omega (arith, k.1), k.2)

-- lists in which each number stands as often have the same elements
pub perm_from_times : (xs ys : List ℕ) → ((w : ℕ) → times w xs ≡ times w ys) → IsPermutation xs ys
perm_from_times [] ys same = by ys same
  where
    by : (ys : List ℕ) → ((w : ℕ) → times w [] ≡ times w ys) → IsPermutation [] ys
    by [] same = IsPermutation-refl []
    by (y ∷ ys) same =
        let one : bit (y == y) ≡ 1 = ap bit (eq-eqb y y refl) in
        absurd (omega (arith, same y, times-cons y y ys, one))
perm_from_times (x ∷ xs) ys same =
    let one : bit (x == x) ≡ 1 = ap bit (eq-eqb x x refl) in
    let k = find_in x ys (omega (arith, same x, times-cons x x xs, one)) in
    let out : IsPermutation ys (x ∷ remove ys k.0) = IsPermutation-remove ys k.0 x k.1 k.2 in
    IsPermutation-trans (x ∷ xs) (x ∷ remove ys k.0) ys
    (IsPermutation-cons x xs (remove ys k.0)
    (perm_from_times xs (remove ys k.0) (λ w. omega (arith, same w, times-cons w x xs, times-cons w x (remove ys k.0), sum_by-IsPermutation (λ z. bit (z == w)) ys (x ∷ remove ys k.0) out))))
    (IsPermutation-sym ys (x ∷ remove ys k.0) out)
