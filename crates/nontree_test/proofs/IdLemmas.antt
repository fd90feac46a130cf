-- The ids of a list, gone through by the numbers of their places.
use Rattle.std.proofs.Common.{◌≡◌, ℕ, suc, ◌+◌, ◌<◌, Bool, ◌||◌, List, [], ◌∷◌, length, get_or, refl, sym, ap, ◌∙◌, arith}
use Rattle.std.specs.List.{list_any, range_with_len}

-- a test of the element at each place, from a on
any_from : {X : Type 0} (p : X → Bool) (at : ℕ → X) (d : X) (a : ℕ) (xs : List X) → ((k : ℕ) → k < length xs → at (a + k) ≡ get_or xs k d) → list_any (λ k. p (at k)) (range_with_len a (length xs)) ≡ list_any p xs
any_from p at d a [] each = refl
any_from p at d a (x ∷ xs) each =
    let here : a + 0 ≡ a = omega arith in
    let first : at a ≡ x = ap at (sym here) ∙ each 0 (omega arith) in
    ap (λ y. p y || list_any (λ k. p (at k)) (range_with_len (a + 1) (length xs))) first
    ∙ ap (λ b. p x || b) (any_from p at d (a + 1) xs (λ k h.
    let next : at (a + suc k) ≡ get_or xs k d = each (suc k) (omega arith) in
    let same : a + suc k ≡ a + 1 + k = omega arith in
    ap at (sym same) ∙ next))

-- some element passes exactly where one passes at some place
pub any_by_place : {X : Type 0} (p : X → Bool) (d : X) (xs : List X) → list_any (λ k. p (get_or xs k d)) (range_with_len 0 (length xs)) ≡ list_any p xs
any_by_place p d xs = any_from p (λ k. get_or xs k d) d 0 xs (λ k h. ap (λ n. get_or xs n d) (omega arith))
