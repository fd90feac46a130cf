-- Elements that are counted.
use Rattle.std.proofs.Common.{◌≡◌, ◌+◌, Bool, true, false, ◌||◌, cond, nat_lt, List, [], ◌∷◌, refl, ap, ◌∙◌, arith}
use Rattle.std.specs.Prelude.{count_by}
use Rattle.std.specs.List.{list_any}
use Rattle.std.proofs.lemmas.Bool.{lt-ltb}
use Rattle.std.proofs.lemmas.List.Sums.{sum_by-cons}

-- some element is counted where some element passes
pub some_counted : {X : Type 0} (p : X → Bool) (xs : List X) → nat_lt 0 (count_by p xs) ≡ list_any p xs
some_counted p [] = refl
some_counted p (x ∷ xs) =
    ap (nat_lt 0) (sum_by-cons (λ y. cond (p y) 1 0) x xs)
    ∙ elim (p x) as (λ b. nat_lt 0 (cond b 1 0 + count_by p xs) ≡ (b || list_any p xs)) [
      | true ↦ lt-ltb 0 (1 + count_by p xs) (omega arith)
      | false ↦ ap (λ n. nat_lt 0 n) (let e : 0 + count_by p xs ≡ count_by p xs = omega arith in e) ∙ some_counted p xs
    ]
