-- What is left of a row while its ends are counted.
use Rattle.std.proofs.Common.{◌≡◌, ℕ, ◌+◌, ◌≤◌, Bool, true, false, cond, ◌==◌, ◌&&◌, List, [], ◌∷◌, sym, ap, ◌∙◌, arith}
use Rattle.std.specs.Prelude.{count_by}
use Rattle.std.specs.Cmp.{nat_eq_equiv}
use Rattle.std.proofs.lemmas.List.Sums.{sum_by-cons}
use Rattle.flux_model.specs.Graph.{Graph}
use Rattle.flux_model.specs.Pattern.{fits_labels}
use Rattle.graph_rows.specs.Branches.{joins}

-- ---- one end

-- an end that fits leads to its vertex alone
pub joins_one : (g : Graph) (labels : List (List ℕ)) (w x : ℕ) (answer : Bool) → answer ≡ fits_labels g labels x → answer ≡ true → joins g labels w x ≡ (w == x)
joins_one g labels w x answer is holds = ap (λ b. b && x == w) (sym is ∙ holds) ∙ nat_eq_equiv.symm x w

-- ---- the count of the row's rest

-- what was counted and what the rest has come to the whole, one end further
pub late : (p : ℕ → Bool) (x : ℕ) (rest next : List ℕ) (more whole : ℕ) (b : Bool) → rest ≡ x ∷ next → p x ≡ b → more + count_by p rest ≡ whole → more + cond b 1 0 + count_by p next ≡ whole
late p x rest next more whole b is here before =
    let first = ap (count_by p) is ∙ sum_by-cons (λ y. cond (p y) 1 0) x next in
    let bit : ◌≡◌ {A = ℕ} (cond (p x) 1 0) (cond b 1 0) = λ i. cond (here i) 1 0 in
    omega (arith, first, bit, before)

-- past an end that does not count
pub late_same : (p : ℕ → Bool) (x : ℕ) (rest next : List ℕ) (more whole : ℕ) → rest ≡ x ∷ next → p x ≡ false → more + count_by p rest ≡ whole → more + count_by p next ≡ whole
late_same p x rest next more whole is here before =
    let turned = late p x rest next more whole false is here before in
    omega (arith, turned)

-- at an end that counts there is room for one more
pub not_last : (p : ℕ → Bool) (x : ℕ) (rest next : List ℕ) (more whole : ℕ) → rest ≡ x ∷ next → p x ≡ true → more + count_by p rest ≡ whole → more + 1 ≤ whole
not_last p x rest next more whole is here before =
    let turned = late p x rest next more whole true is here before in
    omega (arith, turned)

-- at the row's end the whole is counted
pub none_late : (p : ℕ → Bool) (rest : List ℕ) (more whole : ℕ) → rest ≡ [] → more + count_by p rest ≡ whole → more ≡ whole
none_late p rest more whole is before = omega (arith, ap (count_by p) is, before)
