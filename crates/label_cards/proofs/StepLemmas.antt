-- The steps of a pass, by the vertices and the triples that it has come to.
use Rattle.std.proofs.Common.{◌≡◌, ℕ, zero, suc, ◌+◌, ◌*◌, ◌<◌, ◌≤◌, ◌==◌, ◌||◌, Bool, true, false, cond, List, [], ◌∷◌, length, take, Some, refl, ap, ◌∙◌, arith}
use Rattle.std.specs.Prelude.{count_by, nat_eq, slice_get, IsPermutation}
use Rattle.std.specs.Cmp.{nat_eq_equiv}
use Rattle.std.specs.List.{sum_by, list_any, AllByRecursion, IsDistinct}
use Rattle.std.proofs.Math.Nat.{add-mul, mul_assoc, mul_comm, mul-le-mul_right}
use Rattle.std.proofs.lemmas.Bool.{eq-eqb}
use Rattle.std.proofs.lemmas.List.{take_all}
use Rattle.std.proofs.lemmas.List.Sums.{sum_by-cons, sum_by_more}
use Rattle.std.proofs.lemmas.Map.Steps.{length-le_from_distinct_below}
use Rattle.std.proofs.lemmas.Nat.{mul-le}
use Rattle.std.proofs.lemmas.Option.{get_or_from_slice_get, slice_get_within}
use Rattle.flux_model.specs.Costs.{start_cost}
use Rattle.flux_model.specs.Graph.{Graph, IsGraph, ids}
use Rattle.flux_model.specs.Pattern.{PatternGraph, IsPattern}
use Rattle.graph_rows.specs.Directions.{whole_row}
use Rattle.graph_rows.specs.declared.direction.Direction.TheVariants.{Out}
use Rattle.graph_rows.proofs.RowSumLemmas.{rows_length, rows_next, rows_at_end}
use Rattle.label_cards.specs.Plans.{row_at, test_at, is_number, AreRowsOf}
use Rattle.label_cards.specs.declared.plan.TripleTest.{TripleTest}

-- ---- a row of tests has no more places than there are tests

none_there : (x : ℕ) (xs : List ℕ) → count_by (λ y. y == x) xs ≡ 0 → AllByRecursion (λ y. nat_eq x y ≡ false) xs
none_there x [] none = tt
none_there x (y ∷ ys) none = by (y == x) refl (none_there x ys)
  where
    by : (b : Bool) → (y == x) ≡ b → (count_by (λ z. z == x) ys ≡ 0 → AllByRecursion (λ z. nat_eq x z ≡ false) ys) → AllByRecursion (λ z. nat_eq x z ≡ false) (y ∷ ys)
    by true e later =
        let here : ◌≡◌ {A = ℕ} (cond (y == x) 1 0) 1 = ap (λ b. cond b 1 0) e in
        absurd (omega (arith, none, here, sum_by-cons (λ z. cond (z == x) 1 0) y ys))
    by false e later = (nat_eq_equiv.symm x y ∙ e, later (omega (arith, none, sum_by-cons (λ z. cond (z == x) 1 0) y ys)))

distinct_by_counts : (xs : List ℕ) → ((p : ℕ) → count_by (λ x. x == p) xs ≤ 1) → IsDistinct nat_eq xs
unfolding IsDistinct
distinct_by_counts [] few = tt
distinct_by_counts (x ∷ xs) few =
    let here : ◌≡◌ {A = ℕ} (cond (x == x) 1 0) 1 = ap (λ b. cond b 1 0) (eq-eqb x x refl) in
    (none_there x xs (omega (arith, few x, here, sum_by-cons (λ z. cond (z == x) 1 0) x xs)), distinct_by_counts xs (λ p. omega (arith, few p, sum_by-cons (λ z. cond (z == p) 1 0) x xs)))

some_there : (x : ℕ) (xs : List ℕ) → list_any (nat_eq x) xs ≡ true → 1 ≤ count_by (λ y. y == x) xs
some_there x [] there = cc
some_there x (y ∷ ys) there = by (y == x) refl (some_there x ys)
  where
    by : (b : Bool) → (y == x) ≡ b → (list_any (nat_eq x) ys ≡ true → 1 ≤ count_by (λ z. z == x) ys) → 1 ≤ count_by (λ z. z == x) (y ∷ ys)
    by true e behind =
        let here : ◌≡◌ {A = ℕ} (cond (y == x) 1 0) 1 = ap (λ b. cond b 1 0) e in
        omega (arith, here, sum_by-cons (λ z. cond (z == x) 1 0) y ys)
    by false e behind = omega (arith, behind (later (nat_eq x y) (nat_eq_equiv.symm x y ∙ e) there), sum_by-cons (λ z. cond (z == x) 1 0) y ys)
      where
        later : (b : Bool) → b ≡ false → (b || list_any (nat_eq x) ys) ≡ true → list_any (nat_eq x) ys ≡ true
        later false is there = there
        later true is there = cc

number_within : (tests : List TripleTest) (p n : ℕ) → is_number (test_at tests p).label n ≡ true → p < length tests
number_within [] p n is = cc
number_within (z ∷ zs) zero n is = omega arith
number_within (z ∷ zs) (suc p) n is = omega (arith, number_within zs p n is)

pub row_few : {tests : List TripleTest} {rows : _} → AreRowsOf tests rows → (n : ℕ) → length (row_at rows n) ≤ length tests
row_few {tests} {rows} is n =
    length-le_from_distinct_below (row_at rows n) (length tests)
    (distinct_by_counts (row_at rows n) (λ p. omega (arith, is.once n p, at_most (is_number (test_at tests p).label n))))
    (λ p there. number_within tests p n (once_or (is_number (test_at tests p).label n) (omega (arith, is.once n p, some_there p (row_at rows n) there))))
  where
    at_most : (b : Bool) → cond b 1 0 ≤ 1
    at_most true = omega arith
    at_most false = omega arith

    once_or : (b : Bool) → 1 ≤ cond b 1 0 → b ≡ true
    once_or true some = refl
    once_or false some = absurd (omega (arith, some))

-- ---- the vertices that are listed

-- one further
pub pass-next : (g : Graph) (listed : List ℕ) (i v w first old new : ℕ) → slice_get listed i ≡ Some v → old ≤ first + 3 * i + rows_length Out g (take i listed) * w
    → new ≤ old + 3 + length (whole_row Out g v) * w → new ≤ first + 3 * (i + 1) + rows_length Out g (take (i + 1) listed) * w
pass-next g listed i v w first old new at before cost =
    let further : rows_length Out g (take (i + 1) listed) * w ≡ rows_length Out g (take i listed) * w + length (whole_row Out g v) * w =
    ap (λ n. n * w) (rows_next Out g listed i v at) ∙ add-mul (rows_length Out g (take i listed)) (length (whole_row Out g v)) w in
    omega (arith, further, before, cost)

-- all of them
pub pass-end : (g : Graph) (listed : List ℕ) (i w first steps : ℕ) → IsGraph g → IsPermutation listed (ids g) → i ≡ length g.vertices
    → steps ≤ first + 3 * i + rows_length Out g (take i listed) * w → steps ≤ first + 3 * length g.vertices + length g.triples * w
pass-end g listed i w first steps is all end before =
    let whole : rows_length Out g (take i listed) * w ≡ length g.triples * w = ap (λ n. n * w) (rows_at_end Out g listed i is all (omega (arith, end))) in
    omega (arith, whole, end, before)

-- ---- a pass costs at most a quarter of the starts

-- by plain numbers: s is at least the number of tests and one, x what a start costs for each of them
paid : (s x v e t : ℕ) → 1 ≤ s → t + 1 ≤ s → v ≤ x → e ≤ x → 4 * (3 * v + e * (1 + t)) ≤ 32 * s * x
paid s x v e t some tests vertices triples =
    let first : 1 * v ≤ s * x = mul-le 1 v s x some vertices in
    let second : e * (1 + t) ≤ x * s = mul-le e (1 + t) x s triples (omega (arith, tests)) in
    let turned : x * s ≡ s * x = mul_comm x s in
    let whole : 32 * s * x ≡ 32 * (s * x) = mul_assoc 32 s x in
    omega (arith, first, second, turned, whole)

abbrev size : Graph → ℕ
size g = length g.vertices + 2 * length g.triples + 1

-- the plan of one pattern
pub pattern_paid : (g : Graph) (q : PatternGraph) (tests old new : ℕ) → IsPattern q → tests ≤ length q.edges
    → new ≤ old + 3 * length g.vertices + length g.triples * (1 + tests) → 4 * new ≤ 4 * old + start_cost q g
pattern_paid g q tests old new is few cost =
    let some = is.some_vertex in
    let most = paid (length q.labels + length q.edges) (size g) (length g.vertices) (length g.triples) tests (omega (arith, some)) (omega (arith, some, few)) (omega arith) (omega arith) in
    omega (arith, most, cost)

-- one pattern more
pub starts-next : (g : Graph) (qs : List PatternGraph) (k : ℕ) (q : PatternGraph) (old new : ℕ) → slice_get qs k ≡ Some q → IsPattern q → new ≤ old + length q.edges
    → 32 * (k + old) * size g ≤ sum_by (λ p. start_cost p g) (take k qs) → 32 * (k + 1 + new) * size g ≤ sum_by (λ p. start_cost p g) (take (k + 1) qs)
starts-next g qs k q old new at is few before =
    let starts = λ (p : PatternGraph). start_cost p g in
    let further = sum_by_more starts qs k q (slice_get_within qs k q at) ∙ ap (λ p. sum_by starts (take k qs) + starts p) (get_or_from_slice_get qs k q q at) in
    let wider : 32 * (k + 1 + new) * size g ≤ (32 * (k + old) + 32 * (length q.labels + length q.edges)) * size g = mul-le-mul_right (size g) (omega (arith, is.some_vertex, few)) in
    let parts : (32 * (k + old) + 32 * (length q.labels + length q.edges)) * size g ≡ 32 * (k + old) * size g + 32 * (length q.labels + length q.edges) * size g =
    add-mul (32 * (k + old)) (32 * (length q.labels + length q.edges)) (size g) in
    omega (arith, further, wider, parts, before)

-- the plan of all patterns
pub patterns_paid : (g : Graph) (qs : List PatternGraph) (k tests old new : ℕ) → 1 ≤ k → length qs ≤ k → 32 * (k + tests) * size g ≤ sum_by (λ p. start_cost p g) (take k qs)
    → new ≤ old + 3 * length g.vertices + length g.triples * (1 + tests) → 4 * new ≤ 4 * old + sum_by (λ p. start_cost p g) qs
patterns_paid g qs k tests old new some end before cost =
    let most = paid (k + tests) (size g) (length g.vertices) (length g.triples) tests (omega (arith, some)) (omega (arith, some)) (omega arith) (omega arith) in
    let all = ap (sum_by (λ (p : PatternGraph). start_cost p g)) (take_all k qs end) in
    omega (arith, most, all, before, cost)
