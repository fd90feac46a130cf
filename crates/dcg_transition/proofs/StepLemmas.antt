-- The steps of a build: a row of a vertex, the rows of a pattern vertex, its levels, and all of them.
use Rattle.std.proofs.Common.{◌≡◌, ℕ, ◌+◌, ◌-◌, ◌*◌, ◌<◌, ◌≤◌, ◌==◌, nat_lt, Bool, true, false, cond, List, length, take, inl, inr, sym, ap, ◌∙◌, arith}
use Rattle.std.specs.Prelude.{◌⊎◌, Some, count_by, nat_eq, slice_get}
use Rattle.std.specs.Cmp.{nat_eq_equiv}
use Rattle.std.specs.List.{list_any, IsDistinct}
use Rattle.std.proofs.Math.Nat.{add-mul, mul-add, mul_assoc, mul-le-mul_right}
use Rattle.std.proofs.lemmas.Bool.{eq-eqb, ne_eqb, lt-ltb, le-ltb, cases_eq, cases_lt}
use Rattle.std.proofs.lemmas.List.{length-map, take_all}
use Rattle.std.proofs.lemmas.List.Sums.{sum_by_more, count_by-le-length}
use Rattle.std.proofs.lemmas.Map.Made.{length-le_from_is_member}
use Rattle.std.proofs.lemmas.Nat.{mul-le}
use Rattle.std.proofs.lemmas.Option.{get_or_from_slice_get, slice_get_within}
use Rattle.flux_model.specs.Costs.{start_cost}
use Rattle.flux_model.specs.Graph.{Graph, ids, has_vertex}
use Rattle.flux_model.specs.Pattern.{PatternGraph, vertex_count}
use Rattle.flux_model.specs.declared.graph.Vertex.{Vertex}
use Rattle.graph_rows.specs.Directions.{whole_row}
use Rattle.graph_rows.specs.declared.direction.Direction.{Direction}
use Rattle.graph_rows.proofs.RowSumLemmas.{rows_length, rows_next, rows_before_of_some}
use Rattle.graph_rows.proofs.SumLemmas.{sum_alike, sum_both, listed_id}

-- ---- the rows of some vertices

-- one further
pub rows-turn : (direction : Direction) (g : Graph) (vs : List ℕ) (i v first old new : ℕ) → slice_get vs i ≡ Some v → old ≤ first + i + 3 * rows_length direction g (take i vs)
    → new ≤ old + 1 + 3 * length (whole_row direction g v) → new ≤ first + (i + 1) + 3 * rows_length direction g (take (i + 1) vs)
rows-turn direction g vs i v first old new at before cost = omega (arith, rows_next direction g vs i v at, before, cost)

-- distinct vertices of a graph are no more than it has
vertices_few : (g : Graph) (vs : List ℕ) → IsDistinct nat_eq vs → ((v : ℕ) → list_any (nat_eq v) vs ≡ true → has_vertex g v ≡ true) → length vs ≤ length g.vertices
vertices_few g vs distinct stand =
    let few = length-le_from_is_member nat_eq_equiv vs (ids g) distinct (λ v there. sym (listed_id g v) ∙ stand v there) in
    omega (arith, few, length-map g.vertices (λ (v : Vertex). v.id))

-- all of them
pub rows-end : (direction : Direction) (g : Graph) (vs : List ℕ) (i first steps : ℕ) → IsDistinct nat_eq vs → ((v : ℕ) → list_any (nat_eq v) vs ≡ true → has_vertex g v ≡ true) → i ≤ length vs
    → steps ≤ first + i + 3 * rows_length direction g (take i vs) → steps ≤ first + (length g.vertices + 3 * length g.triples)
rows-end direction g vs i first steps distinct stand within before =
    omega (arith, vertices_few g vs distinct stand, rows_before_of_some direction g vs i distinct, within, before)

-- ---- one level: w for each vertex on it

abbrev pub on_level : ℕ → List ℕ → ℕ
on_level level depths = count_by (λ d. d == level) depths

level-more : (level : ℕ) (depths : List ℕ) (u d w : ℕ) → slice_get depths u ≡ Some d → on_level level (take (u + 1) depths) * w ≡ on_level level (take u depths) * w + cond (d == level) 1 0 * w
level-more level depths u d w at =
    let further = sum_by_more (λ x. cond (x == level) 1 0) depths u d (slice_get_within depths u d at) ∙ ap (λ x. on_level level (take u depths) + cond (x == level) 1 0) (get_or_from_slice_get depths u d d at) in
    ap (λ n. n * w) further ∙ add-mul (on_level level (take u depths)) (cond (d == level) 1 0) w

-- past a vertex of another level
pub level-skipped : (level : ℕ) (depths : List ℕ) (u d w first steps : ℕ) → slice_get depths u ≡ Some d → steps ≤ first + on_level level (take u depths) * w
    → steps ≤ first + on_level level (take (u + 1) depths) * w
level-skipped level depths u d w first steps at before = omega (arith, level-more level depths u d w at, before)

-- past one of it
pub level-next : (level : ℕ) (depths : List ℕ) (u d w first old new : ℕ) → slice_get depths u ≡ Some d → d ≡ level → old ≤ first + on_level level (take u depths) * w → new ≤ old + w
    → new ≤ first + on_level level (take (u + 1) depths) * w
level-next level depths u d w first old new at same before cost =
    let one : cond (d == level) 1 0 * w ≡ 1 * w = ap (λ b. cond b 1 0 * w) (eq-eqb d level same) in
    omega (arith, level-more level depths u d w at, one, before, cost)

-- all of it
pub level-end : (level : ℕ) (depths : List ℕ) (u w first steps : ℕ) → length depths ≤ u → steps ≤ first + on_level level (take u depths) * w → steps ≤ first + on_level level depths * w
level-end level depths u w first steps end before = omega (arith, ap (λ ds. on_level level ds * w) (take_all u depths end), before)

-- ---- the levels

count_parts : (p q r : ℕ → Bool) (xs : List ℕ) → ((x : ℕ) → ◌≡◌ {A = ℕ} (cond (r x) 1 0) (cond (p x) 1 0 + cond (q x) 1 0)) → count_by r xs ≡ count_by p xs + count_by q xs
count_parts p q r xs each =
    sum_alike (λ x. cond (r x) 1 0) (λ x. cond (p x) 1 0 + cond (q x) 1 0) xs each ∙ sum_both (λ x. cond (p x) 1 0) (λ x. cond (q x) 1 0) xs

bits : (a b c x y z : Bool) → a ≡ x → b ≡ y → c ≡ z → ◌≡◌ {A = ℕ} (cond x 1 0) (cond y 1 0 + cond z 1 0) → ◌≡◌ {A = ℕ} (cond a 1 0) (cond b 1 0 + cond c 1 0)
bits a b c x y z ea eb ec is =
    ap {B = ℕ} (λ s. cond s 1 0) ea ∙ is ∙ (λ i. cond (sym eb i) 1 0 + cond (sym ec i) 1 0)

-- from the root's down
abbrev pub above_level : ℕ → List ℕ → ℕ
above_level level depths = count_by (λ d. nat_lt d level) depths

above-one : (level d : ℕ) → ◌≡◌ {A = ℕ} (cond (nat_lt d (level + 1)) 1 0) (cond (nat_lt d level) 1 0 + cond (d == level) 1 0)
above-one level d = by (cases_lt d level) (cases_eq d level)
  where
    by : (d < level) ⊎ (level ≤ d) → (d ≡ level) ⊎ (d ≡ level → ⊥) → ◌≡◌ {A = ℕ} (cond (nat_lt d (level + 1)) 1 0) (cond (nat_lt d level) 1 0 + cond (d == level) 1 0)
    by (inl less) e =
        bits (nat_lt d (level + 1)) (nat_lt d level) (d == level) true true false (lt-ltb d (level + 1) (omega (arith, less))) (lt-ltb d level less) (ne_eqb d level (λ same. absurd (omega (arith, same, less)))) (omega arith)
    by (inr more) (inl same) =
        bits (nat_lt d (level + 1)) (nat_lt d level) (d == level) true false true (lt-ltb d (level + 1) (omega (arith, same))) (le-ltb d level more) (eq-eqb d level same) (omega arith)
    by (inr more) (inr other) =
        bits (nat_lt d (level + 1)) (nat_lt d level) (d == level) false false false (le-ltb d (level + 1) (omega (arith, more, other))) (le-ltb d level more) (ne_eqb d level other) (omega arith)

pub above-next : (level : ℕ) (depths : List ℕ) (w first old new : ℕ) → old ≤ first + above_level level depths * w → new ≤ old + on_level level depths * w → new ≤ first + above_level (level + 1) depths * w
above-next level depths w first old new before cost =
    let further : above_level (level + 1) depths * w ≡ above_level level depths * w + on_level level depths * w =
    ap (λ n. n * w) (count_parts (λ d. nat_lt d level) (λ d. d == level) (λ d. nat_lt d (level + 1)) depths (above-one level)) ∙ add-mul (above_level level depths) (on_level level depths) w in
    omega (arith, further, before, cost)

pub above-end : (level : ℕ) (depths : List ℕ) (n w first steps : ℕ) → length depths ≡ n → steps ≤ first + above_level level depths * w → steps ≤ first + n * w
above-end level depths n w first steps long before =
    let most : above_level level depths * w ≤ n * w = mul-le-mul_right w (omega (arith, count_by-le-length (λ d. nat_lt d level) depths, long)) in
    omega (arith, most, before)

-- from the leaves' up
abbrev pub below_level : ℕ → List ℕ → ℕ
below_level level depths = count_by (λ d. nat_lt level d) depths

below-one : (level d : ℕ) → 0 < level → ◌≡◌ {A = ℕ} (cond (nat_lt (level - 1) d) 1 0) (cond (nat_lt level d) 1 0 + cond (d == level) 1 0)
below-one level d some = by (cases_lt level d) (cases_eq d level)
  where
    by : (level < d) ⊎ (d ≤ level) → (d ≡ level) ⊎ (d ≡ level → ⊥) → ◌≡◌ {A = ℕ} (cond (nat_lt (level - 1) d) 1 0) (cond (nat_lt level d) 1 0 + cond (d == level) 1 0)
    by (inl more) e =
        bits (nat_lt (level - 1) d) (nat_lt level d) (d == level) true true false (lt-ltb (level - 1) d (omega (arith, more))) (lt-ltb level d more) (ne_eqb d level (λ same. absurd (omega (arith, same, more)))) (omega arith)
    by (inr less) (inl same) =
        bits (nat_lt (level - 1) d) (nat_lt level d) (d == level) true false true (lt-ltb (level - 1) d (omega (arith, same, some))) (le-ltb level d less) (eq-eqb d level same) (omega arith)
    by (inr less) (inr other) =
        bits (nat_lt (level - 1) d) (nat_lt level d) (d == level) false false false (le-ltb (level - 1) d (omega (arith, less, other))) (le-ltb level d less) (ne_eqb d level other) (omega arith)

pub below-next : (level next : ℕ) (depths : List ℕ) (w first old new : ℕ) → 0 < level → next ≡ level - 1 → old ≤ first + below_level level depths * w → new ≤ old + on_level level depths * w
    → new ≤ first + below_level next depths * w
below-next level next depths w first old new some is before cost =
    let further : below_level (level - 1) depths * w ≡ below_level level depths * w + on_level level depths * w =
    ap (λ n. n * w) (count_parts (λ d. nat_lt level d) (λ d. d == level) (λ d. nat_lt (level - 1) d) depths (λ d. below-one level d some)) ∙ add-mul (below_level level depths) (on_level level depths) w in
    let same : below_level next depths * w ≡ below_level (level - 1) depths * w = ap (λ k. below_level k depths * w) is in
    omega (arith, further, same, before, cost)

pub below-end : (level : ℕ) (depths : List ℕ) (n w first steps : ℕ) → length depths ≡ n → steps ≤ first + below_level level depths * w → steps ≤ first + n * w
below-end level depths n w first steps long before =
    let most : below_level level depths * w ≤ n * w = mul-le-mul_right w (omega (arith, count_by-le-length (λ d. nat_lt level d) depths, long)) in
    omega (arith, most, before)

-- ---- a build costs at most three quarters of a start

-- by plain numbers: s is at least the number of pattern vertices and 1, x what a start costs for each of them
paid : (s x n v w : ℕ) → 1 ≤ s → n ≤ s → v ≤ x → w ≤ x + x → 4 * (3 * v + n * w + n * w) ≤ 3 * (32 * s * x)
paid s x n v w some few vertices rows =
    let first : 1 * v ≤ s * x = mul-le 1 v s x some vertices in
    let second : n * w ≤ s * (x + x) = mul-le n w s (x + x) few rows in
    let twice : s * (x + x) ≡ s * x + s * x = mul-add s x x in
    let whole : 32 * s * x ≡ 32 * (s * x) = mul_assoc 32 s x in
    omega (arith, first, second, twice, whole)

-- by a caller who lists the vertices that fit the root, which takes two steps for each vertex
pub build_paid : (g : Graph) (q : PatternGraph) (n old mid new : ℕ) → n ≡ vertex_count q → 0 < n → mid ≤ old + length g.vertices + n * (length g.vertices + 3 * length g.triples)
    → new ≤ mid + n * (length g.vertices + 3 * length g.triples) → 4 * (new + 2 * length g.vertices) ≤ 4 * old + 3 * start_cost q g
build_paid g q n old mid new is some first second =
    let most = paid (length q.labels + length q.edges) (length g.vertices + 2 * length g.triples + 1) n (length g.vertices) (length g.vertices + 3 * length g.triples)
    (omega (arith, is, some)) (omega (arith, is)) (omega arith) (omega arith) in
    omega (arith, most, first, second)
