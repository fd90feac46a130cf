-- Marks, and the vertices that are reached.
use Rattle.std.proofs.Common.{◌≡◌, ℕ, zero, suc, ◌+◌, ◌<◌, ◌≤◌, Bool, true, false, ◌&&◌, ◌||◌, ◌==◌, List, [], ◌∷◌, length, get_or, set, take, drop, replicate, length-set, refl, sym, ap, ◌∙◌, arith}
use Rattle.std.proofs.lemmas.Bool.Decides.{nat_tests}
use Rattle.std.specs.Ordering.{nat_cmp, is_eq}
use Rattle.std.specs.List.{list_any, list_all, filter, range_with_len, AllByRecursion}
use Rattle.std.proofs.Math.Bool.{or_assoc, or-false, and-true}
use Rattle.std.proofs.lemmas.List.{drop_more, get_or-set_same, get_or-set_other}
use Rattle.std.proofs.lemmas.List.Folds.{list_any_at, list_any_more}
use Rattle.std.proofs.lemmas.List.FromFn.{get_or-range_with_len, length-range_with_len}
use Rattle.std.proofs.lemmas.List.Sums.{length-filter, count_by-le-length}
use Rattle.std.proofs.lemmas.Map.Views.{any-filter_same}
use borrow.Author.Tests.{eqb-true}
use Rattle.flux_model.specs.Ordered.{is_in}
use Rattle.flux_model.specs.Pattern.{HasEnds, is_next_to, reached}
use Rattle.flux_model.specs.declared.pattern.PatternEdge.{PatternEdge}
use Rattle.pattern_check.specs.MarkedVertices.{is_marked, marked, leads_to, is_near}
use Rattle.pattern_check.proofs.ListLemmas.{AllByRecursion-weaker}

-- ---- marks

eqb-refl : (n : ℕ) → (n == n) ≡ true
eqb-refl n = grind (arith, nat_tests)

-- a vertex is marked where it is or where b holds
pub is_marked-set : (marks : List Bool) (v : ℕ) (b : Bool) (u : ℕ) → v < length marks → is_marked (set marks v (is_marked marks v || b)) u ≡ (is_marked marks u || (v == u && b))
is_marked-set marks v b u h = by (v == u) refl
  where
    by : (t : Bool) → (v == u) ≡ t → is_marked (set marks v (is_marked marks v || b)) u ≡ (is_marked marks u || (v == u && b))
    by true e =
        let same : v ≡ u = eqb-true v u e in
        rw e (ap (is_marked (set marks v (is_marked marks v || b))) (sym same) ∙ get_or-set_same marks v (is_marked marks v || b) false h ∙ ap (λ k. is_marked marks k || b) same)
    by false e = rw e (get_or-set_other marks v u (is_marked marks v || b) false (other e) ∙ sym (or-false (is_marked marks u)))
      where
        other : (v == u) ≡ false → u ≡ v → ⊥
        other e f = let g : (v == u) ≡ true = ap (λ k. v == k) f ∙ eqb-refl v in cc

-- ---- the marked vertices

same_from_cmp : (u k : ℕ) → is_eq (nat_cmp u k) ≡ true → u ≡ k
same_from_cmp u k e = grind (arith, nat_tests)

cmp_self : (u k : ℕ) → k ≡ u → is_eq (nat_cmp u k) ≡ true
cmp_self u k e = grind (arith, nat_tests)

in_range : (u n : ℕ) → u < n → is_in nat_cmp u (range_with_len 0 n) ≡ true
in_range u n h =
    list_any_at (λ k. is_eq (nat_cmp u k)) (range_with_len 0 n) u 0 (omega (arith, length-range_with_len 0 n)) (cmp_self u (get_or (range_with_len 0 n) u 0) (omega (arith, get_or-range_with_len 0 n u 0 h)))

in_marked : (marks : List Bool) (n u : ℕ) → u < n → is_in nat_cmp u (marked marks n) ≡ is_marked marks u
in_marked marks n u h =
    any-filter_same (λ k. is_eq (nat_cmp u k)) (is_marked marks) (is_marked marks u) (λ k e. ap (is_marked marks) (sym (same_from_cmp u k e))) (range_with_len 0 n)
    ∙ ap (λ b. is_marked marks u && b) (in_range u n h) ∙ and-true (is_marked marks u)

next_to_marked : (edges : List PatternEdge) (marks : List Bool) (n u : ℕ) → AllByRecursion (HasEnds n) edges → list_any (leads_to marks u) edges ≡ is_next_to edges (marked marks n) u
next_to_marked [] marks n u ends = refl
next_to_marked (e ∷ edges) marks n u ends =
    (λ i. ((e.head == u && sym (in_marked marks n e.tail ends.0.0) i) || (e.tail == u && sym (in_marked marks n e.head ends.0.1) i)) || next_to_marked edges marks n u ends.1 i)

filter_alike : (p q : ℕ → Bool) (s n : ℕ) → ((u : ℕ) → u < s + n → p u ≡ q u) → filter p (range_with_len s n) ≡ filter q (range_with_len s n)
filter_alike p q s zero h = refl
filter_alike p q s (suc n) h = by (q s) refl (filter_alike p q (s + 1) n (λ u l. h u (omega arith)))
  where
    first : p s ≡ q s
    first = h s (omega arith)

    by : (b : Bool) → q s ≡ b → filter p (range_with_len (s + 1) n) ≡ filter q (range_with_len (s + 1) n) → filter p (range_with_len s (suc n)) ≡ filter q (range_with_len s (suc n))
    by true e rest = rw (first, e) (ap (λ l. s ∷ l) rest)
    by false e rest = rw (first, e) rest

-- ---- one round further

-- ends below n are below 32
pub ends_within : (n : ℕ) (edges : List PatternEdge) → n ≤ 32 → AllByRecursion (HasEnds n) edges → AllByRecursion (HasEnds 32) edges
ends_within n edges few ends = AllByRecursion-weaker (HasEnds n) (HasEnds 32) (λ e h. (omega (arith, h.0), omega (arith, h.1))) edges ends

-- one step of the search reaches what one step of the definition does
pub reached_more : (edges : List PatternEdge) (n k : ℕ) (before after : List Bool) → n ≤ 32 → AllByRecursion (HasEnds n) edges → marked before n ≡ reached edges n k → ((u : ℕ) → u < 32 → is_marked after u ≡ is_near edges before u) → marked after n ≡ reached edges n (k + 1)
reached_more edges n k before after few ends e near =
    filter_alike (is_marked after) (λ u. is_in nat_cmp u (marked before n) || is_next_to edges (marked before n) u) 0 n
    (λ u h. near u (omega arith) ∙ (λ i. sym (in_marked before n u (omega arith)) i || next_to_marked edges before n u ends i))
    ∙ ap (λ (seen : List ℕ). filter (λ u. is_in nat_cmp u seen || is_next_to edges seen u) (range_with_len 0 n)) e
    ∙ ap (reached edges n) further
  where
    further : suc k ≡ k + 1
    further = omega arith

-- the marks after an edge was followed both ways
abbrev pub along : List Bool → PatternEdge → List Bool → List Bool
along seen e next =
    let there = set next e.head (is_marked next e.head || is_marked seen e.tail) in
    set there e.tail (is_marked there e.tail || is_marked seen e.head)

-- an edge leaves the number of marks
pub length-along : (seen : List Bool) (e : PatternEdge) (next : List Bool) → length (along seen e next) ≡ length next
length-along seen e next = simp length-set

is_marked-along : (seen : List Bool) (e : PatternEdge) (next : List Bool) (u : ℕ) → e.head < length next → e.tail < length next → is_marked (along seen e next) u ≡ (is_marked next u || leads_to seen u e)
is_marked-along seen e next u head tail =
    let there = set next e.head (is_marked next e.head || is_marked seen e.tail) in
    is_marked-set there e.tail (is_marked seen e.head) u (omega (arith, length-set next e.head (is_marked next e.head || is_marked seen e.tail)))
    ∙ ap (λ b. b || (e.tail == u && is_marked seen e.head)) (is_marked-set next e.head (is_marked seen e.tail) u head)
    ∙ or_assoc (is_marked next u) (e.head == u && is_marked seen e.tail) (e.tail == u && is_marked seen e.head)

-- one edge further in a round
pub near_more : (edges : List PatternEdge) (i : ℕ) (e : PatternEdge) (seen next : List Bool) (u : ℕ) → i < length edges → e ≡ get_or edges i e → e.head < length next → e.tail < length next
    → is_marked next u ≡ is_near (take i edges) seen u → is_marked (along seen e next) u ≡ is_near (take (i + 1) edges) seen u
near_more edges i e seen next u within is head tail before =
    is_marked-along seen e next u head tail
    ∙ ap (λ b. b || leads_to seen u e) before
    ∙ or_assoc (is_marked seen u) (list_any (leads_to seen u) (take i edges)) (leads_to seen u e)
    ∙ ap (λ b. is_marked seen u || b)
    (ap (λ f. list_any (leads_to seen u) (take i edges) || leads_to seen u f) is
    ∙ sym (list_any_more (leads_to seen u) edges i e within))

-- ---- the first and the last round

none_marked : (marks : List Bool) (s n : ℕ) → ((u : ℕ) → s ≤ u → is_marked marks u ≡ false) → filter (is_marked marks) (range_with_len s n) ≡ []
none_marked marks s zero h = refl
none_marked marks s (suc n) h = rw (h s (omega arith)) (none_marked marks (s + 1) n (λ u l. h u (omega arith)))

unmarked : (n u : ℕ) → is_marked (replicate n false) u ≡ false
unmarked zero u = refl
unmarked (suc n) zero = refl
unmarked (suc n) (suc u) = unmarked n u

-- at first vertex 0 alone is marked
pub reached_none : (edges : List PatternEdge) (n m : ℕ) → 1 ≤ n → marked (set (replicate (suc m) false) 0 true) n ≡ reached edges n 0
reached_none edges zero m some = absurd (omega arith)
reached_none edges (suc n) m some = ap (λ l. 0 ∷ l) (none_marked (true ∷ replicate m false) (0 + 1) n later)
  where
    later : (u : ℕ) → 0 + 1 ≤ u → is_marked (true ∷ replicate m false) u ≡ false
    later zero h = absurd (omega arith)
    later (suc u) h = unmarked m u

count_all : (p : ℕ → Bool) (s n : ℕ) → list_all p (range_with_len s n) ≡ (length (filter p (range_with_len s n)) == n)
count_all p s zero = refl
count_all p s (suc n) = by (p s) refl (count_all p (s + 1) n)
  where
    few : (xs : List ℕ) → length (filter p xs) ≤ length xs
    few xs = omega (arith, length-filter p xs, count_by-le-length p xs)

    less : (k : ℕ) → k ≤ n → false ≡ (k == suc n)
    less k h = grind (arith, nat_tests)

    next : (k : ℕ) → (k == n) ≡ (suc k == suc n)
    next k = grind (arith, nat_tests)

    by : (b : Bool) → p s ≡ b → list_all p (range_with_len (s + 1) n) ≡ (length (filter p (range_with_len (s + 1) n)) == n) → list_all p (range_with_len s (suc n)) ≡ (length (filter p (range_with_len s (suc n))) == suc n)
    by true e rest = rw e (rest ∙ next (length (filter p (range_with_len (s + 1) n))))
    by false e rest = rw e (less (length (filter p (range_with_len (s + 1) n))) (omega (arith, few (range_with_len (s + 1) n), length-range_with_len (s + 1) n)))

all_marked : (marks : List Bool) (s n : ℕ) → s + n ≤ length marks → list_all (λ b. b) (take n (drop s marks)) ≡ list_all (is_marked marks) (range_with_len s n)
all_marked marks s zero h = refl
all_marked marks s (suc n) h =
    ap (λ l. list_all (λ b. b) (take (suc n) l)) (drop_more marks s false (omega arith))
    ∙ ap (λ b. is_marked marks s && b) (all_marked marks (s + 1) n (omega arith))

-- all are marked exactly where as many are reached as there are
pub connected_is : (edges : List PatternEdge) (n : ℕ) (marks : List Bool) → n ≤ length marks → marked marks n ≡ reached edges n n → list_all (λ b. b) (take n marks) ≡ (length (reached edges n n) == n)
connected_is edges n marks h e =
    all_marked marks 0 n (omega arith) ∙ count_all (is_marked marks) 0 n ∙ ap (λ (l : List ℕ). length l == n) e
