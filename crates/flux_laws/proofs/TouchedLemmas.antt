-- In a connected pattern of several vertices, or with an edge, each vertex is the end of an edge.
use Rattle.std.proofs.Common.{◌≡◌, ◌⊎◌, inl, inr, ℕ, zero, suc, ◌<◌, ◌≤◌, Bool, true, false, ◌&&◌, ◌||◌, ◌==◌, List, [], ◌∷◌, length, get_or, refl, sym, ap, ◌∙◌, arith}
use Rattle.std.specs.Ordering.{nat_cmp, is_eq}
use Rattle.std.specs.List.{list_any, filter, range_with_len, AllByRecursion}
use Rattle.std.proofs.lemmas.Bool.Decides.{nat_tests}
use Rattle.std.proofs.lemmas.Bool.{eqb-true}
use Rattle.std.proofs.lemmas.List.FromFn.{get_or-range_with_len, length-range_with_len}
use Rattle.std.proofs.lemmas.List.Folds.{list_any_at}
use Rattle.std.proofs.lemmas.List.Sums.{length-filter, count_by-le-length}
use Rattle.std.proofs.lemmas.Map.Views.{any-filter_same}
use Rattle.flux_model.specs.Ordered.{is_in}
use Rattle.flux_model.specs.Pattern.{PatternGraph, IsPattern, HasEnds, vertex_count, is_next_to, reached}
use Rattle.flux_model.specs.declared.pattern.PatternEdge.{PatternEdge}
use Rattle.flux_laws.specs.VerticesLaws.{HasMore}
use Rattle.flux_laws.proofs.TestLemmas.{both, either, neither}

-- u is an end of the edge
abbrev pub touches : ℕ → PatternEdge → Bool
touches u e = e.tail == u || e.head == u

same_from_cmp : (u k : ℕ) → is_eq (nat_cmp u k) ≡ true → u ≡ k
same_from_cmp u k e = grind (arith, nat_tests)

cmp_self : (u k : ℕ) → k ≡ u → is_eq (nat_cmp u k) ≡ true
cmp_self u k e = grind (arith, nat_tests)

only_zero : (u : ℕ) → is_in nat_cmp u (0 ∷ []) ≡ true → u ≡ 0
only_zero u h = elim (either (is_eq (nat_cmp u 0)) false h) [ inl e ↦ same_from_cmp u 0 e | inr f ↦ cc ]

-- what is reached in one more step is reached before, or next to that
step : (edges : List PatternEdge) (n k u : ℕ) → is_in nat_cmp u (reached edges n (suc k)) ≡ true
    → (is_in nat_cmp u (reached edges n k) ≡ true) ⊎ (is_next_to edges (reached edges n k) u ≡ true)
step edges n k u h =
    either (is_in nat_cmp u (reached edges n k)) (is_next_to edges (reached edges n k) u)
    (both (near u) (is_in nat_cmp u (range_with_len 0 n))
    (sym (any-filter_same (λ w. is_eq (nat_cmp u w)) near (near u) (λ w e. ap near (sym (same_from_cmp u w e))) (range_with_len 0 n)) ∙ h)).0
  where
    near : ℕ → Bool
    near w = is_in nat_cmp w (reached edges n k) || is_next_to edges (reached edges n k) w

next_touches : (edges : List PatternEdge) (seen : List ℕ) (u : ℕ) → is_next_to edges seen u ≡ true → list_any (touches u) edges ≡ true
next_touches [] seen u h = cc
next_touches (e ∷ es) seen u h = by (e.head == u) (is_in nat_cmp e.tail seen) (e.tail == u) (is_in nat_cmp e.head seen) h (next_touches es seen u)
  where
    by : (a b c d : Bool) → (a && b || c && d) || is_next_to es seen u ≡ true → (is_next_to es seen u ≡ true → list_any (touches u) es ≡ true)
        → (c || a) || list_any (touches u) es ≡ true
    by a b true d h rest = refl
    by true b false d h rest = refl
    by false b false d h rest = rest h

touched_or_zero : (edges : List PatternEdge) (n k u : ℕ) → is_in nat_cmp u (reached edges n k) ≡ true → (u ≡ 0) ⊎ (list_any (touches u) edges ≡ true)
touched_or_zero edges n zero u h = inl (only_zero u h)
touched_or_zero edges n (suc k) u h =
    elim (step edges n k u h)
    [ inl before ↦ touched_or_zero edges n k u before | inr next ↦ inr (next_touches edges (reached edges n k) u next) ]

-- ---- where vertex 0 has no edge, nothing else is reached

not_seen : (v : ℕ) (seen : List ℕ) → (v == 0) ≡ false → ((w : ℕ) → is_in nat_cmp w seen ≡ true → w ≡ 0) → is_in nat_cmp v seen ≡ false
not_seen v seen other all = by (is_in nat_cmp v seen) refl
  where
    by : (b : Bool) → is_in nat_cmp v seen ≡ b → is_in nat_cmp v seen ≡ false
    by false e = e
    by true e = let zero_is : (v == 0) ≡ true = ap (λ k. k == 0) (all v e) in cc

none_next : (edges : List PatternEdge) (seen : List ℕ) (u : ℕ) → list_any (touches 0) edges ≡ false → ((w : ℕ) → is_in nat_cmp w seen ≡ true → w ≡ 0)
    → is_next_to edges seen u ≡ false
none_next [] seen u none all = refl
none_next (e ∷ es) seen u none all =
    let here = neither (touches 0 e) (list_any (touches 0) es) none in
    let ends = neither (e.tail == 0) (e.head == 0) here.0 in
    by (e.head == u) (is_in nat_cmp e.tail seen) (e.tail == u) (is_in nat_cmp e.head seen) (not_seen e.tail seen ends.0 all) (not_seen e.head seen ends.1 all)
    (none_next es seen u here.1 all)
  where
    by : (a b c d : Bool) → b ≡ false → d ≡ false → is_next_to es seen u ≡ false → (a && b || c && d) || is_next_to es seen u ≡ false
    by a true c d p q rest = cc
    by a false c true p q rest = cc
    by true false true false p q rest = rest
    by true false false false p q rest = rest
    by false false true false p q rest = rest
    by false false false false p q rest = rest

zero_alone : (edges : List PatternEdge) (n k u : ℕ) → list_any (touches 0) edges ≡ false → is_in nat_cmp u (reached edges n k) ≡ true → u ≡ 0
zero_alone edges n zero u none h = only_zero u h
zero_alone edges n (suc k) u none h =
    elim (step edges n k u h) [
      | inl before ↦ zero_alone edges n k u none before
      | inr next ↦ let never = none_next edges (reached edges n k) u none (λ w. zero_alone edges n k w none) in cc
    ]

-- ---- all are reached

filter_full : {X : Type 0} (p : X → Bool) (xs : List X) → length (filter p xs) ≡ length xs → filter p xs ≡ xs
filter_full p [] e = refl
filter_full p (x ∷ xs) e = by (p x) refl (filter_full p xs)
  where
    by : (b : Bool) → p x ≡ b → (length (filter p xs) ≡ length xs → filter p xs ≡ xs) → filter p (x ∷ xs) ≡ x ∷ xs
    by true q rest = let l : length (filter p xs) ≡ length xs = omega (arith, rw q at e) in rw q (ap (λ ys. x ∷ ys) (rest l))
    by false q rest =
        let l : length (filter p xs) ≡ length (x ∷ xs) = rw q at e in
        absurd (omega (arith, l, length-filter p xs, count_by-le-length p xs))

member : (edges : List PatternEdge) (n u : ℕ) → length (reached edges n n) ≡ n → u < n → is_in nat_cmp u (reached edges n n) ≡ true
member edges zero u whole h = absurd (omega arith)
member edges (suc k) u whole h =
    ap (is_in nat_cmp u)
    (filter_full (λ w. is_in nat_cmp w (reached edges (suc k) k) || is_next_to edges (reached edges (suc k) k) w) (range_with_len 0 (suc k))
    (whole ∙ sym (length-range_with_len 0 (suc k))))
    ∙ list_any_at (λ w. is_eq (nat_cmp u w)) (range_with_len 0 (suc k)) u 0 (omega (arith, length-range_with_len 0 (suc k)))
    (cmp_self u (get_or (range_with_len 0 (suc k)) u 0) (omega (arith, get_or-range_with_len 0 (suc k) u 0 h)))

many : (n : ℕ) → (1 < n) ⊎ (n ≤ 1)
many zero = inr (omega arith)
many (suc zero) = inr (omega arith)
many (suc (suc n)) = inl (omega arith)

first_edge : (edges : List PatternEdge) (n : ℕ) → 0 < length edges → AllByRecursion (HasEnds n) edges → n ≤ 1 → list_any (touches 0) edges ≡ true
first_edge [] n some ends few = absurd (omega arith)
first_edge (e ∷ es) n some ends few =
    let low : e.tail < n = ends.0.0 in
    let tail : e.tail ≡ 0 = omega arith in
    let is : (e.tail == 0) ≡ true = ap (λ k. k == 0) tail in
    rw is refl

zero_touched : (edges : List PatternEdge) (n : ℕ) → length (reached edges n n) ≡ n → AllByRecursion (HasEnds n) edges → (1 < n) ⊎ (0 < length edges)
    → list_any (touches 0) edges ≡ true
zero_touched edges n whole ends more =
    elim (many n) [ inl several ↦ by several (list_any (touches 0) edges) refl | inr few ↦ elim more [ inl several ↦ absurd (omega arith) | inr some ↦ first_edge edges n some ends few ] ]
  where
    by : 1 < n → (b : Bool) → list_any (touches 0) edges ≡ b → list_any (touches 0) edges ≡ true
    by several true e = e
    by several false e = absurd (omega (arith, zero_alone edges n n 1 e (member edges n 1 whole several)))

-- each vertex of such a pattern is the end of an edge
pub all_touched : (q : PatternGraph) → IsPattern q → HasMore q → (u : ℕ) → u < vertex_count q → list_any (touches u) q.edges ≡ true
all_touched q p more u h =
    let n : ℕ = vertex_count q in
    let whole : length (reached q.edges n n) ≡ n = eqb-true (length (reached q.edges n n)) n p.connected in
    elim (touched_or_zero q.edges n n u (member q.edges n u whole h))
    [ inl zero_is ↦ ap (λ w. list_any (touches w) q.edges) zero_is ∙ zero_touched q.edges n whole p.ends more | inr touched ↦ touched ]
