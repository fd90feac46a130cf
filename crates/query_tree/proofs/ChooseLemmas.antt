-- The root, and the steps that are left.
use Rattle.std.proofs.Common.{◌≡◌, ℕ, suc, ◌+◌, ◌-◌, ◌<◌, ◌≤◌, true, false, is_some, ◌||◌, ◌==◌, List, [], ◌∷◌, length, Option, Some, None, Result, Ok, Err, slice_index, refl, sym, ap, subst, ◌∙◌, arith}
use Rattle.std.specs.Prelude.{IfOk}
use Rattle.std.specs.declared.alloc.AllocError.{AllocError}
use Rattle.std.specs.Option.{unwrap_or}
use Rattle.std.specs.List.{filter, range_with_len, slice_get}
use Rattle.std.proofs.lemmas.Bool.{eq-eqb, or_left}
use Rattle.std.proofs.lemmas.Option.{get_or_from_slice_get}
use Rattle.flux_model.specs.Pattern.{PatternGraph, vertex_count, IsPattern}
use Rattle.flux_model.specs.Tree.{QueryTree, least, next_tree, tree_after, root_of, tree_for, BelongsTo}
use Rattle.flux_model.specs.declared.pattern.PatternEdge.{PatternEdge}
use Rattle.query_tree.specs.Choice.{lower_end}
use Rattle.query_tree.proofs.LeastLemmas.{least_none}
use Rattle.query_tree.proofs.NumberLemmas.{no_number}
use Rattle.query_tree.proofs.GrowthLemmas.{tree_belongs}

-- ---- the root

filter_true : (xs : List ℕ) → filter (λ _. true) xs ≡ xs
filter_true [] = refl
filter_true (x ∷ xs) = ap (λ l. x ∷ l) (filter_true xs)

-- the first place of the least key
abbrev pub least_of_all : List ℕ → Option ℕ
least_of_all edges = least (slice_index edges) (filter (λ _. true) (range_with_len 0 (length edges)))

module _ (q : PatternGraph) (edges vertices : List ℕ) (many : length edges ≡ length q.edges) where
  plain : (o : Option ℕ) → o ≡ least_of_all edges → least (slice_index edges) (range_with_len 0 (length q.edges)) ≡ o
  plain o e =
      sym (ap (λ n. least (slice_index edges) (range_with_len 0 n)) many)
      ∙ sym (ap (least (slice_index edges)) (filter_true (range_with_len 0 (length edges))))
      ∙ sym e

  pub root_none : None ≡ least_of_all edges → 0 ≡ root_of q edges vertices
  root_none e = rw (plain None e) refl

  pub root_some : (i : ℕ) (e : PatternEdge) → Some i ≡ least_of_all edges → length vertices ≡ vertex_count q → slice_get q.edges i ≡ Some e → lower_end vertices e ≡ root_of q edges vertices
  root_some i e least_is all at =
      ap (λ n. unwrap_or (least (slice_index vertices) (filter (λ u. u == e.tail || u == e.head) (range_with_len 0 n))) 0) all
      ∙ ap (λ (f : PatternEdge). unwrap_or (least (slice_index vertices) (filter (λ u. u == f.tail || u == f.head) (range_with_len 0 (vertex_count q)))) 0) (sym (get_or_from_slice_get q.edges i e (record { tail = 0; label = []; head = 0 }) at))
      ∙ rw (plain (Some i) least_is) refl

-- one of the vertices is an end of the edge
abbrev pub ends_in : List ℕ → PatternEdge → Option ℕ
ends_in vertices e = least (slice_index vertices) (filter (λ u. u == e.tail || u == e.head) (range_with_len 0 (length vertices)))

-- an edge has an end
pub some_end : (vertices : List ℕ) (e : PatternEdge) → e.tail < length vertices → (o : Option ℕ) → o ≡ ends_in vertices e → is_some o ≡ true
some_end vertices e inside (Some u) is = refl
some_end vertices e inside None is =
    let none = least_none (slice_index vertices) (filter (λ u. u == e.tail || u == e.head) (range_with_len 0 (length vertices))) (sym is) in
    let fails : (e.tail == e.tail || e.tail == e.head) ≡ false = no_number (λ u. u == e.tail || u == e.head) 0 (length vertices) none e.tail (omega arith) (omega arith) in
    let passes : (e.tail == e.tail || e.tail == e.head) ≡ true = or_left (e.tail == e.tail) (e.tail == e.head) (eq-eqb e.tail e.tail refl) in
    absurd cc

-- ---- the steps that are left

-- one step less is left
pub left_more : (q : PatternGraph) (cards : List ℕ) (n k : ℕ) (t s : QueryTree) → k < n → s ≡ next_tree q cards t → tree_after (n - (k + 1)) q cards s ≡ tree_after (n - k) q cards t
left_more q cards n k t s h e =
    ap (tree_after (n - (k + 1)) q cards) e ∙ sym (ap (λ j. tree_after j q cards t) (suc_left n k h))
  where
    suc_left : (m j : ℕ) → j < m → m - j ≡ suc (m - (j + 1))
    suc_left m j l = omega arith

-- no step is left
pub left_none : (q : PatternGraph) (cards : List ℕ) (n k : ℕ) (t s : QueryTree) → n ≤ k → tree_after (n - k) q cards t ≡ s → t ≡ s
left_none q cards n k t s h e = sym (ap (λ j. tree_after j q cards t) (none_left n k h)) ∙ e
  where
    none_left : (m j : ℕ) → m ≤ j → m - j ≡ 0
    none_left m j l = omega arith

-- what is chosen is a tree of the pattern
pub chosen_belongs : (q : PatternGraph) → IsPattern q → (edges vertices : List ℕ) (t : QueryTree) → t ≡ tree_for q edges vertices → BelongsTo q t
chosen_belongs q is edges vertices t e = subst (BelongsTo q) (sym e) (tree_belongs q is edges vertices)

-- and so is what a call answers
pub ok_belongs : (q : PatternGraph) (g : QueryTree) (r : Result QueryTree AllocError) → BelongsTo q g → IfOk r (λ t. t ≡ g) → IfOk r (λ t. BelongsTo q t)
ok_belongs q g (Ok t) b e = subst (BelongsTo q) (sym e) b
ok_belongs q g (Err x) b e = tt
