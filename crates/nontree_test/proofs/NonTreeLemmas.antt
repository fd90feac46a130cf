-- The numbers of the non-tree edges, gone through one after another.
use Rattle.std.proofs.Common.{◌≡◌, ◌∙◌, sym, ap, ℕ, ◌+◌, ◌<◌, ◌≤◌, Bool, ◌&&◌, true, List, length, get_or, drop, Some, arith}
use Rattle.std.specs.List.{All, list_all, slice_get}
use Rattle.std.proofs.lemmas.List.{at_drop_more}
use Rattle.std.proofs.lemmas.List.Elements.{All-from_recursion}
use Rattle.std.proofs.lemmas.Option.{get_or_from_slice_get}
use Rattle.flux_model.specs.Pattern.{PatternGraph}
use Rattle.flux_model.specs.Tree.{QueryTree, edge_at, non_tree, BelongsTo}
use Rattle.flux_model.specs.declared.pattern.PatternEdge.{PatternEdge}
use Rattle.query_tree.proofs.NumberLemmas.{each_number, few_numbers}

module _ (q : PatternGraph) (t : QueryTree) (belongs : BelongsTo q t) where
  -- each is the number of an edge of the pattern
  pub non_tree_within : (k : ℕ) → k < length (non_tree t) → get_or (non_tree t) k 0 < length q.edges
  non_tree_within k h =
      let each : All (λ i. i < length q.edges) (non_tree t) = All-from_recursion (λ i. i < length q.edges) (non_tree t) (each_number _ (λ i. i < length q.edges) 0 t.edge_count (λ i l c. omega (arith, belongs.edges))) in
      each k 0 h

  -- there are no more of them than edges
  pub few_non_tree : length (non_tree t) ≤ length q.edges
  few_non_tree = let few : length (non_tree t) ≤ t.edge_count = few_numbers _ t.edge_count in omega (arith, few, belongs.edges)

-- what is told of the edge at place k holds by its number
pub told_of_place : (q : PatternGraph) (test : PatternEdge → Bool) (numbers others : List ℕ) (k : ℕ) (e : PatternEdge) (told b : Bool) → numbers ≡ others → slice_get q.edges (get_or numbers k 0) ≡ Some e → told ≡ test e → told ≡ b → test (edge_at q (get_or others k 0)) ≡ b
told_of_place q test numbers others k e told b same there is answer =
    ap (λ (l : List ℕ). test (edge_at q (get_or l k 0))) (sym same) ∙ ap test (get_or_from_slice_get q.edges (get_or numbers k 0) e _ there) ∙ sym is ∙ answer

-- a place in a list is one in a list that is the same
pub place_within : (numbers others : List ℕ) (k : ℕ) → numbers ≡ others → k < length numbers → k < length others
place_within numbers others k same h = omega (arith, h, ap (λ (l : List ℕ). length l) same)

-- where the first of the numbers that are left passes, the others decide
pub others_decide : (p : ℕ → Bool) (xs : List ℕ) (k : ℕ) (r : Bool) → k < length xs → p (get_or xs k 0) ≡ true → list_all p (drop k xs) ≡ r → list_all p (drop (k + 1) xs) ≡ r
others_decide p xs k r h passes left =
    ap (λ b. b && list_all p (drop (k + 1) xs)) (sym passes) ∙ sym (at_drop_more (list_all p) xs k 0 h) ∙ left
