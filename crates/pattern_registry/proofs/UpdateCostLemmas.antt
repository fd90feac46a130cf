-- What an update may cost, from what its parts may.
use Rattle.std.proofs.Common.{◌≡◌, ℕ, ◌+◌, ◌*◌, ◌≤◌, Bool, true, List, [], ◌∷◌, length, sym, subst, arith}
use Rattle.std.specs.Prelude.{Ok, Err, sum_by}
use Rattle.std.specs.List.{zip}
use Rattle.std.proofs.lemmas.List.Sums.{sum_by-cons, sum_by-le-sum_by}
use Rattle.flux_model.specs.Costs.{triple_cost, update_cost}
use Rattle.flux_model.specs.Graph.{Graph, IsGraph, triple_cmp, has_triple, has_both_ends, with_triple, without_triple, apply}
use Rattle.flux_model.specs.Pattern.{PatternGraph}
use Rattle.flux_model.specs.Tree.{QueryTree}
use Rattle.flux_model.specs.declared.code.Code.{Code}
use Rattle.flux_model.specs.declared.graph.Triple.{Triple}
use Rattle.flux_model.specs.declared.graph.Update.{Update}
use Rattle.flux_model.specs.declared.graph.Update.TheVariants.{AddVertex, DropVertex, AddEdge, DropEdge}
use Rattle.flux_model.specs.declared.limits.Limits.{Limits}
use Rattle.flux_laws.proofs.GraphsLemmas.{triple_exact}
use Rattle.flux_laws.proofs.SetsLemmas.{triple_total}
use Rattle.flux_laws.proofs.UndoLemmas.{holds_there}
use Rattle.dcg_updates.proofs.CallerLemmas.{added, taken}
use Rattle.pattern_registry.specs.declared.index.PatternIndex.{PatternIndex}
use Rattle.pattern_registry.specs.UpdateCosts.{looks_cost, rows_cost, both_costs}
use Rattle.pattern_registry.specs.Indexes.{pattern_states}
use Rattle.pattern_registry.specs.MovedRows.{trees_of}
use Rattle.pattern_registry.specs.States.{PatternStates, IsIndexed}
use Rattle.pattern_registry.proofs.SpendLemmas.{pairs_long}

-- a triple that stands can be removed
pub removable : (limits : Limits) (g : Graph) (t : Triple) (code : Code) → IsGraph g → has_triple g t ≡ true → apply limits g (DropEdge t) ≡ Err code → ⊥
removable limits g t refusal graph there refused =
    let ends : has_both_ends g t ≡ true = holds_there triple_cmp triple_total triple_exact (has_both_ends g) t g.triples graph.ends there in
    let clash = rw (ends, there) at refused in
    cc

-- ---- sums

sum_of_two : {X : Type 0} (f r all : X → ℕ) → ((x : X) → f x + r x ≤ all x) → (xs : List X) → sum_by f xs + sum_by r xs ≤ sum_by all xs
sum_of_two f r all each [] = omega arith
sum_of_two f r all each (x ∷ xs) = omega (arith, each x, sum_of_two f r all each xs, sum_by-cons f x xs, sum_by-cons r x xs, sum_by-cons all x xs)

both_few : (small large : Graph) (t : Triple) (p : PatternGraph × QueryTree) → both_costs small large t p ≤ triple_cost small large t p
both_few small large t p = omega arith

parts_few : (small large : Graph) (t : Triple) (p : PatternGraph × QueryTree) → looks_cost large t p + rows_cost small large t p ≤ triple_cost small large t p
parts_few small large t p = omega arith

-- ---- each update

module _ (s : PatternStates) (patterns : List PatternGraph) (indexes : List PatternIndex) (broken : Bool) (seen : pattern_states patterns indexes broken ≡ s) (limits : Limits) (g h : Graph) (first spent : ℕ) where
  -- in the words of a contract
  told : (update : Update) → apply limits g update ≡ Ok h → spent ≤ first + update_cost (zip patterns (trees_of indexes)) g update (Ok h) → spent ≤ first + update_cost (zip s.patterns s.trees) g update (apply limits g update)
  told update ok few =
      subst (λ (s : PatternStates). spent ≤ first + update_cost (zip s.patterns s.trees) g update (apply limits g update)) seen
      (subst (λ r. spent ≤ first + update_cost (zip patterns (trees_of indexes)) g update r) (sym ok) few)

  pub insert_cost : (t : Triple) → apply limits g (AddEdge t) ≡ Ok h → spent ≤ first + sum_by (both_costs (without_triple h t) h t) (zip patterns (trees_of indexes))
      → spent ≤ first + update_cost (zip s.patterns s.trees) g (AddEdge t) (apply limits g (AddEdge t))
  insert_cost t ok few =
      let now : spent ≤ first + sum_by (both_costs g h t) (zip patterns (trees_of indexes)) = subst (λ k. spent ≤ first + sum_by (both_costs k h t) (zip patterns (trees_of indexes))) (added limits g h t ok).was few in
      told (AddEdge t) ok (omega (arith, now, sum_by-le-sum_by (both_costs g h t) (triple_cost g h t) (zip patterns (trees_of indexes)) (both_few g h t)))

  pub remove_cost : (t : Triple) (tested searched : ℕ) → IsGraph g → apply limits g (DropEdge t) ≡ Ok h → tested ≡ first + 1 → searched ≤ tested + sum_by (looks_cost g t) (zip patterns (trees_of indexes))
      → spent ≤ searched + sum_by (rows_cost h (with_triple h t) t) (zip patterns (trees_of indexes))
      → spent ≤ first + update_cost (zip s.patterns s.trees) g (DropEdge t) (apply limits g (DropEdge t))
  remove_cost t tested searched graph ok one look few =
      let now : spent ≤ searched + sum_by (rows_cost h g t) (zip patterns (trees_of indexes)) = subst (λ k. spent ≤ searched + sum_by (rows_cost h k t) (zip patterns (trees_of indexes))) (taken limits g h t graph ok).was few in
      told (DropEdge t) ok (omega (arith, now, look, one, sum_of_two (looks_cost g t) (rows_cost h g t) (triple_cost h g t) (parts_few h g t) (zip patterns (trees_of indexes))))

  module _ (indexed : IsIndexed (pattern_states patterns indexes broken)) where
    long : length (zip patterns (trees_of indexes)) ≡ length patterns
    long = pairs_long patterns (trees_of indexes) indexed.trees

    pub add_vertex_cost : (id : ℕ) (labels : List (List ℕ)) → apply limits g (AddVertex id labels) ≡ Ok h → spent ≤ first + 4 * length patterns
        → spent ≤ first + update_cost (zip s.patterns s.trees) g (AddVertex id labels) (apply limits g (AddVertex id labels))
    add_vertex_cost id labels ok few = told (AddVertex id labels) ok (omega (arith, few, long))

    pub remove_vertex_cost : (id : ℕ) → apply limits g (DropVertex id) ≡ Ok h → spent ≤ first + 4 * length patterns
        → spent ≤ first + update_cost (zip s.patterns s.trees) g (DropVertex id) (apply limits g (DropVertex id))
    remove_vertex_cost id ok few = told (DropVertex id) ok (omega (arith, few, long))
