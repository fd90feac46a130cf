-- The block of a line, from what a session answers.
use Rattle.std.proofs.Common.{◌≡◌, ℕ, List, [], ◌∷◌, ◌++◌, length, sym, ap, ◌∙◌, subst}
use Rattle.std.proofs.lemmas.List.{append-nil}
use Rattle.std.proofs.lemmas.List.Sorted.{IsPermutation-sym}
use Rattle.flux_model.specs.Graph.{Graph, IsGraph}
use Rattle.flux_model.specs.Pattern.{PatternGraph}
use Rattle.flux_model.specs.Report.{Outcome, block_of, refusal_line, graph_after}
use Rattle.flux_model.specs.Grown.{GrewByFront}
use Rattle.flux_model.specs.Deltas.{change_deltas, AreReordered}
use Rattle.flux_model.specs.declared.code.Code.{Code}
use Rattle.flux_model.specs.declared.maps.Delta.{Delta}
use Rattle.flux_model.proofs.GrownLemmas.{grew_same}
use Rattle.delta_report.specs.Block.{HavePatterns, deltas_text}
use Rattle.delta_report.specs.Sorted.{AreSorted}
use Rattle.delta_report.proofs.CallerLemmas.{deltas_text-change_deltas, change_deltas-have_patterns, change_deltas-sorted, HavePatterns-from_sorted}
use Rattle.watch_core.specs.Taken.{IsTakenOver}
use Rattle.watch_core.specs.declared.taken.Taken.TheVariants as taken

-- deltas in order are the sorted form of those that have the same maps
sorted_form : (ds es : List Delta) → AreReordered ds es → AreSorted ds ds → AreSorted es ds
sorted_form [] [] r o = tt
sorted_form [] (e ∷ es) r o = absurd r
sorted_form (d ∷ ds) [] r o = absurd r
sorted_form (d ∷ ds) (e ∷ es) r o = (
  record {
    same = record { pattern = sym r.0.pattern; gained = IsPermutation-sym _ _ r.0.gained; lost = IsPermutation-sym _ _ r.0.lost };
    order = o.0.order;
  },
  sorted_form ds es r.1 o.1,
)

-- ---- a line that says nothing, and one that is refused

module _ (g : Graph) (came_to : Outcome) (k : ℕ) (patterns : List PatternGraph) where
  pub ignored-text : IsTakenOver patterns g came_to taken.Ignored → (old : List ℕ) → old ≡ old ++ block_of k patterns g came_to
  ignored-text over old = sym (ap (λ o. old ++ block_of k patterns g o) over.taken ∙ append-nil old)

  pub refused-text : (reason : Code) → IsTakenOver patterns g came_to (taken.Refused reason) → refusal_line k reason ≡ block_of k patterns g came_to
  refused-text reason over = ap (block_of k patterns g) (sym over.taken)

-- ---- an accepted change

module _ (g : Graph) (came_to : Outcome) (patterns : List PatternGraph) (deltas : List Delta) (over : IsTakenOver patterns g came_to (taken.Changed deltas)) where
  abbrev h : Graph
  h = over.taken.0

  is : IsGraph h
  is = subst (λ o. IsGraph (graph_after g o)) over.taken.1 over.after

  sorted : AreSorted deltas (change_deltas 0 g h patterns)
  sorted = sorted_form (change_deltas 0 g h patterns) deltas over.taken.2 (change_deltas-sorted 0 g h patterns over.before.ascending_vertices is.ascending_vertices)

  pub changed-patterns : HavePatterns (length patterns) deltas
  changed-patterns = HavePatterns-from_sorted (length patterns) deltas (change_deltas 0 g h patterns) sorted (change_deltas-have_patterns g h patterns)

  module _ (k : ℕ) where
    text : deltas_text k patterns (change_deltas 0 g h patterns) ≡ block_of k patterns g came_to
    text = deltas_text-change_deltas k g h patterns ∙ sym (ap (block_of k patterns g) over.taken.1)

    pub changed-text : (old new : List ℕ) → ((sorted : List Delta) → AreSorted deltas sorted → new ≡ old ++ deltas_text k patterns sorted) → new ≡ old ++ block_of k patterns g came_to
    changed-text old new written = written (change_deltas 0 g h patterns) sorted ∙ ap (λ t. old ++ t) text

    pub changed-front : (old new : List ℕ) → ((sorted : List Delta) → AreSorted deltas sorted → GrewByFront old new (deltas_text k patterns sorted)) → GrewByFront old new (block_of k patterns g came_to)
    changed-front old new written = grew_same _ _ _ _ (sym text) (written (change_deltas 0 g h patterns) sorted)
