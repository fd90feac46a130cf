-- All patterns one by one, as a vertex comes or goes.
use Rattle.std.proofs.Common.{◌≡◌, ℕ, ◌+◌, ◌<◌, ◌≤◌, List, [], ◌++◌, length, take, set, get_or, refl, sym, ap, subst, ◌∙◌, arith, inl, inr, length-set}
use Rattle.std.specs.Prelude.{◌⊎◌, Some, IsPermutation}
use Rattle.std.specs.List.{slice_get}
use Rattle.std.proofs.lemmas.List.Sorted.{IsPermutation-refl}
use Rattle.std.proofs.lemmas.Option.{slice_get_within, slice_get_read, same_Some}
use Rattle.flux_model.specs.Exact.{IsExact}
use Rattle.flux_model.specs.Graph.{Graph}
use Rattle.flux_model.specs.Pattern.{PatternGraph, IsPattern}
use Rattle.flux_model.specs.Tree.{BelongsTo}
use Rattle.flux_model.specs.declared.maps.Delta.{Delta}
use Rattle.flux_model.specs.Deltas.{AreReordered, with_delta}
use Rattle.pattern_registry.specs.declared.index.PatternIndex.{PatternIndex}
use Rattle.pattern_registry.specs.MovedRows.{IsKept, AreKept, AreMoved, deltas_of}
use Rattle.pattern_registry.specs.SoleVertex.{sole_maps, sole_gain, sole_loss}
use Rattle.pattern_registry.proofs.DeltaLemmas.{reordered_more}
use Rattle.pattern_registry.proofs.MovedLemmas.{set_here, set_other, compare}

-- ---- rows

-- what stands at a place is kept
pub index_here : (g : Graph) (qs : List PatternGraph) (indexes : List PatternIndex) (k : ℕ) (q : PatternGraph) (index : PatternIndex) → AreKept g qs indexes → slice_get qs k ≡ Some q → index ≡ get_or indexes k index → IsKept g q index
index_here g qs indexes k q index kept here read =
    kept.each k q index here (slice_get_read indexes (length qs) k index (sym kept.count) (slice_get_within qs k q here) read)

module _ (old new : Graph) (qs : List PatternGraph) where
  pub step_first : (indexes : List PatternIndex) → AreKept old qs indexes → AreMoved old new 0 qs indexes
  step_first indexes kept = record {
    count = kept.count;
    done = λ k q i low e f. absurd (omega (arith, low));
    left = λ k q i high e f. kept.each k q i e f;
  }

  pub left_here : (indexes : List PatternIndex) (k : ℕ) (q : PatternGraph) (index : PatternIndex) → AreMoved old new k qs indexes → slice_get qs k ≡ Some q → index ≡ get_or indexes k index → IsKept old q index
  left_here indexes k q index moved here read =
      moved.left k q index (omega arith) here (slice_get_read indexes (length qs) k index (sym moved.count) (slice_get_within qs k q here) read)

  pub step_next : (indexes now : List PatternIndex) (k : ℕ) (q : PatternGraph) (before after : PatternIndex) → AreMoved old new k qs indexes → slice_get qs k ≡ Some q → now ≡ set indexes k after
      → BelongsTo q before.tree → after.tree ≡ before.tree → IsExact q before.tree new after.dcg → AreMoved old new (k + 1) qs now
  step_next indexes now k q before after moved here is belongs tree exact =
      subst (AreMoved old new (k + 1) qs) (sym is) (record {
        count = length-set indexes k after ∙ moved.count;
        done = λ n p i low e f. by n p i (compare n k) low e f;
        left = λ n p i high e f. moved.left n p i (omega arith) e (sym (set_other indexes k n after (λ s. absurd (omega (arith, s, high)))) ∙ f);
      })
    where
      kept : IsKept new q after
      kept = record { belongs = subst (BelongsTo q) (sym tree) belongs; exact = subst (λ t. IsExact q t new after.dcg) (sym tree) exact }

      by : (n : ℕ) (p : PatternGraph) (i : PatternIndex) → (n < k) ⊎ ((n ≡ k) ⊎ (k < n)) → n < k + 1 → slice_get qs n ≡ Some p → slice_get (set indexes k after) n ≡ Some i → IsKept new p i
      by n p i (inl low) lower e f = moved.done n p i low e (sym (set_other indexes k n after (λ s. absurd (omega (arith, s, low)))) ∙ f)
      by n p i (inr (inl s)) lower e f =
          let within : k < length indexes = omega (arith, moved.count, slice_get_within qs k q here) in
          let index : after ≡ i = set_here indexes k after i within (ap (slice_get (set indexes k after)) (sym s) ∙ f) in
          let pattern : q ≡ p = same_Some q p (sym here ∙ ap (slice_get qs) (sym s) ∙ e) in
          subst (λ r. IsKept new r i) pattern (subst (λ r. IsKept new q r) index kept)
      by n p i (inr (inr high)) lower e f = absurd (omega (arith, high, lower))

  pub step_last : (indexes : List PatternIndex) (k : ℕ) → AreMoved old new k qs indexes → length qs ≤ k → AreKept new qs indexes
  step_last indexes k moved few = record {
    count = moved.count;
    each = λ n q i e f. moved.done n q i (omega (arith, slice_get_within qs n q e)) e f;
  }

-- ---- patterns

pub pattern_next : (qs : List PatternGraph) (k : ℕ) (q : PatternGraph) → slice_get qs k ≡ Some q → IsPattern q → ((j : ℕ) (p : PatternGraph) → j < k → slice_get qs j ≡ Some p → IsPattern p)
    → (j : ℕ) (p : PatternGraph) → j < k + 1 → slice_get qs j ≡ Some p → IsPattern p
pattern_next qs k q here is before j p low e = by (compare j k)
  where
    by : (j < k) ⊎ ((j ≡ k) ⊎ (k < j)) → IsPattern p
    by (inl h) = before j p h e
    by (inr (inl s)) = subst IsPattern (same_Some q p (sym here ∙ ap (slice_get qs) (sym s) ∙ e)) is
    by (inr (inr h)) = absurd (omega (arith, low, h))

-- ---- deltas

same_order : {X : Type 0} (xs ys : List X) → ys ≡ xs → IsPermutation xs ys
same_order {X} xs ys e = subst (λ (l : List X). IsPermutation xs l) (sym e) (IsPermutation-refl xs)

pub sole_gains_next : (g : Graph) (id : ℕ) (qs : List PatternGraph) (k : ℕ) (q : PatternGraph) (maps none : List (List ℕ)) (old new : List Delta) → slice_get qs k ≡ Some q → maps ≡ sole_maps q g id → none ≡ []
    → AreReordered (deltas_of (sole_gain g id) 0 (take k qs)) old → new ≡ old ++ with_delta (record { pattern = k; gained = maps; lost = none }) []
    → AreReordered (deltas_of (sole_gain g id) 0 (take (k + 1) qs)) new
sole_gains_next g id qs k q maps none old new here is empty before now =
    reordered_more (sole_gain g id) qs k q (record { pattern = k; gained = maps; lost = none }) old new here
    (record { pattern = refl; gained = same_order (sole_maps q g id) maps is; lost = same_order [] none empty }) before now

pub sole_losses_next : (g : Graph) (id : ℕ) (qs : List PatternGraph) (k : ℕ) (q : PatternGraph) (maps none : List (List ℕ)) (old new : List Delta) → slice_get qs k ≡ Some q → maps ≡ sole_maps q g id → none ≡ []
    → AreReordered (deltas_of (sole_loss g id) 0 (take k qs)) old → new ≡ old ++ with_delta (record { pattern = k; gained = none; lost = maps }) []
    → AreReordered (deltas_of (sole_loss g id) 0 (take (k + 1) qs)) new
sole_losses_next g id qs k q maps none old new here is empty before now =
    reordered_more (sole_loss g id) qs k q (record { pattern = k; gained = none; lost = maps }) old new here
    (record { pattern = refl; gained = same_order [] none empty; lost = same_order (sole_maps q g id) maps is }) before now
