-- An update of the graph and of all rows.
use Rattle.std.proofs.Common.{◌≡◌, ℕ, zero, suc, Bool, true, false, List, [], ◌∷◌, length, map, Some, refl, sym, ap, subst, ◌∙◌, arith}
use Rattle.std.specs.Prelude.{Ok}
use Rattle.std.specs.List.{slice_get}
use Rattle.std.specs.Option.{option_map}
use Rattle.std.proofs.lemmas.Bool.{both_ways}
use Rattle.std.proofs.lemmas.List.{length-map}
use Rattle.std.proofs.lemmas.Option.{slice_get-map, same_Some, none-some}
use Rattle.flux_model.specs.Change.{gained, lost}
use Rattle.flux_model.specs.Deltas.{AreReordered, change_deltas, with_delta}
use Rattle.flux_model.specs.Exact.{StateRows, IsExact}
use Rattle.flux_model.specs.Graph.{Graph, apply, without_triple}
use Rattle.flux_model.specs.Pattern.{PatternGraph}
use Rattle.flux_model.specs.Tree.{QueryTree, BelongsTo}
use Rattle.flux_model.specs.declared.graph.Triple.{Triple}
use Rattle.flux_model.specs.declared.graph.Update.TheVariants.{AddEdge, DropEdge}
use Rattle.flux_model.specs.declared.limits.Limits.{Limits}
use Rattle.flux_model.specs.declared.maps.Delta.{Delta}
use Rattle.flux_laws.proofs.ChangesLemmas.{loses_none, gains_none}
use Rattle.flux_laws.proofs.GraphsLemmas.{edge_dropped}
use Rattle.dcg_updates.proofs.CallerLemmas.{added}
use Rattle.pattern_registry.specs.declared.index.PatternIndex.{PatternIndex}
use Rattle.pattern_registry.specs.States.{PatternStates, IsIndexed, AreExact}
use Rattle.pattern_registry.specs.Indexes.{pattern_states}
use Rattle.pattern_registry.specs.MovedRows.{trees_of, AreKept, deltas_of, gain, loss}

abbrev tree_of : PatternIndex → QueryTree
tree_of i = i.tree

abbrev dcg_of : PatternIndex → StateRows
dcg_of i = i.dcg

-- ---- the rows of all patterns, as a registry keeps them and as a contract sees them

-- what stands at a place of a list that was mapped
mapped_here : {X Y : Type 0} (f : X → Y) (xs : List X) (k : ℕ) (y : Y) → slice_get (map f xs) k ≡ Some y → (x : X) × (slice_get xs k ≡ Some x) × (f x ≡ y)
mapped_here f [] k y h = absurd (none-some y h)
mapped_here f (x ∷ xs) zero y h = (x, refl, same_Some (f x) y h)
mapped_here f (x ∷ xs) (suc k) y h = mapped_here f xs k y h

module _ (patterns : List PatternGraph) (indexes : List PatternIndex) (broken : Bool) (indexed : IsIndexed (pattern_states patterns indexes broken)) where
  count : length indexes ≡ length patterns
  count = sym (length-map indexes dcg_of) ∙ indexed.rows

  pub kept_of : (s : PatternStates) (g : Graph) → pattern_states patterns indexes broken ≡ s → AreExact s g → AreKept g patterns indexes
  kept_of s g seen exact =
      let all : AreExact (pattern_states patterns indexes broken) g = subst (λ r. AreExact r g) (sym seen) exact in
      record {
        count = count;
        each = λ k q i e f. record {
          belongs = indexed.belongs k q i.tree e (slice_get-map tree_of indexes k ∙ ap (option_map tree_of) f);
          exact = all.each k q i.tree i.dcg e (slice_get-map tree_of indexes k ∙ ap (option_map tree_of) f) (slice_get-map dcg_of indexes k ∙ ap (option_map dcg_of) f);
        };
      }

  module _ (now : List PatternIndex) (stay : trees_of now ≡ trees_of indexes) where
    rows_count : length (map dcg_of now) ≡ length patterns
    rows_count = length-map now dcg_of ∙ sym (length-map now tree_of) ∙ ap length stay ∙ indexed.trees

    belongs_still : (k : ℕ) (q : PatternGraph) (t : QueryTree) → slice_get patterns k ≡ Some q → slice_get (trees_of now) k ≡ Some t → BelongsTo q t
    belongs_still k q t e f = indexed.belongs k q t e (ap (λ ts. slice_get ts k) (sym stay) ∙ f)

    -- while rows may be wrong
    pub indexed_broken : IsIndexed (pattern_states patterns now true)
    indexed_broken = record {
      trees = ap length stay ∙ indexed.trees;
      rows = rows_count;
      belongs = belongs_still;
      whole = λ e. absurd (both_ways true e refl);
    }

    pub indexed_kept : (g : Graph) → AreKept g patterns now → IsIndexed (pattern_states patterns now false)
    indexed_kept g kept = record {
      trees = ap length stay ∙ indexed.trees;
      rows = rows_count;
      belongs = belongs_still;
      whole = λ _ k d h. whole_at k d h (mapped_here dcg_of now k d h);
    }
      where
        pattern_at : (qs : List PatternGraph) (is : List PatternIndex) → length is ≡ length qs → (k : ℕ) (i : PatternIndex) → slice_get is k ≡ Some i → (q : PatternGraph) × (slice_get qs k ≡ Some q)
        pattern_at qs [] e k i h = absurd (none-some i h)
        pattern_at [] (x ∷ xs) e k i h = absurd (omega (arith, e))
        pattern_at (p ∷ ps) (x ∷ xs) e zero i h = (p, refl)
        pattern_at (p ∷ ps) (x ∷ xs) e (suc k) i h = pattern_at ps xs (omega (arith, e)) k i h

        whole_at : (k : ℕ) (d : StateRows) → slice_get (map dcg_of now) k ≡ Some d → (i : PatternIndex) × (slice_get now k ≡ Some i) × (i.dcg ≡ d) → d.is_broken ≡ false
        whole_at k d h m =
            let p = pattern_at patterns now kept.count k m.0 m.1 in
            ap (λ (d : StateRows). d.is_broken) (sym m.2) ∙ (kept.each k p.0 m.0 p.1 m.1).exact.whole

pub exact_of : (patterns : List PatternGraph) (indexes : List PatternIndex) (g : Graph) → AreKept g patterns indexes → AreExact (pattern_states patterns indexes false) g
exact_of patterns indexes g kept = record {
  whole = refl;
  each = λ k q t d e f h. by k q t d e (mapped_here tree_of indexes k t f) (mapped_here dcg_of indexes k d h);
}
  where
    by : (k : ℕ) (q : PatternGraph) (t : QueryTree) (d : StateRows) → slice_get patterns k ≡ Some q → (i : PatternIndex) × (slice_get indexes k ≡ Some i) × (i.tree ≡ t)
        → (i : PatternIndex) × (slice_get indexes k ≡ Some i) × (i.dcg ≡ d) → IsExact q t g d
    by k q t d e m n =
        let same : n.0 ≡ m.0 = same_Some n.0 m.0 (sym n.1 ∙ m.1) in
        let rows : m.0.dcg ≡ d = ap dcg_of (sym same) ∙ n.2 in
        subst (λ r. IsExact q r g d) m.2 (subst (λ r. IsExact q m.0.tree g r) rows (kept.each k q m.0 e m.1).exact)

-- ---- the deltas of a change

change_gains : (old new : Graph) → ((q : PatternGraph) → lost q old new ≡ []) → (i : ℕ) (qs : List PatternGraph) → change_deltas i old new qs ≡ deltas_of (gain old new) i qs
change_gains old new none i [] = refl
change_gains old new none i (q ∷ qs) =
    ap (λ l. with_delta (record { pattern = i; gained = gained q old new; lost = l }) (change_deltas (suc i) old new qs)) (none q)
    ∙ ap (with_delta (gain old new i q)) (change_gains old new none (suc i) qs)

change_losses : (old new : Graph) → ((q : PatternGraph) → gained q old new ≡ []) → (i : ℕ) (qs : List PatternGraph) → change_deltas i old new qs ≡ deltas_of (loss old new) i qs
change_losses old new none i [] = refl
change_losses old new none i (q ∷ qs) =
    ap (λ l. with_delta (record { pattern = i; gained = l; lost = lost q old new }) (change_deltas (suc i) old new qs)) (none q)
    ∙ ap (with_delta (loss old new i q)) (change_losses old new none (suc i) qs)

-- of a triple that is added
pub edge_gains : (limits : Limits) (g h : Graph) (t : Triple) (patterns seen : List PatternGraph) (deltas : List Delta) → apply limits g (AddEdge t) ≡ Ok h → patterns ≡ seen
    → AreReordered (deltas_of (gain (without_triple h t) h) 0 patterns) deltas → AreReordered (change_deltas 0 g h seen) deltas
edge_gains limits g h t patterns seen deltas ok same all =
    subst (λ l. AreReordered l deltas) (sym (change_gains g h (λ q. loses_none limits q g h (AddEdge t) tt ok) 0 seen))
    (subst (λ qs. AreReordered (deltas_of (gain g h) 0 qs) deltas) same
    (subst (λ k. AreReordered (deltas_of (gain k h) 0 patterns) deltas) (added limits g h t ok).was all))

-- and of one that is removed
pub edge_losses : (limits : Limits) (g h : Graph) (t : Triple) (patterns seen : List PatternGraph) (deltas : List Delta) → apply limits g (DropEdge t) ≡ Ok h → patterns ≡ seen
    → AreReordered (deltas_of (loss g (without_triple g t)) 0 patterns) deltas → AreReordered (change_deltas 0 g h seen) deltas
edge_losses limits g h t patterns seen deltas ok same all =
    subst (λ l. AreReordered l deltas) (sym (change_losses g h (λ q. gains_none limits q g h (DropEdge t) tt ok) 0 seen))
    (subst (λ qs. AreReordered (deltas_of (loss g h) 0 qs) deltas) same
    (subst (λ k. AreReordered (deltas_of (loss g k) 0 patterns) deltas) (edge_dropped limits g h t ok).is all))
