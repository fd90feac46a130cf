-- How rows that are exact over one graph become so over another, place by place of a route.
use Rattle.std.proofs.Common.{◌≡◌, ◌≢◌, ℕ, zero, suc, ◌+◌, ◌<◌, ◌≤◌, true, false, List, [], ◌∷◌, length, set, get_or, refl, sym, ap, subst, ◌∙◌, arith, inl, inr, length-set}
use Rattle.std.specs.Prelude.{◌⊎◌, Some, flat_map}
use Rattle.std.specs.List.{slice_get, list_any, range_with_len}
use Rattle.std.specs.Option.{unwrap_or}
use Rattle.std.specs.Str.{bytes_eq}
use Rattle.std.proofs.lemmas.Bool.{false_from_ne_true, both_ways}
use Rattle.std.proofs.lemmas.List.Folds.{list_any_at}
use Rattle.std.proofs.lemmas.List.Sorted.{length_permutation}
use Rattle.std.proofs.lemmas.Option.{slice_get_within, slice_get-get_or, slice_get_read, slice_get_past, same_Some}
use Rattle.flux_model.specs.Change.{gained}
use Rattle.flux_model.specs.Exact.{IsExact, IsExactOver}
use Rattle.flux_model.specs.Graph.{Graph, IsGraph, has_triple, with_triple, without_triple}
use Rattle.flux_model.specs.Pattern.{PatternGraph}
use Rattle.flux_model.specs.States.{Joined}
use Rattle.flux_model.specs.Tree.{BelongsTo}
use Rattle.flux_model.specs.declared.graph.Triple.{Triple}
use Rattle.flux_model.specs.declared.pattern.PatternEdge.{PatternEdge}
use Rattle.flux_laws.proofs.GraphsLemmas.{triple_exact}
use Rattle.flux_laws.proofs.JointsLemmas.{added_triple_joined}
use Rattle.flux_laws.proofs.SetsLemmas.{triple_total}
use Rattle.flux_laws.proofs.UndoLemmas.{put_back}
use Rattle.flux_model.specs.Graph.{triple_cmp}
use Rattle.flux_model.specs.Classes.{edge_class}
use Rattle.flux_laws.proofs.ClassesLemmas.{gained_by_classes, other_label}
use Rattle.dcg_updates.proofs.CallerLemmas.{unnamed_added}
use Rattle.pattern_registry.specs.declared.index.PatternIndex.{PatternIndex}
use Rattle.pattern_registry.specs.MovedRows.{trees_of, IsKept, AreKept, AreMoved}
use Rattle.flux_laws.specs.JointsLaws.{has_edge_labelled}
use Rattle.pattern_registry.specs.Routes.{places_with, place_at}
use Rattle.pattern_registry.proofs.RouteLemmas.{ArePassed, IsTurn, turn_at}

-- ---- an item that is changed

module _ {X : Type 0} where
  pub set_here : (xs : List X) (k : ℕ) (x y : X) → k < length xs → slice_get (set xs k x) k ≡ Some y → x ≡ y
  set_here [] k x y low h = absurd (omega arith)
  set_here (z ∷ zs) zero x y low h = same_Some x y h
  set_here (z ∷ zs) (suc k) x y low h = set_here zs k x y (omega arith) h

  pub set_other : (xs : List X) (k j : ℕ) (x : X) → j ≢ k → slice_get (set xs k x) j ≡ slice_get xs j
  set_other [] k j x other = refl
  set_other (z ∷ zs) zero zero x other = absurd (other refl)
  set_other (z ∷ zs) zero (suc j) x other = refl
  set_other (z ∷ zs) (suc k) zero x other = refl
  set_other (z ∷ zs) (suc k) (suc j) x other = set_other zs k j x (λ e. other (ap suc e))

-- the trees stay where one index is changed that keeps its tree
pub trees_stay : (indexes : List PatternIndex) (k : ℕ) (i j : PatternIndex) → slice_get indexes k ≡ Some i → j.tree ≡ i.tree → trees_of (set indexes k j) ≡ trees_of indexes
trees_stay [] k i j here same = refl
trees_stay (x ∷ xs) zero i j here same = ap (λ t. t ∷ trees_of xs) (same ∙ ap (λ (i : PatternIndex). i.tree) (sym (same_Some x i here)))
trees_stay (x ∷ xs) (suc k) i j here same = ap (λ ts. x.tree ∷ ts) (trees_stay xs k i j here same)

-- below, at or above
pub compare : (n k : ℕ) → (n < k) ⊎ ((n ≡ k) ⊎ (k < n))
compare zero zero = inr (inl refl)
compare zero (suc k) = inl (omega arith)
compare (suc n) zero = inr (inr (omega arith))
compare (suc n) (suc k) = by (compare n k)
  where
    by : (n < k) ⊎ ((n ≡ k) ⊎ (k < n)) → (suc n < suc k) ⊎ ((suc n ≡ suc k) ⊎ (suc k < suc n))
    by (inl h) = inl (omega arith)
    by (inr (inl h)) = inr (inl (ap suc h))
    by (inr (inr h)) = inr (inr (omega arith))

-- ---- along a route

module _ (label : List ℕ) (old new : Graph) (same : (q : PatternGraph) (i : PatternIndex) → has_edge_labelled q label ≡ false → IsKept old q i → IsKept new q i) (qs : List PatternGraph) where
  pub moved_first : (indexes : List PatternIndex) (next : ℕ) → AreKept old qs indexes → ArePassed label qs 0 next → AreMoved old new next qs indexes
  moved_first indexes next kept passed = record {
    count = kept.count;
    done = λ k q i low e f. same q i (passed k q (omega arith) low e) (kept.each k q i e f);
    left = λ k q i high e f. kept.each k q i e f;
  }

  pub moved_turn : (indexes now : List PatternIndex) (k next : ℕ) (q : PatternGraph) (j : PatternIndex) → AreMoved old new k qs indexes → IsTurn label qs k next → slice_get qs k ≡ Some q
      → now ≡ set indexes k j → IsKept new q j → AreMoved old new next qs now
  moved_turn indexes now k next q j moved turn here is kept =
      subst (AreMoved old new next qs) (sym is) (record {
        count = length-set indexes k j ∙ moved.count;
        done = λ n p i low e f. by n p i (compare n k) low e f;
        left = λ n p i high e f. moved.left n p i (omega (arith, turn.above)) e (sym (set_other indexes k n j (λ s. absurd (omega (arith, turn.above, s)))) ∙ f);
      })
    where
      by : (n : ℕ) (p : PatternGraph) (i : PatternIndex) → (n < k) ⊎ ((n ≡ k) ⊎ (k < n)) → n < next → slice_get qs n ≡ Some p → slice_get (set indexes k j) n ≡ Some i → IsKept new p i
      by n p i (inl low) lower e f = moved.done n p i low e (sym (set_other indexes k n j (λ s. absurd (omega (arith, s, low)))) ∙ f)
      by n p i (inr (inl s)) lower e f =
          let within : k < length indexes = omega (arith, moved.count, turn.inside) in
          let index : j ≡ i = set_here indexes k j i within (ap (slice_get (set indexes k j)) (sym s) ∙ f) in
          let pattern : q ≡ p = same_Some q p (sym here ∙ ap (slice_get qs) (sym s) ∙ e) in
          subst (λ r. IsKept new r i) pattern (subst (λ r. IsKept new q r) index kept)
      by n p i (inr (inr high)) lower e f =
          same p i (turn.passed n p (omega arith) lower e)
          (moved.left n p i (omega arith) e (sym (set_other indexes k n j (λ s. absurd (omega (arith, s, high)))) ∙ f))

  pub moved_last : (indexes : List PatternIndex) (next : ℕ) → AreMoved old new next qs indexes → length qs ≤ next → AreKept new qs indexes
  moved_last indexes next moved few = record {
    count = moved.count;
    each = λ k q i e f. moved.done k q i (omega (arith, slice_get_within qs k q e)) e f;
  }

-- ---- patterns that have no edge with the label of the triple

-- rows stay exact
pub same_added : (g : Graph) (t : Triple) → IsGraph g → has_triple g t ≡ true → (q : PatternGraph) (i : PatternIndex) → has_edge_labelled q t.label ≡ false → IsKept (without_triple g t) q i → IsKept g q i
same_added g t graph there q i unnamed kept =
    let back : with_triple (without_triple g t) t ≡ g = ap (λ ts. record g { triples = ts }) (put_back triple_cmp triple_total triple_exact t g.triples graph.ascending_triples there) in
    record {
      belongs = kept.belongs;
      exact = subst (λ h. IsExact q i.tree h i.dcg) back (unnamed_added q i.tree (without_triple g t) t i.dcg kept.belongs unnamed kept.exact);
    }

pub same_taken : (g : Graph) (t : Triple) (q : PatternGraph) (i : PatternIndex) → has_edge_labelled q t.label ≡ false → IsKept (with_triple g t) q i → IsKept g q i
same_taken g t q i unnamed kept = record {
  belongs = kept.belongs;
  exact = let P : Joined → Type 0 = λ j. IsExactOver j i.dcg in subst P (added_triple_joined q i.tree g t kept.belongs unnamed) kept.exact;
}

no_class : {X : Type 0} (class : ℕ → List X) (s n : ℕ) → ((i : ℕ) → i < n → class (s + i) ≡ []) → flat_map class (range_with_len s n) ≡ []
no_class class s zero none = refl
no_class class s (suc n) none =
    let first : class s ≡ [] = ap class (omega arith) ∙ none 0 (omega arith) in
    rw first (no_class class (s + 1) n (λ i low. ap class (omega arith) ∙ none (suc i) (omega arith)))

no_item : {X : Type 0} (xs : List X) → length xs ≡ 0 → xs ≡ []
no_item [] e = refl
no_item (x ∷ xs) e = cc

-- the triple brings nothing
pub unnamed_gain : (q : PatternGraph) (g : Graph) (t : Triple) → IsGraph g → has_triple g t ≡ true → has_edge_labelled q t.label ≡ false → gained q (without_triple g t) g ≡ []
unnamed_gain q g t graph there unnamed =
    let classes = gained_by_classes q g t graph there in
    let none : flat_map (edge_class q g t) (range_with_len 0 (length q.edges)) ≡ [] = no_class (edge_class q g t) 0 (length q.edges) (λ i low. ap (edge_class q g t) (omega arith) ∙ other_label q g t i (nth i) (at i low) (other i low)) in
    no_item (gained q (without_triple g t) g) (omega (arith, length_permutation (gained q (without_triple g t) g) (flat_map (edge_class q g t) (range_with_len 0 (length q.edges))) classes, ap length none))
  where
    any : PatternEdge
    any = record { tail = 0; label = []; head = 0 }

    nth : ℕ → PatternEdge
    nth i = get_or q.edges i any

    at : (i : ℕ) → i < length q.edges → slice_get q.edges i ≡ Some (nth i)
    at i low = slice_get-get_or q.edges i any low

    other : (i : ℕ) → i < length q.edges → bytes_eq (nth i).label t.label ≡ false
    other i low = false_from_ne_true (bytes_eq (nth i).label t.label) (λ on. both_ways (list_any (λ (f : PatternEdge). bytes_eq f.label t.label) q.edges) unnamed (list_any_at (λ (f : PatternEdge). bytes_eq f.label t.label) q.edges i any low on))

-- ---- at a place of a route

module _ (label : List ℕ) (qs : List PatternGraph) (places : List ℕ) (is : places ≡ places_with 0 label qs) (i : ℕ) (within : i < length places) where
  place_here : slice_get places i ≡ Some (get_or places i 0)
  place_here = slice_get-get_or places i 0 within

  pub place_is : place_at places i (length qs) ≡ get_or places i 0
  place_is = ap (λ o. unwrap_or o (length qs)) place_here

  pub turn_here : IsTurn label qs (get_or places i 0) (place_at places (i + 1) (length qs))
  turn_here = turn_at label qs places is i (get_or places i 0) place_here

  -- what is kept there is still so over the old graph
  pub kept_here : (old new : Graph) (indexes : List PatternIndex) (q : PatternGraph) (index : PatternIndex) → AreMoved old new (place_at places i (length qs)) qs indexes
      → slice_get qs (get_or places i 0) ≡ Some q → index ≡ get_or indexes (get_or places i 0) index → IsKept old q index
  kept_here old new indexes q index moved here read =
      moved.left (get_or places i 0) q index (omega (arith, place_is)) here (slice_get_read indexes (length qs) (get_or places i 0) index (sym moved.count) turn_here.inside read)

module _ (label : List ℕ) (old new : Graph) (same : (q : PatternGraph) (i : PatternIndex) → has_edge_labelled q label ≡ false → IsKept old q i → IsKept new q i) (qs : List PatternGraph) (places : List ℕ) where
  -- the pattern there moves
  pub moved_from : places ≡ places_with 0 label qs → (i : ℕ) → i < length places → (indexes now : List PatternIndex) (q : PatternGraph) (before after : PatternIndex)
      → AreMoved old new (place_at places i (length qs)) qs indexes → slice_get qs (get_or places i 0) ≡ Some q → now ≡ set indexes (get_or places i 0) after
      → BelongsTo q before.tree → after.tree ≡ before.tree → IsExact q before.tree new after.dcg
      → AreMoved old new (place_at places (i + 1) (length qs)) qs now
  moved_from is i within indexes now q before after moved here changed belongs tree exact =
      let at : AreMoved old new (get_or places i 0) qs indexes = subst (λ n. AreMoved old new n qs indexes) (place_is label qs places is i within) moved in
      moved_turn label old new same qs indexes now (get_or places i 0) (place_at places (i + 1) (length qs)) q after at (turn_here label qs places is i within) here changed (record {
        belongs = subst (BelongsTo q) (sym tree) belongs;
        exact = subst (λ t. IsExact q t new after.dcg) (sym tree) exact;
      })

  -- behind the last place all have moved
  pub moved_end : (i : ℕ) (indexes : List PatternIndex) → length places ≤ i → AreMoved old new (place_at places i (length qs)) qs indexes → AreKept new qs indexes
  moved_end i indexes past moved =
      moved_last label old new same qs indexes (place_at places i (length qs)) moved (omega (arith, ap (λ o. unwrap_or o (length qs)) (slice_get_past places i past)))
