-- The deltas that a walk of a route makes.
use Rattle.std.proofs.Common.{◌≡◌, ℕ, ◌+◌, ◌<◌, ◌≤◌, true, false, List, [], ◌++◌, length, take, get_or, refl, sym, ap, subst, arith}
use Rattle.std.specs.Prelude.{Some, IsPermutation}
use Rattle.std.specs.List.{slice_get}
use Rattle.std.specs.Option.{unwrap_or}
use Rattle.std.proofs.lemmas.List.{take_all}
use Rattle.std.proofs.lemmas.List.Sorted.{IsPermutation-refl}
use Rattle.std.proofs.lemmas.Option.{slice_get_past}
use Rattle.flux_model.specs.Change.{gained}
use Rattle.flux_model.specs.Graph.{Graph, IsGraph, has_triple, without_triple}
use Rattle.flux_model.specs.Pattern.{PatternGraph}
use Rattle.flux_model.specs.declared.graph.Triple.{Triple}
use Rattle.flux_model.specs.declared.maps.Delta.{Delta}
use Rattle.flux_model.specs.Deltas.{IsReordered, AreReordered, with_delta}
use Rattle.flux_model.proofs.DeltasLemmas.{AreBelow, below_next}
use Rattle.pattern_registry.specs.MovedRows.{deltas_of, gain, loss}
use Rattle.flux_laws.specs.JointsLaws.{has_edge_labelled}
use Rattle.pattern_registry.specs.Routes.{places_with, place_at}
use Rattle.pattern_registry.proofs.DeltaLemmas.{reordered_more, deltas_passed, below_larger, with_delta-none}
use Rattle.pattern_registry.proofs.RouteLemmas.{IsTurn, first_passed, first_few}
use Rattle.pattern_registry.proofs.MovedLemmas.{place_is, turn_here, unnamed_gain}

-- a pattern that has no edge with the label has no map
abbrev pub PassesUnnamed : List ℕ → (ℕ → PatternGraph → Delta) → Type 0
PassesUnnamed label made = (j : ℕ) (q : PatternGraph) → has_edge_labelled q label ≡ false → with_delta (made j q) [] ≡ []

module _ (label : List ℕ) (made : ℕ → PatternGraph → Delta) (none : PassesUnnamed label made) (qs : List PatternGraph) (places : List ℕ) (is : places ≡ places_with 0 label qs) where
  pub deltas_first : (deltas : List Delta) → deltas ≡ [] → AreReordered (deltas_of made 0 (take (place_at places 0 (length qs)) qs)) deltas
  deltas_first deltas e =
      let next : ℕ = place_at places 0 (length qs) in
      rw (deltas_passed made qs 0 next (omega arith) (first_few label qs places is) (λ j q low high here. none j q (first_passed label qs places is j q low high here)), e) tt

  pub deltas_turn : (i : ℕ) → i < length places → (q : PatternGraph) (d : Delta) (old new : List Delta) → AreReordered (deltas_of made 0 (take (place_at places i (length qs)) qs)) old
      → slice_get qs (get_or places i 0) ≡ Some q → IsReordered (made (get_or places i 0) q) d → new ≡ old ++ with_delta d [] → AreReordered (deltas_of made 0 (take (place_at places (i + 1) (length qs)) qs)) new
  deltas_turn i within q d old new before here same now =
      let k : ℕ = get_or places i 0 in
      let next : ℕ = place_at places (i + 1) (length qs) in
      let turn : IsTurn label qs k next = turn_here label qs places is i within in
      let at : AreReordered (deltas_of made 0 (take k qs)) old = subst (λ n. AreReordered (deltas_of made 0 (take n qs)) old) (place_is label qs places is i within) before in
      let passed : deltas_of made 0 (take next qs) ≡ deltas_of made 0 (take (k + 1) qs) =
      deltas_passed made qs (k + 1) next (omega (arith, turn.above)) turn.few (λ j p low high e. none j p (turn.passed j p low high e)) in
      subst (λ l. AreReordered l new) (sym passed) (reordered_more made qs k q d old new here same at now)

  pub below_turn : (i : ℕ) → i < length places → (d : Delta) (old new : List Delta) → AreBelow (place_at places i (length qs)) old → d.pattern ≡ get_or places i 0 → new ≡ old ++ with_delta d []
      → AreBelow (place_at places (i + 1) (length qs)) new
  below_turn i within d old new before at now =
      let k : ℕ = get_or places i 0 in
      let turn : IsTurn label qs k (place_at places (i + 1) (length qs)) = turn_here label qs places is i within in
      below_larger (k + 1) (place_at places (i + 1) (length qs)) new (omega (arith, turn.above))
      (below_next k old new d at (subst (λ n. AreBelow n old) (place_is label qs places is i within) before) now)

  pub above_here : (i : ℕ) → i < length places → (old : List Delta) → AreBelow (place_at places i (length qs)) old → AreBelow (get_or places i 0) old
  above_here i within old before = subst (λ n. AreBelow n old) (place_is label qs places is i within) before

  pub deltas_last : (i : ℕ) (deltas : List Delta) → length places ≤ i → AreReordered (deltas_of made 0 (take (place_at places i (length qs)) qs)) deltas → AreReordered (deltas_of made 0 qs) deltas
  deltas_last i deltas past all =
      subst (λ l. AreReordered (deltas_of made 0 l) deltas)
      (take_all (place_at places i (length qs)) qs (omega (arith, ap (λ o. unwrap_or o (length qs)) (slice_get_past places i past)))) all

-- ---- of a triple that comes or goes

module _ (g : Graph) (t : Triple) (graph : IsGraph g) (there : has_triple g t ≡ true) where
  pub no_gain : PassesUnnamed t.label (gain (without_triple g t) g)
  no_gain j q unnamed = with_delta-none (gain (without_triple g t) g j q) [] (unnamed_gain q g t graph there unnamed) refl

  pub no_loss : PassesUnnamed t.label (loss g (without_triple g t))
  no_loss j q unnamed = with_delta-none (loss g (without_triple g t) j q) [] refl (unnamed_gain q g t graph there unnamed)

pub gain_is : (small large : Graph) (k : ℕ) (q : PatternGraph) (maps none : List (List ℕ)) → IsPermutation (gained q small large) maps → none ≡ []
    → IsReordered (gain small large k q) (record { pattern = k; gained = maps; lost = none })
gain_is small large k q maps none all e = record { pattern = refl; gained = all; lost = subst (λ l. IsPermutation [] l) (sym e) (IsPermutation-refl []) }

pub loss_is : (large small : Graph) (k : ℕ) (q : PatternGraph) (maps none : List (List ℕ)) → IsPermutation (gained q small large) maps → none ≡ []
    → IsReordered (loss large small k q) (record { pattern = k; gained = none; lost = maps })
loss_is large small k q maps none all e = record { pattern = refl; gained = subst (λ l. IsPermutation [] l) (sym e) (IsPermutation-refl []); lost = all }
