-- Deltas that a loop makes pattern by pattern, where it passes over patterns without a map.
use Rattle.std.proofs.Common.{◌≡◌, ℕ, zero, suc, ◌+◌, ◌-◌, ◌<◌, ◌≤◌, List, [], ◌∷◌, ◌++◌, length, take, refl, sym, ap, subst, ◌∙◌, arith, get_or}
use Rattle.std.specs.Prelude.{Some}
use Rattle.std.specs.List.{slice_get}
use Rattle.std.proofs.lemmas.List.{length-take, append-nil}
use Rattle.std.proofs.lemmas.Option.{slice_get_within, slice_get-get_or}
use Rattle.flux_model.specs.Pattern.{PatternGraph}
use Rattle.flux_model.specs.declared.maps.Delta.{Delta}
use Rattle.flux_model.specs.declared.pattern.Mode.TheVariants.{Hom}
use Rattle.flux_model.specs.Deltas.{IsReordered, AreReordered, with_delta}
use Rattle.flux_model.proofs.DeltasLemmas.{with_delta-append, AreBelow}
use Rattle.flux_model.proofs.PlaceLemmas.{take_next}
use Rattle.pattern_registry.proofs.AnswerLemmas.{with_delta-reordered}
use Rattle.pattern_registry.proofs.ZipLemmas.{AllZip-append}
use Rattle.pattern_registry.specs.MovedRows.{deltas_of}

-- a delta without a map adds nothing
pub with_delta-none : (d : Delta) (deltas : List Delta) → d.gained ≡ [] → d.lost ≡ [] → with_delta d deltas ≡ deltas
with_delta-none d deltas a b = rw (a, b) refl

module _ (made : ℕ → PatternGraph → Delta) where
  deltas_of-append : (i : ℕ) (qs rs : List PatternGraph) → deltas_of made i (qs ++ rs) ≡ deltas_of made i qs ++ deltas_of made (i + length qs) rs
  deltas_of-append i [] rs = ap (λ n. deltas_of made n rs) (omega arith)
  deltas_of-append i (q ∷ qs) rs =
      let number : suc i + length qs ≡ i + length (q ∷ qs) = omega arith in
      ap (with_delta (made i q)) (deltas_of-append (suc i) qs rs)
      ∙ with_delta-append (made i q) (deltas_of made (suc i) qs) (deltas_of made (suc i + length qs) rs)
      ∙ ap (λ n. with_delta (made i q) (deltas_of made (suc i) qs) ++ deltas_of made n rs) number

  deltas_next : (qs : List PatternGraph) (k : ℕ) (q : PatternGraph) → slice_get qs k ≡ Some q → deltas_of made 0 (take (k + 1) qs) ≡ deltas_of made 0 (take k qs) ++ with_delta (made k q) []
  deltas_next qs k q e =
      let within : k < length qs = slice_get_within qs k q e in
      let number : 0 + length (take k qs) ≡ k = omega (arith, length-take k qs) in
      ap (deltas_of made 0) (take_next qs k q e) ∙ deltas_of-append 0 (take k qs) (q ∷ [])
      ∙ ap (λ n. deltas_of made 0 (take k qs) ++ with_delta (made n q) []) number

  -- one delta more
  pub reordered_more : (qs : List PatternGraph) (k : ℕ) (q : PatternGraph) (d : Delta) (old new : List Delta) → slice_get qs k ≡ Some q → IsReordered (made k q) d
      → AreReordered (deltas_of made 0 (take k qs)) old → new ≡ old ++ with_delta d [] → AreReordered (deltas_of made 0 (take (k + 1) qs)) new
  reordered_more qs k q d old new e same before now =
      rw (deltas_next qs k q e, now)
      (AllZip-append IsReordered (deltas_of made 0 (take k qs)) (with_delta (made k q) []) old (with_delta d []) before (with_delta-reordered (made k q) d same))

  -- patterns without a map are passed over
  abbrev pub HaveNoMap : List PatternGraph → ℕ → ℕ → Type 0
  HaveNoMap qs from to = (j : ℕ) (q : PatternGraph) → from ≤ j → j < to → slice_get qs j ≡ Some q → with_delta (made j q) [] ≡ []

  passed_by : (qs : List PatternGraph) (from n : ℕ) → from + n ≤ length qs → HaveNoMap qs from (from + n) → deltas_of made 0 (take (from + n) qs) ≡ deltas_of made 0 (take from qs)
  passed_by qs from zero few none = ap (λ k. deltas_of made 0 (take k qs)) (omega arith)
  passed_by qs from (suc n) few none =
      let any : PatternGraph = record { name = []; mode = Hom; labels = []; edges = [] } in
      let k : ℕ = from + n in
      let q : PatternGraph = get_or qs k any in
      let here : slice_get qs k ≡ Some q = slice_get-get_or qs k any (omega arith) in
      let number : from + suc n ≡ k + 1 = omega arith in
      ap (λ k. deltas_of made 0 (take k qs)) number ∙ deltas_next qs k q here
      ∙ ap (λ l. deltas_of made 0 (take k qs) ++ l) (none k q (omega arith) (omega arith) here) ∙ append-nil (deltas_of made 0 (take k qs))
      ∙ passed_by qs from n (omega arith) (λ j q low high e. none j q low (omega arith) e)

  pub deltas_passed : (qs : List PatternGraph) (from to : ℕ) → from ≤ to → to ≤ length qs → HaveNoMap qs from to → deltas_of made 0 (take to qs) ≡ deltas_of made 0 (take from qs)
  deltas_passed qs from to up few none =
      let is : from + (to - from) ≡ to = omega arith in
      ap (λ k. deltas_of made 0 (take k qs)) (sym is) ∙ passed_by qs from (to - from) (omega arith) (subst (λ k. HaveNoMap qs from k) (sym is) none)

-- what is below a number is below a larger one
pub below_larger : (n m : ℕ) (ds : List Delta) → n ≤ m → AreBelow n ds → AreBelow m ds
below_larger n m [] h a = tt
below_larger n m (d ∷ ds) h a = (omega arith, below_larger n m ds h a.1)
