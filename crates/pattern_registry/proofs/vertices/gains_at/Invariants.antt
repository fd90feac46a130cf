use Rattle.std.proofs.Common.{◌≡◌, ℕ, ◌+◌, ◌<◌, ◌≤◌, take}
use Rattle.std.specs.Prelude.{Some}
use Rattle.std.specs.List.{AllByRecursion, slice_get}
use Rattle.flux_model.specs.Deltas.{AreReordered}
use Rattle.flux_model.specs.Graph.{Graph}
use Rattle.flux_model.specs.Pattern.{PatternGraph, IsPattern}
use Rattle.flux_model.specs.declared.maps.Delta.{Delta}
use Rattle.pattern_registry.specs.MovedRows.{AreKept, deltas_of}
use Rattle.pattern_registry.specs.SoleVertex.{sole_gain}
use Rattle.pattern_registry.proofs.vertices.gains_at.Given as goal

-- the patterns so far are done
abbrev pub invariant-loop-k : goal.invariant-loop-k
invariant-loop-k g l = record {
  deltas : (h : Graph) → AreKept h l.patterns l.indexes.items → AreReordered (deltas_of (sole_gain h l.id) 0 (take l.k l.patterns)) l.deltas;
  below : AllByRecursion (λ (d : Delta). d.pattern < l.k) l.deltas;
  patterns : (j : ℕ) (q : PatternGraph) → j < l.k → slice_get l.patterns j ≡ Some q → IsPattern q;
  steps : l.steps ≤ l.fn.steps + l.k;
}
