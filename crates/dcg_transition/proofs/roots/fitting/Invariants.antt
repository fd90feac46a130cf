use Rattle.std.proofs.Common.{◌≡◌, ◌+◌, ◌*◌, ◌≤◌, take}
use Rattle.dcg_transition.specs.Roots.{with_labels}
use Rattle.dcg_transition.proofs.roots.fitting.Given as goal

-- of the vertices that are listed before place i, those that fit are there; each took two steps
abbrev pub invariant-loop-i : goal.invariant-loop-i
invariant-loop-i g l = record {
  vertices : l.vertices.items ≡ with_labels (g.G.HoldGraph.graph l.graph) l.labels (take l.i (g.G.HoldGraph.listed l.graph));
  steps : l.steps ≤ l.fn.steps + 2 * l.i;
}
