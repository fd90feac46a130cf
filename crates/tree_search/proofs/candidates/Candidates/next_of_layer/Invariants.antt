use Rattle.std.proofs.Common.{◌≡◌, ◌+◌, ◌≤◌}
use Rattle.tree_search.specs.CandidatesLeft.{listed_from}
use Rattle.tree_search.proofs.candidates.Candidates.next_of_layer.Given as goal

-- none was passed that a triple leads to
abbrev pub invariant-loop-i : goal.invariant-loop-i
invariant-loop-i g l = record {
  same : listed_from (g.G.HoldGraph.graph l.graph) l.self l.i ≡ listed_from (g.G.HoldGraph.graph l.graph) l.self l.from;
  steps : l.steps + l.from ≤ l.fn.steps + l.i;
}
