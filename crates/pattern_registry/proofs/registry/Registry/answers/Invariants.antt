use Rattle.std.proofs.Common.{◌+◌, ◌<◌, ◌≤◌, take, drop}
use Rattle.std.specs.List.{AllByRecursion}
use Rattle.flux_model.specs.declared.maps.Delta.{Delta}
use Rattle.flux_model.specs.Deltas.{answer_deltas, AreReordered}
use Rattle.pattern_registry.specs.AnswerCosts.{MeetNoDeadEnd, no_dead_end_costs}
use Rattle.pattern_registry.proofs.registry.Registry.answers.Given as goal

-- the answers of the patterns so far, which ascend; and what was spent, with what the others may cost
abbrev pub invariant-loop-k : goal.invariant-loop-k
invariant-loop-k g l = record {
  all : AreReordered (answer_deltas 0 (g.G.HoldGraph.graph l.graph) (take l.k l.self.patterns)) l.deltas;
  below : AllByRecursion (λ (d : Delta). d.pattern < l.k) l.deltas;
  steps : MeetNoDeadEnd l.self.patterns l.self.trees → l.steps + no_dead_end_costs (g.G.HoldGraph.graph l.graph) (drop l.k l.self.patterns) (drop l.k l.self.trees) ≤ l.fn.steps + no_dead_end_costs (g.G.HoldGraph.graph l.graph) l.self.patterns l.self.trees;
}
