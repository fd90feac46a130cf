use Rattle.std.proofs.Common.{◌≡◌, ◌+◌, ◌≤◌, length, take}
use Rattle.label_cards.specs.Plans.{AreTestsKept, AreTestsOf, IsPlan}
use Rattle.label_cards.proofs.plan.Plan.test_places.Given as goal

-- the tests of the edges before k have their places, no test has moved, and no more have come
abbrev pub invariant-loop-k : goal.invariant-loop-k
invariant-loop-k g l = record {
  plan : IsPlan (g.G.HoldGraph.label_text l.graph) l.self;
  kept : AreTestsKept l.fn.self.tests.items l.self.tests.items;
  few : length l.self.tests.items ≤ length l.fn.self.tests.items + l.k;
  sets : l.self.sets ≡ l.fn.self.sets;
  places : AreTestsOf (g.G.HoldGraph.label_text l.graph) (g.G.HoldGraph.graph l.graph) l.self.tests.items l.sets (take l.k l.pattern.edges) l.places.items;
}
