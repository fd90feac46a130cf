use Rattle.pattern_registry.proofs.IndexLemmas.{started-indexed, started-exact, started-trees}
use Rattle.pattern_registry.proofs.registry.Registry.start.Goals as goal

pub invariant_of-result : goal.invariant_of-result
invariant_of-result g c = record {
  indexed = started-indexed (g.G.HoldGraph.graph c.args.graph.now) c.args.patterns c.in_ok-indexes.indexes.items c.in_ok-indexes.ensures.started;
  routed = c.in_ok-routes.ensures;
}

pub returns-clause-trees : goal.returns-clause-trees
returns-clause-trees g c = started-trees (g.G.HoldGraph.graph c.args.graph.now) c.args.patterns c.in_ok-indexes.indexes.items c.in_ok-indexes.ensures.started

pub returns-clause-exact : goal.returns-clause-exact
returns-clause-exact g c = started-exact (g.G.HoldGraph.graph c.args.graph.now) c.args.patterns c.in_ok-indexes.indexes.items c.in_ok-indexes.ensures.started
