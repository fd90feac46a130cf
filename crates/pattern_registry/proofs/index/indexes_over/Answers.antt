use Rattle.std.proofs.Common.{arith}
use Rattle.flux_model.specs.Tree.{cards}
use Rattle.pattern_registry.proofs.IndexLemmas.{started_next, started-all}
use Rattle.pattern_registry.proofs.StartLemmas.{made-at, no-lists, start-next, start-end}
use Rattle.pattern_registry.proofs.index.indexes_over.Goals as goal

pub loop-k-init : goal.loop-k-init
loop-k-init g c = record {
  started = rw c.new-indexes.ensures.items tt;
  lists = no-lists (g.G.HoldGraph.graph c.args.graph.now) (g.G.HoldGraph.listed c.args.graph.now) c.new-lists.result.lists.items c.new-lists.ensures;
  steps = omega (arith, c.in_ok-cards.ensures.steps);
}

pub build-requires-clause-cards : goal.build-requires-clause-cards
build-requires-clause-cards g c =
    made-at (λ q. cards q (g.G.HoldGraph.graph c.args.graph.now)) c.args.patterns.now c.in_ok-cards.cards.items c.loop-k.k c.get-pattern.result.now c.index.result.now c.in_ok-cards.ensures.cards c.get-pattern.ensures c.index.ensures

pub loop-k-preserved : goal.loop-k-preserved
loop-k-preserved g c =
    record {
      started = started_next (g.G.HoldGraph.graph c.args.graph.now) c.args.patterns.now c.loop-k.indexes.items c.push.new.self.items c.loop-k.k c.get-pattern.result.now c.in_ok-index.index c.get-pattern.ensures c.loop-k.invariant.started
          (record { chosen = c.in_ok-index.ensures.tree; belongs = c.in_ok-index.ensures.belongs; exact = c.in_ok-index.ensures.exact })
          c.in_ok-push.ensures.items;
      lists = c.in_ok-index.ensures.lists;
      steps = start-next (g.G.HoldGraph.graph c.args.graph.now) c.args.patterns.now c.loop-k.k c.get-pattern.result.now c.args.steps.now c.loop-k.steps c.build.new.steps c.get-pattern.ensures c.loop-k.invariant.steps
          c.in_ok-index.ensures.steps;
    }

pub returns-clause-started : goal.returns-clause-started
returns-clause-started g c =
    started-all (g.G.HoldGraph.graph c.args.graph.now) c.loop-k.k c.args.patterns.now c.loop-k.indexes.items (omega (arith, c.loop-k-test.false, c.count-k-end.ensures.count)) c.loop-k.invariant.started

pub returns-clause-steps : goal.returns-clause-steps
returns-clause-steps g c =
    start-end (g.G.HoldGraph.graph c.args.graph.now) c.args.patterns.now c.loop-k.k c.args.steps.now c.loop-k.steps (omega (arith, c.loop-k-test.false, c.count-k-end.ensures.count)) c.loop-k.invariant.steps
