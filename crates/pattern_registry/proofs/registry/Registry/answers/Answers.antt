use Rattle.std.proofs.Common.{length, refl, ap, subst, arith}
use Rattle.flux_model.proofs.DeltasLemmas.{below_next}
use Rattle.pattern_registry.specs.States.{PatternStates, IsIndexed}
use Rattle.pattern_registry.proofs.AnswerLemmas.{at_place, reordered_next}
use Rattle.pattern_registry.proofs.CostLemmas.{no_dead_end_costs-next}
use Rattle.pattern_registry.proofs.registry.Registry.answers.Goals as goal

pub loop-k-preserved : goal.loop-k-preserved
loop-k-preserved g c =
    let graph = g.G.HoldGraph.graph c.args.graph.now in
    let s = c.args.self.now in
    let patterns = ap (λ (p : PatternStates). length p.patterns) c.self.view_is in
    let pattern = at_place s.patterns c.loop-k.k (omega (arith, patterns)) in
    let tree = at_place s.trees c.loop-k.k (omega (arith, patterns, (subst IsIndexed c.self.view_is c.self.invariant.indexed).trees)) in
    record {
      all = reordered_next graph s.patterns c.loop-k.k pattern.0 c.loop-k.deltas c.add_unless_empty.new.self c.in_ok-gained.gained c.new.result pattern.1 (c.in_ok-gained.ensures.answers pattern.0 pattern.1) c.new.ensures c.loop-k.invariant.all c.in_ok-add_unless_empty.ensures.ok;
      below = below_next c.loop-k.k c.loop-k.deltas c.add_unless_empty.new.self (record { pattern = c.loop-k.k; gained = c.in_ok-gained.gained; lost = c.new.result }) refl c.loop-k.invariant.below c.in_ok-add_unless_empty.ensures.ok;
      steps = λ live. omega (arith, no_dead_end_costs-next graph s.patterns s.trees c.loop-k.k pattern.0 tree.0 pattern.1 tree.1, c.in_ok-gained.ensures.steps pattern.0 tree.0 pattern.1 tree.1 (live.each c.loop-k.k pattern.0 tree.0 pattern.1 tree.1), c.loop-k.invariant.steps live);
    }
