use Rattle.std.proofs.Common.{refl, arith}
use Rattle.std.proofs.lemmas.Option.{slice_get_within}
use Rattle.flux_model.proofs.DeltasLemmas.{below_next}
use Rattle.pattern_registry.proofs.StepLemmas.{index_here, pattern_next, sole_gains_next}
use Rattle.pattern_registry.proofs.vertices.gains_at.Goals as goal

pub maps_at-requires-clause-belongs : goal.maps_at-requires-clause-belongs
maps_at-requires-clause-belongs g c =
    (index_here c.requires.0 c.args.patterns.now c.args.indexes.now.items c.loop-k.k c.get.result.now c.index.result.now c.requires.1 c.get.ensures c.index.ensures).belongs

pub maps_at-requires-clause-exact : goal.maps_at-requires-clause-exact
maps_at-requires-clause-exact g c =
    (c.requires.0, (index_here c.requires.0 c.args.patterns.now c.args.indexes.now.items c.loop-k.k c.get.result.now c.index.result.now c.requires.1 c.get.ensures c.index.ensures).exact)

pub loop-k-preserved : goal.loop-k-preserved
loop-k-preserved g c = record {
  deltas = λ h kept.
      sole_gains_next h c.args.id c.args.patterns.now c.loop-k.k c.get.result.now c.in_ok-gained.gained c.new.result c.loop-k.deltas c.add_unless_empty.new.self c.get.ensures
      (c.in_ok-gained.ensures.maps h (index_here h c.args.patterns.now c.args.indexes.now.items c.loop-k.k c.get.result.now c.index.result.now kept c.get.ensures c.index.ensures).exact)
      c.new.ensures (c.loop-k.invariant.deltas h kept) c.in_ok-add_unless_empty.ensures.ok;
  below = below_next c.loop-k.k c.loop-k.deltas c.add_unless_empty.new.self (record { pattern = c.loop-k.k; gained = c.in_ok-gained.gained; lost = c.new.result }) refl c.loop-k.invariant.below c.in_ok-add_unless_empty.ensures.ok;
  patterns = pattern_next c.args.patterns.now c.loop-k.k c.get.result.now c.get.ensures c.maps_at.ensures.pattern c.loop-k.invariant.patterns;
  steps = omega (arith, c.loop-k.invariant.steps, c.maps_at.ensures.steps);
}

pub returns-clause-patterns : goal.returns-clause-patterns
returns-clause-patterns g c = λ k q here. c.loop-k.invariant.patterns k q (omega (arith, slice_get_within c.args.patterns.now k q here, c.loop-k-test.false, c.count-k-end.ensures.count)) here
