use Rattle.std.proofs.Common.{sym, ap, subst}
use Rattle.flux_model.specs.Graph.{Graph}
use Rattle.dcg_updates.proofs.CallerLemmas.{added}
use Rattle.pattern_registry.specs.States.{PatternStates}
use Rattle.pattern_registry.specs.MovedRows.{AreKept}
use Rattle.pattern_registry.proofs.ApplyLemmas.{kept_of, indexed_broken, indexed_kept, exact_of, edge_gains}
use Rattle.pattern_registry.proofs.UpdateCostLemmas.{insert_cost}
use Rattle.pattern_registry.proofs.registry.Registry.insert.Goals as goal

pub insert_along-requires-clause-stands : goal.insert_along-requires-clause-stands
insert_along-requires-clause-stands b c =
    let ok = rw c.in_default.is at c.in_ok-code.ensures.ok in
    (added (b.G.HoldGraph.limits c.args.graph.now) (b.G.HoldGraph.graph c.args.graph.now) (b.G.HoldGraph.graph c.insert.new.self) c.args.triple.now ok).stands

pub insert_along-requires-clause-was : goal.insert_along-requires-clause-was
insert_along-requires-clause-was b c =
    let ok = rw c.in_default.is at c.in_ok-code.ensures.ok in
    let a = added (b.G.HoldGraph.limits c.args.graph.now) (b.G.HoldGraph.graph c.args.graph.now) (b.G.HoldGraph.graph c.insert.new.self) c.args.triple.now ok in
    let self = c.self.inside in
    let P : Graph → Type 0 = λ k. AreKept k self.patterns self.indexes.items in
    subst P (sym a.was) (kept_of self.patterns self.indexes.items self.is_broken c.self.invariant.indexed c.args.self.now (b.G.HoldGraph.graph c.args.graph.now) c.self.view_is c.requires)

pub invariant_of-self-in_err-deltas : goal.invariant_of-self-in_err-deltas
invariant_of-self-in_err-deltas b c =
    let self = c.self.inside in
    record {
      indexed = indexed_broken self.patterns self.indexes.items self.is_broken c.self.invariant.indexed c.insert_along.new.indexes.items c.insert_along.ensures.trees;
      routed = c.self.invariant.routed;
    }

pub invariant_of-self-2 : goal.invariant_of-self-2
invariant_of-self-2 b c =
    let self = c.self.inside in
    record {
      indexed = indexed_kept self.patterns self.indexes.items self.is_broken c.self.invariant.indexed c.insert_along.new.indexes.items c.insert_along.ensures.trees (b.G.HoldGraph.graph c.insert.new.self) c.in_ok-deltas.ensures.kept;
      routed = c.self.invariant.routed;
    }

pub returns-clause-deltas : goal.returns-clause-deltas
returns-clause-deltas b c =
    let ok = rw c.in_default.is at c.in_ok-code.ensures.ok in
    let self = c.self.inside in
    edge_gains (b.G.HoldGraph.limits c.args.graph.now) (b.G.HoldGraph.graph c.args.graph.now) (b.G.HoldGraph.graph c.insert.new.self) c.args.triple.now self.patterns c.args.self.now.patterns c.in_ok-deltas.deltas ok
    (ap (λ (s : PatternStates). s.patterns) c.self.view_is) c.in_ok-deltas.ensures.deltas

pub returns-clause-exact : goal.returns-clause-exact
returns-clause-exact b c =
    exact_of c.self.inside.patterns c.insert_along.new.indexes.items (b.G.HoldGraph.graph c.insert.new.self) c.in_ok-deltas.ensures.kept

pub returns-clause-steps : goal.returns-clause-steps
returns-clause-steps b c =
    let ok = rw c.in_default.is at c.in_ok-code.ensures.ok in
    let self = c.self.inside in
    insert_cost c.args.self.now self.patterns self.indexes.items self.is_broken c.self.view_is (b.G.HoldGraph.limits c.args.graph.now) (b.G.HoldGraph.graph c.args.graph.now) (b.G.HoldGraph.graph c.insert.new.self)
    c.args.steps.now c.insert_along.new.steps c.args.triple.now ok c.in_ok-deltas.ensures.steps
