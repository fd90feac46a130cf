use Rattle.std.proofs.Common.{◌∙◌, sym, ap, subst}
use Rattle.flux_model.specs.Graph.{Graph}
use Rattle.dcg_updates.proofs.CallerLemmas.{taken}
use Rattle.pattern_registry.specs.States.{PatternStates}
use Rattle.pattern_registry.specs.MovedRows.{AreKept}
use Rattle.pattern_registry.proofs.ApplyLemmas.{kept_of, indexed_kept, exact_of, edge_losses}
use Rattle.pattern_registry.proofs.UpdateCostLemmas.{removable, remove_cost}
use Rattle.pattern_registry.proofs.registry.Registry.remove.Goals as goal

pub losses_along-requires-clause-kept : goal.losses_along-requires-clause-kept
losses_along-requires-clause-kept b c =
    let self = c.self.inside in
    kept_of self.patterns self.indexes.items self.is_broken c.self.invariant.indexed c.args.self.now (b.G.HoldGraph.graph c.args.graph.now) c.self.view_is c.requires

pub delete_along-requires-clause-gone : goal.delete_along-requires-clause-gone
delete_along-requires-clause-gone b c =
    (taken (b.G.HoldGraph.limits c.args.graph.now) (b.G.HoldGraph.graph c.args.graph.now) (b.G.HoldGraph.graph c.remove.new.self) c.args.triple.now c.edge_count-before.ensures.held.graph c.in_default.ensures.ok).gone

pub delete_along-requires-clause-was : goal.delete_along-requires-clause-was
delete_along-requires-clause-was b c =
    let a = taken (b.G.HoldGraph.limits c.args.graph.now) (b.G.HoldGraph.graph c.args.graph.now) (b.G.HoldGraph.graph c.remove.new.self) c.args.triple.now c.edge_count-before.ensures.held.graph c.in_default.ensures.ok in
    let self = c.self.inside in
    let P : Graph → Type 0 = λ k. AreKept k self.patterns self.indexes.items in
    subst P (sym a.was) (kept_of self.patterns self.indexes.items self.is_broken c.self.invariant.indexed c.args.self.now (b.G.HoldGraph.graph c.args.graph.now) c.self.view_is c.requires)

pub invariant_of-self-2 : goal.invariant_of-self-2
invariant_of-self-2 b c =
    let self = c.self.inside in
    record {
      indexed = indexed_kept self.patterns self.indexes.items self.is_broken c.self.invariant.indexed c.delete_along.new.indexes.items c.delete_along.ensures.trees (b.G.HoldGraph.graph c.remove.new.self) c.delete_along.ensures.kept;
      routed = c.self.invariant.routed;
    }

pub returns-clause-deltas : goal.returns-clause-deltas
returns-clause-deltas b c =
    let self = c.self.inside in
    edge_losses (b.G.HoldGraph.limits c.args.graph.now) (b.G.HoldGraph.graph c.args.graph.now) (b.G.HoldGraph.graph c.remove.new.self) c.args.triple.now self.patterns c.args.self.now.patterns c.in_ok-deltas.deltas c.in_default.ensures.ok
    (ap (λ (s : PatternStates). s.patterns) c.self.view_is) c.in_ok-deltas.ensures.deltas

pub returns-clause-exact : goal.returns-clause-exact
returns-clause-exact b c =
    exact_of c.self.inside.patterns c.delete_along.new.indexes.items (b.G.HoldGraph.graph c.remove.new.self) c.delete_along.ensures.kept

pub returns-in-Err-clause-steps : goal.returns-in-Err-clause-steps
returns-in-Err-clause-steps b c =
    absurd (removable (b.G.HoldGraph.limits c.args.graph.now) (b.G.HoldGraph.graph c.args.graph.now) c.args.triple.now c.in-Err.code c.edge_count-before.ensures.held.graph
    (sym c.has_edge.ensures.value ∙ c.if-not-has_edge.false) c.in-Err.ensures.refused)

pub returns-clause-steps : goal.returns-clause-steps
returns-clause-steps b c =
    let self = c.self.inside in
    remove_cost c.args.self.now self.patterns self.indexes.items self.is_broken c.self.view_is (b.G.HoldGraph.limits c.args.graph.now) (b.G.HoldGraph.graph c.args.graph.now) (b.G.HoldGraph.graph c.remove.new.self)
    c.args.steps.now c.delete_along.new.steps c.args.triple.now c.has_edge.new.steps c.losses_along.new.steps c.edge_count-before.ensures.held.graph c.in_default.ensures.ok c.has_edge.ensures.step
    c.in_ok-deltas.ensures.steps c.delete_along.ensures.steps
