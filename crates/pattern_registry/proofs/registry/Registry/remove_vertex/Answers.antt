use Rattle.std.proofs.Common.{ap, arith}
use Rattle.dcg_updates.proofs.CallerLemmas.{vertex_went}
use Rattle.pattern_registry.specs.States.{PatternStates}
use Rattle.pattern_registry.proofs.ApplyLemmas.{kept_of, indexed_broken, indexed_kept, exact_of}
use Rattle.pattern_registry.proofs.SoleLemmas.{vertex_losses}
use Rattle.pattern_registry.proofs.UpdateCostLemmas.{remove_vertex_cost}
use Rattle.pattern_registry.proofs.registry.Registry.remove_vertex.Goals as goal

pub losses_at-requires : goal.losses_at-requires
losses_at-requires b c =
    let self = c.self.inside in
    (b.G.HoldGraph.graph c.args.graph.now, kept_of self.patterns self.indexes.items self.is_broken c.self.invariant.indexed c.args.self.now (b.G.HoldGraph.graph c.args.graph.now) c.self.view_is c.requires)

pub move_all-requires : goal.move_all-requires
move_all-requires b c =
    let g = b.G.HoldGraph.graph c.args.graph.now in
    let self = c.self.inside in
    record {
      was = (
        g,
        vertex_went (b.G.HoldGraph.limits c.args.graph.now) g (b.G.HoldGraph.graph c.remove_vertex.new.self) c.args.id c.in_default.ensures.ok,
        kept_of self.patterns self.indexes.items self.is_broken c.self.invariant.indexed c.args.self.now g c.self.view_is c.requires,
      );
    }

pub invariant_of-self-in_err-move_all : goal.invariant_of-self-in_err-move_all
invariant_of-self-in_err-move_all b c =
    let self = c.self.inside in
    record {
      indexed = indexed_broken self.patterns self.indexes.items self.is_broken c.self.invariant.indexed c.move_all.new.indexes.items c.move_all.ensures.trees;
      routed = c.self.invariant.routed;
    }

pub invariant_of-self-2 : goal.invariant_of-self-2
invariant_of-self-2 b c =
    let self = c.self.inside in
    record {
      indexed = indexed_kept self.patterns self.indexes.items self.is_broken c.self.invariant.indexed c.move_all.new.indexes.items c.move_all.ensures.trees (b.G.HoldGraph.graph c.remove_vertex.new.self) c.in_ok-move_all.ensures.kept;
      routed = c.self.invariant.routed;
    }

pub returns-clause-deltas : goal.returns-clause-deltas
returns-clause-deltas b c =
    let g = b.G.HoldGraph.graph c.args.graph.now in
    let self = c.self.inside in
    vertex_losses (b.G.HoldGraph.limits c.args.graph.now) g (b.G.HoldGraph.graph c.remove_vertex.new.self) c.args.id self.patterns c.args.self.now.patterns c.in_ok-deltas.deltas
    c.edge_count-before.ensures.held.graph c.in_default.ensures.ok (ap (λ (s : PatternStates). s.patterns) c.self.view_is)
    c.in_ok-deltas.ensures.patterns (c.in_ok-deltas.ensures.deltas g (kept_of self.patterns self.indexes.items self.is_broken c.self.invariant.indexed c.args.self.now g c.self.view_is c.requires))

pub returns-clause-exact : goal.returns-clause-exact
returns-clause-exact b c =
    exact_of c.self.inside.patterns c.move_all.new.indexes.items (b.G.HoldGraph.graph c.remove_vertex.new.self) c.in_ok-move_all.ensures.kept

pub returns-clause-steps : goal.returns-clause-steps
returns-clause-steps b c =
    let self = c.self.inside in
    remove_vertex_cost c.args.self.now self.patterns self.indexes.items self.is_broken c.self.view_is (b.G.HoldGraph.limits c.args.graph.now) (b.G.HoldGraph.graph c.args.graph.now) (b.G.HoldGraph.graph c.remove_vertex.new.self)
    c.args.steps.now c.move_all.new.steps c.self.invariant.indexed c.args.id c.in_default.ensures.ok (omega (arith, c.in_ok-move_all.ensures.steps, c.in_ok-deltas.ensures.steps))
