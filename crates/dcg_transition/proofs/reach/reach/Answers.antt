use Rattle.std.proofs.Common.{◌+◌, ◌*◌, length, lt-ltb, ◌∙◌, arith}
use Rattle.flux_model.specs.States.{joined}
use Rattle.query_tree.specs.Depth.{depth}
use Rattle.dcg_transition.specs.Levels.{is_before}
use Rattle.dcg_transition.proofs.LevelLemmas.{depth-under, length-depths, before_first}
use Rattle.dcg_transition.proofs.RootLemmas.{all_reached}
use Rattle.dcg_transition.proofs.StepLemmas.{above-next, above-end}
use Rattle.dcg_transition.proofs.reach.reach.Goals as goal

pub loop-level-init : goal.loop-level-init
loop-level-init g c = record {
  reached = c.in_ok-reach_root.ensures.reached;
  steps = omega (arith, c.in_ok-reach_root.ensures.steps);
}

pub loop-level-preserved : goal.loop-level-preserved
loop-level-preserved g c =
    let graph = g.G.HoldGraph.graph c.args.graph.now in
    record {
      reached = c.in_ok-reach_level.ensures.reached;
      steps = above-next c.loop-level.level c.args.depths.now (length graph.vertices + 3 * length graph.triples) (c.args.steps.now + length graph.vertices) c.loop-level.steps c.reach_level.new.steps
          c.loop-level.invariant.steps c.in_ok-reach_level.ensures.steps;
    }

pub returns-clause-steps : goal.returns-clause-steps
returns-clause-steps g c =
    let graph = g.G.HoldGraph.graph c.args.graph.now in
    above-end c.loop-level.level c.args.depths.now (length c.args.tree.now.links) (length graph.vertices + 3 * length graph.triples) (c.args.steps.now + length graph.vertices) c.loop-level.steps
    (length-depths c.args.tree.now c.args.depths.now c.requires.depths) c.loop-level.invariant.steps

pub returns-clause-counted : goal.returns-clause-counted
returns-clause-counted g c =
    let t = c.args.tree.now in
    all_reached (joined c.args.pattern.now t (g.G.HoldGraph.graph c.args.graph.now)) (is_before t c.loop-level.level 0) c.loop-level.dcg
    (λ x. before_first t c.loop-level.level x ∙ lt-ltb (depth t x) c.loop-level.level (omega (arith, depth-under t c.requires.belongs.tree x, c.loop-level-test.false, c.vertex_count-level-end.ensures)))
    c.loop-level.invariant.reached
