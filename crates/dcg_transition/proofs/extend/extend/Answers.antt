use Rattle.std.proofs.Common.{◌≡◌, ◌+◌, ◌-◌, ◌*◌, length, sym, subst, ◌∙◌, arith, le-ltb, lt-ltb}
use Rattle.flux_model.specs.States.{joined}
use Rattle.query_tree.specs.Depth.{depth}
use Rattle.dcg_transition.specs.Levels.{is_after, IsCounted}
use Rattle.dcg_transition.proofs.LevelLemmas.{depth-under, length-depths, after_first}
use Rattle.dcg_transition.proofs.ReachLemmas.{no_child}
use Rattle.dcg_transition.proofs.ExtendLemmas.{counted_alike, all_counted, child_deeper}
use Rattle.dcg_transition.proofs.StepLemmas.{below-next, below-end}
use Rattle.dcg_transition.proofs.extend.extend.Goals as goal

pub loop-done-init : goal.loop-done-init
loop-done-init g c =
    let t = c.args.tree.now in
    record {
      counted = counted_alike (joined c.args.pattern.now t (g.G.HoldGraph.graph c.args.graph.now)) no_child (is_after t (c.vertex_count-count.result - 1) 0) c.args.dcg.now
          (λ x. sym (after_first t (c.vertex_count-count.result - 1) x ∙ le-ltb (c.vertex_count-count.result - 1) (depth t x) (omega (arith, depth-under t c.requires.belongs.tree x, c.vertex_count-count.ensures))))
          c.requires.reached;
      steps = omega arith;
    }

pub loop-done-preserved : goal.loop-done-preserved
loop-done-preserved g c =
    let t = c.args.tree.now in
    let graph = g.G.HoldGraph.graph c.args.graph.now in
    let level = c.vertex_count-count.result - c.loop-done.done in
    let next : c.vertex_count-count.result - (c.loop-done.done + 1) ≡ level - 1 = omega arith in
    record {
      counted = subst (λ k. IsCounted (joined c.args.pattern.now t graph) (is_after t k 0) c.extend_level.new.dcg) (sym next) c.in_ok-extend_level.ensures.counted;
      steps = below-next level (c.vertex_count-count.result - (c.loop-done.done + 1)) c.args.depths.now (length graph.vertices + 3 * length graph.triples) c.args.steps.now c.loop-done.steps c.extend_level.new.steps
          (omega (arith, c.loop-done-test.true)) next c.loop-done.invariant.steps c.in_ok-extend_level.ensures.steps;
    }

pub returns-clause-steps : goal.returns-clause-steps
returns-clause-steps g c =
    let graph = g.G.HoldGraph.graph c.args.graph.now in
    below-end (c.vertex_count-count.result - c.loop-done.done) c.args.depths.now (length c.args.tree.now.links) (length graph.vertices + 3 * length graph.triples) c.args.steps.now c.loop-done.steps
    (length-depths c.args.tree.now c.args.depths.now c.requires.depths) c.loop-done.invariant.steps

pub returns-clause-exact : goal.returns-clause-exact
returns-clause-exact g c =
    let t = c.args.tree.now in
    all_counted (joined c.args.pattern.now t (g.G.HoldGraph.graph c.args.graph.now)) (is_after t (c.vertex_count-count.result - c.loop-done.done) 0) c.loop-done.dcg
    (λ u x m.
    after_first t (c.vertex_count-count.result - c.loop-done.done) x
    ∙ lt-ltb (c.vertex_count-count.result - c.loop-done.done) (depth t x) (omega (arith, child_deeper t c.requires.belongs.tree u x m, c.loop-done-test.false)))
    c.loop-done.invariant.counted
