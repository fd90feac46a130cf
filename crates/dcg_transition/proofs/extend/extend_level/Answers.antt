use Rattle.std.proofs.Common.{◌+◌, ◌*◌, ◌-◌, sym, ap, subst, ◌∙◌, length, get_or, arith}
use Rattle.std.proofs.lemmas.Option.{slice_get-get_or}
use Rattle.flux_model.specs.States.{joined}
use Rattle.query_tree.specs.Depth.{depth}
use Rattle.query_tree.proofs.CallerLemmas.{depth-root}
use Rattle.dcg_transition.specs.Levels.{is_after, IsCounted}
use Rattle.dcg_transition.proofs.LevelLemmas.{listed_depth, length-depths, after_skipped, after_next}
use Rattle.dcg_transition.proofs.ExtendLemmas.{counted_alike}
use Rattle.dcg_transition.proofs.StepLemmas.{level-skipped, level-next, level-end}
use Rattle.dcg_transition.proofs.extend.extend_level.Goals as goal

pub loop-u-preserved-then-depth-level : goal.loop-u-preserved-then-depth-level
loop-u-preserved-then-depth-level g c =
    let t = c.args.tree.now in
    let graph = g.G.HoldGraph.graph c.args.graph.now in
    let here = listed_depth t c.args.depths.now c.loop-u.u c.requires.depths c.loop-u-test.true in
    record {
      counted = counted_alike (joined c.args.pattern.now t (g.G.HoldGraph.graph c.args.graph.now)) (is_after t c.args.level c.loop-u.u) (is_after t c.args.level (c.loop-u.u + 1)) c.loop-u.dcg
          (λ x. sym (after_skipped t c.args.level c.loop-u.u (λ e. c.if-depth-level.true (here ∙ e)) x)) c.loop-u.invariant.counted;
      steps = level-skipped c.args.level c.args.depths.now c.loop-u.u (get_or c.args.depths.now c.loop-u.u 0) (length graph.vertices + 3 * length graph.triples) c.args.steps.now c.loop-u.steps
          (slice_get-get_or c.args.depths.now c.loop-u.u 0 c.loop-u-test.true) c.loop-u.invariant.steps;
    }

pub extend_to-requires-clause-vertex : goal.extend_to-requires-clause-vertex
extend_to-requires-clause-vertex g c = omega (arith, c.loop-u-test.true, length-depths c.args.tree.now c.args.depths.now c.requires.depths)

pub extend_to-requires-clause-not_root : goal.extend_to-requires-clause-not_root
extend_to-requires-clause-not_root g c =
    let t = c.args.tree.now in
    let here = listed_depth t c.args.depths.now c.loop-u.u c.requires.depths c.loop-u-test.true in
    λ e. absurd (omega (arith, here, c.if-depth-level.false, ap (depth t) e, depth-root t, c.requires.below_root))

pub extend_to-requires-clause-counted : goal.extend_to-requires-clause-counted
extend_to-requires-clause-counted g c =
    let t = c.args.tree.now in
    let here = listed_depth t c.args.depths.now c.loop-u.u c.requires.depths c.loop-u-test.true in
    subst (λ k. IsCounted (joined c.args.pattern.now t (g.G.HoldGraph.graph c.args.graph.now)) (is_after t k c.loop-u.u) c.loop-u.dcg) (sym c.if-depth-level.false ∙ here) c.loop-u.invariant.counted

pub loop-u-preserved : goal.loop-u-preserved
loop-u-preserved g c =
    let t = c.args.tree.now in
    let graph = g.G.HoldGraph.graph c.args.graph.now in
    let here = listed_depth t c.args.depths.now c.loop-u.u c.requires.depths c.loop-u-test.true in
    record {
      counted = subst (λ k. IsCounted (joined c.args.pattern.now t (g.G.HoldGraph.graph c.args.graph.now)) (is_after t k (c.loop-u.u + 1)) c.extend_to.new.dcg) (sym here ∙ c.if-depth-level.false) c.in_ok-extend_to.ensures.counted;
      steps = level-next c.args.level c.args.depths.now c.loop-u.u (get_or c.args.depths.now c.loop-u.u 0) (length graph.vertices + 3 * length graph.triples) c.args.steps.now c.loop-u.steps c.extend_to.new.steps
          (slice_get-get_or c.args.depths.now c.loop-u.u 0 c.loop-u-test.true) c.if-depth-level.false c.loop-u.invariant.steps c.in_ok-extend_to.ensures.steps;
    }

pub returns-clause-counted : goal.returns-clause-counted
returns-clause-counted g c =
    let t = c.args.tree.now in
    counted_alike (joined c.args.pattern.now t (g.G.HoldGraph.graph c.args.graph.now)) (is_after t c.args.level c.loop-u.u) (is_after t (c.args.level - 1) 0) c.loop-u.dcg
    (λ x.
    ap (λ k. is_after t c.args.level k x) (omega (arith, c.loop-u-test.false, c.loop-u.auto.u-end, length-depths t c.args.depths.now c.requires.depths))
    ∙ after_next t c.args.level x c.requires.below_root) c.loop-u.invariant.counted

pub returns-clause-steps : goal.returns-clause-steps
returns-clause-steps g c =
    let graph = g.G.HoldGraph.graph c.args.graph.now in
    level-end c.args.level c.args.depths.now c.loop-u.u (length graph.vertices + 3 * length graph.triples) c.args.steps.now c.loop-u.steps (omega (arith, c.loop-u-test.false)) c.loop-u.invariant.steps
