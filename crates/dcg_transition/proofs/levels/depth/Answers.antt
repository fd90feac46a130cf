use Rattle.std.proofs.Common.{◌≡◌, refl, sym, ap, arith}
use Rattle.query_tree.specs.Depth.{depth}
use Rattle.query_tree.proofs.CallerLemmas.{parent_within, depth-root, depth-below, depth-small}
use Rattle.dcg_transition.proofs.levels.depth.Goals as goal

pub overflow_add-depth : goal.overflow_add-depth
overflow_add-depth c =
    let t = c.args.tree.now in
    let deeper = depth-below t c.root.ensures.tree c.loop-link.at c.in-Some.link (sym c.in-Some.ensures.link) in
    let small = depth-small t c.root.ensures.tree c.args.u c.requires in
    omega (arith, deeper, small, c.loop-link.invariant.counted)

pub loop-link-smaller : goal.loop-link-smaller
loop-link-smaller c =
    let deeper = depth-below c.args.tree.now c.root.ensures.tree c.loop-link.at c.in-Some.link (sym c.in-Some.ensures.link) in
    omega (arith, deeper)

pub loop-link-preserved : goal.loop-link-preserved
loop-link-preserved c =
    let t = c.args.tree.now in
    let deeper = depth-below t c.root.ensures.tree c.loop-link.at c.in-Some.link (sym c.in-Some.ensures.link) in
    record {
      below = parent_within t c.root.ensures.tree c.loop-link.at c.in-Some.link (sym c.in-Some.ensures.link);
      counted = omega (arith, deeper, c.loop-link.invariant.counted);
    }

pub returns : goal.returns
returns c =
    let t = c.args.tree.now in
    let root : c.loop-link.at ≡ t.root = c.in_default.ensures.root.0 refl in
    omega (arith, ap (depth t) root, depth-root t, c.loop-link.invariant.counted)
