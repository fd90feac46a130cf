use Rattle.std.proofs.Common.{◌<◌, length, get_or, arith, subst, sym, ◌∙◌}
use Rattle.flux_model.specs.Pattern.{HasEnds}
use Rattle.flux_model.specs.declared.pattern.PatternEdge.{PatternEdge}
use Rattle.pattern_check.proofs.ListLemmas.{AllByRecursion-at}
use Rattle.pattern_check.proofs.MarkLemmas.{near_more, length-along}
use Rattle.pattern_check.proofs.connected.wider.Goals as goal

pub loop-edge-preserved : goal.loop-edge-preserved
loop-edge-preserved c =
    let e : PatternEdge = c.edge-item.result in
    let here : HasEnds 32 (get_or c.args.edges.now c.loop-edge.edge-index e) = AllByRecursion-at (HasEnds 32) c.args.edges.now c.loop-edge.edge-index e c.requires c.loop-edge-test.true in
    let ends : HasEnds 32 e = subst (HasEnds 32) (sym c.edge-item.is) here in
    let tail : e.tail < length c.loop-edge.next = omega (arith, ends.0, c.loop-edge.invariant.len) in
    let head : e.head < length c.loop-edge.next = omega (arith, ends.1, c.loop-edge.invariant.len) in
    record {
      len = length-along c.args.seen.now e c.loop-edge.next ∙ c.loop-edge.invariant.len;
      near = λ u h. near_more c.args.edges.now c.loop-edge.edge-index e c.args.seen.now c.loop-edge.next u c.loop-edge-test.true c.edge-item.is head tail (c.loop-edge.invariant.near u h);
    }
