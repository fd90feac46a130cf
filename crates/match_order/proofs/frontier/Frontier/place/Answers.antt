use Rattle.std.proofs.Common.{Some, refl, sym, set, length-set, arith}
use Rattle.match_order.proofs.FrontierLemmas.{placed_near, placed_far, placed_last}
use Rattle.match_order.proofs.frontier.Frontier.place.Goals as goal
use Rattle.match_order.proofs.frontier.Frontier.place.Goals.{then-are_neighbours, else-are_neighbours}

pub loop-w-preserved : goal.loop-w-preserved
loop-w-preserved c =
    let t = c.args.tree.now in
    let u = c.args.u in
    let w = c.loop-w.w in
    let f = c.loop-w.self in
    elim c.if-are_neighbours.branch [
      | then-are_neighbours b ↦ rw b.self-is (record {
        size = record { placed = c.loop-w.invariant.size.placed; anchors = omega (arith, length-set f.anchors w (Some u), c.loop-w.invariant.size.anchors) };
        part = λ before marks. placed_near t before u w f.placed f.anchors (c.loop-w.invariant.part before marks) (set f.anchors w (Some u)) (omega (arith, c.loop-w-test.true, c.vertex_count-w-end.ensures, c.loop-w.invariant.size.anchors)) (sym b.if-are_neighbours.ensures) refl;
      })
      | else-are_neighbours b ↦ rw b.self-is (record {
        size = c.loop-w.invariant.size;
        part = λ before marks. placed_far t before u w f.placed f.anchors (c.loop-w.invariant.part before marks) (sym b.if-are_neighbours.ensures);
      })
    ]

pub returns : goal.returns
returns c = λ before marks.
    placed_last c.args.tree.now before c.args.u c.loop-w.w c.loop-w.self c.loop-w.invariant.size (c.loop-w.invariant.part before marks) (omega (arith, c.loop-w-test.false, c.vertex_count-w-end.ensures))
