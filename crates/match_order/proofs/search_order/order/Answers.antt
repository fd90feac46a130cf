use Rattle.std.proofs.Common.{◌≡◌, ◌≤◌, ◌∙◌, sym, subst, length, arith}
use Rattle.flux_model.specs.Order.{search_order}
use Rattle.match_order.specs.Whole.{IsOrderOf}
use Rattle.match_order.proofs.PlaceLemmas.{left_more, left_none}
use Rattle.match_order.proofs.WholeLemmas.{search_order_whole}
use Rattle.match_order.proofs.search_order.order.Goals as goal

pub loop-preserved : goal.loop-preserved
loop-preserved c =
    let t = c.args.tree.now in
    let live = c.args.live.now in
    record {
      room = omega (arith, c.place_next.ensures.room, c.loop.invariant.room);
      marks = c.place_next.ensures.marks;
      left = left_more t live (length t.links) c.loop.counter c.loop.growth.order c.place_next.new.self.order (omega (arith, c.loop-test.true, c.vertex_count-end.ensures)) c.place_next.ensures.order ∙ c.loop.invariant.left;
    }

pub returns-clause-all : goal.returns-clause-all
returns-clause-all c =
    let t = c.args.tree.now in
    let done : length t.links ≤ c.loop.counter = omega (arith, c.loop-test.false, c.vertex_count-end.ensures) in
    let is : search_order t c.args.start c.args.live.now ≡ c.loop.growth.order =
    sym c.loop.invariant.left ∙ left_none t c.args.live.now (length t.links) c.loop.counter c.loop.growth.order done
    in
    subst (IsOrderOf t) is (search_order_whole t c.root-root.ensures.tree c.args.start c.args.live.now c.requires.start)
