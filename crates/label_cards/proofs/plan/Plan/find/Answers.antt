use Rattle.std.proofs.Common.{get_or, arith}
use Rattle.label_cards.proofs.PlanLemmas.{row-here, place-within, known-same}
use Rattle.label_cards.proofs.plan.Plan.find.Goals as goal

pub index-known-requires : goal.index-known-requires
index-known-requires c =
    let plan = c.args.self.now in
    let places = c.row-places.result.now in
    let i = c.loop-place.place-index in
    let here = row-here plan.rows.items c.args.number places i c.row-places.ensures c.loop-place-test.true in
    omega (arith, place-within plan.tests.items plan.rows.items c.requires.rows c.args.number i (get_or places i 0) here, plan.tests.ok.0)

pub returns-then-agrees : goal.returns-then-agrees
returns-then-agrees c =
    let plan = c.args.self.now in
    let places = c.row-places.result.now in
    let i = c.loop-place.place-index in
    let here = row-here plan.rows.items c.args.number places i c.row-places.ensures c.loop-place-test.true in
    known-same plan.tests.items plan.rows.items c.requires.rows c.args.number i (get_or places i 0) here c.index-known.result.now c.index-known.ensures c.args.test.now c.requires.number
    (c.agrees.ensures.tail c.if-agrees.true) (c.agrees.ensures.head c.if-agrees.true) (c.agrees.ensures.is_loop c.if-agrees.true)
