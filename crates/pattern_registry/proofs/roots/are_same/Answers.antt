use Rattle.std.proofs.Common.{arith}
use Rattle.label_cards.proofs.PlanLemmas.{same-labels}
use Rattle.pattern_registry.proofs.roots.are_same.Goals as goal

pub returns : goal.returns
returns c = λ yes.
    same-labels c.args.labels.now c.args.others.now (omega (arith, c.len.ensures.len, c.len-2.ensures.len, c.if-len.false))
    (λ j h. c.loop-i.invariant j (omega (arith, h, c.loop-i-test.false, c.len-i-end.ensures.len)))
