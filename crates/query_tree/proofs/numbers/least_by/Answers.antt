use Rattle.std.proofs.Common.{◌≡◌, ◌∙◌, sym, subst, ◌<◌, length, slice_index}
use Rattle.std.specs.Prelude.{IfSome}
use Rattle.query_tree.proofs.LeastLemmas.{least_more, least_same}
use Rattle.query_tree.proofs.numbers.least_by.Goals as goal
use Rattle.query_tree.proofs.numbers.least_by.Goals.{then-passes, else-passes}

pub loop-i-preserved : goal.loop-i-preserved
loop-i-preserved g c =
    let keys = c.args.keys.now in
    let i = c.loop-i.i in
    elim c.if-passes.branch [
      | then-passes w ↦ record {
        within = subst (λ o. IfSome o (λ best. best < length keys)) (sym w.least-is) w.better.ensures.within;
        first = λ test answers.
            let here : test i ≡ c.passes.result = sym (answers i c.passes.result c.loop-i-test.true c.passes.ensures) in
            least_more (slice_index keys) test i w.better.result c.loop-i.least c.if-passes.least (c.loop-i.invariant.first test answers) (here ∙ w.if-passes.true) w.better.ensures.better w.least-is;
      }
      | else-passes w ↦ record {
        within = subst (λ o. IfSome o (λ best. best < length keys)) (sym w.least-is) c.loop-i.invariant.within;
        first = λ test answers.
            let here : test i ≡ c.passes.result = sym (answers i c.passes.result c.loop-i-test.true c.passes.ensures) in
            w.least-is ∙ least_same (slice_index keys) test i c.loop-i.least (c.loop-i.invariant.first test answers) (here ∙ w.if-passes.false);
      }
    ]
