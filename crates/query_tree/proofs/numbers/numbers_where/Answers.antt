use Rattle.std.proofs.Common.{◌≡◌, ◌∙◌, sym, ap, ◌++◌, ◌∷◌, [], Vec, Global, ℕ}
use Rattle.query_tree.proofs.NumberLemmas.{numbers_pushed, numbers_kept}
use Rattle.query_tree.proofs.numbers.numbers_where.Goals as goal
use Rattle.query_tree.proofs.numbers.numbers_where.Goals.{then-passes+in_ok-push, else-passes}

pub loop-i-preserved : goal.loop-i-preserved
loop-i-preserved g c = λ test answers.
    let i = c.loop-i.i in
    let old = c.loop-i.numbers.items in
    let new = c.if-passes.numbers.items in
    let here : test i ≡ c.passes.result = sym (answers i c.passes.result c.loop-i-test.true c.passes.ensures) in
    elim c.if-passes.branch [
      | then-passes+in_ok-push w ↦
          let pushed : new ≡ old ++ i ∷ [] = ap (λ (v : Vec ℕ Global). v.items) w.numbers-is ∙ w.in_ok-push.ensures.items in
          numbers_pushed test i old new (c.loop-i.invariant test answers) (here ∙ w.if-passes.true) pushed
      | else-passes w ↦
          let kept : new ≡ old = ap (λ (v : Vec ℕ Global). v.items) w.numbers-is in
          numbers_kept test i old new (c.loop-i.invariant test answers) (here ∙ w.if-passes.false) kept
    ]
