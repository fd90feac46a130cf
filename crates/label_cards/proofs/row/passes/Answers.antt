use Rattle.std.proofs.Common.{◌≡◌, ◌∙◌, true, false, sym}
use Rattle.flux_model.specs.declared.graph.Triple.{Triple}
use Rattle.label_cards.proofs.CountLemmas.{set-here, head-decides}
use Rattle.label_cards.proofs.row.passes.Goals as goal
use Rattle.label_cards.proofs.row.passes.Goals.{then-fitted-test, else-fitted-test}

pub returns-then-allows-clause-value : goal.returns-then-allows-clause-value
returns-then-allows-clause-value g c =
    let texts = g.G.HoldGraph.label_text c.args.graph.now in
    let graph = g.G.HoldGraph.graph c.args.graph.now in
    let sets = c.args.plan.now.sets.items in
    let test = c.args.test.now in
    let turn = c.args.turn.now in
    let triple : Triple = record { src = c.args.v; label = turn.label.now; dst = turn.other } in
    let stands = c.requires.stands in
    elim c.if-fitted-test.branch [
      | then-fitted-test w ↦
          head-decides texts graph sets test triple turn.number c.fits.result c.requires.asks c.requires.number
          (sym (c.requires.fits.each test.tail stands.tail) ∙ w.if-fitted-test.true)
          (sym w.allows.ensures ∙ sym w.value-is ∙ c.if-allows.true)
          (c.fits.ensures.value ∙ set-here graph sets test.head turn.other c.index.result.now c.index.ensures stands.head)
      | else-fitted-test w ↦ absurd (let bad : false ≡ true = sym w.if-fitted-test.false ∙ sym w.value-is ∙ c.if-allows.true in cc)
    ]
