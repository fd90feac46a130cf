use Rattle.std.proofs.Common.{◌<◌, ◌∙◌, refl, sym, ap, length, get_or, arith}
use Rattle.std.proofs.lemmas.Option.{slice_get_read}
use Rattle.flux_model.specs.Labels.{is_within}
use Rattle.label_cards.specs.Plans.{fits_set}
use Rattle.label_cards.specs.declared.plan.LabelSet.{LabelSet}
use Rattle.label_cards.proofs.CountLemmas.{grown-next, rest-next, fitted-next}
use Rattle.label_cards.proofs.PassLemmas.{fit-here}
use Rattle.label_cards.proofs.pass.count_vertex.Goals as goal

pub loop-c-preserved : goal.loop-c-preserved
loop-c-preserved g c =
    let graph = g.G.HoldGraph.graph c.args.graph.now in
    let sets = c.args.sets.now in
    let i = c.loop-c.c in
    let set = c.index-sets-c.result in
    let before = c.loop-c.invariant in
    let at = slice_get_read sets (length sets) i set refl c.loop-c-test.true c.index-sets-c.is in
    let fit = c.within-fits.ensures ∙ ap (λ (s : LabelSet). is_within s.labels.now c.labels_of-labels.result.now) (sym c.index-sets-c.is) ∙ fit-here graph sets i c.args.v set c.labels_of-labels.result.now c.requires.graph at c.labels_of-labels.ensures.labels in
    record {
      fitted = fitted-next (λ j. fits_set sets graph j c.args.v) c.loop-c.fitted i c.within-fits.result fit (omega (arith, c.loop-c-test.true, c.requires.len, c.loop-c.auto.fitted)) before.fitted;
      grown = λ j h.
          let within : j < length c.loop-c.counts = omega (arith, h, c.loop-c-test.true, c.requires.size, c.loop-c.auto.counts) in
          grown-next (λ j. fits_set sets graph j c.args.v) i c.within-fits.result fit j (get_or c.args.counts.now j 0) (get_or c.loop-c.counts j 0) (get_or c.add_if.new.counts j 0)
          (c.add_if.ensures j within) (before.grown j) (λ after. before.rest j after within) h;
      rest = λ j h below.
          let within : j < length c.loop-c.counts = omega (arith, below, c.add_if.auto.counts) in
          rest-next i j c.within-fits.result (get_or c.args.counts.now j 0) (get_or c.loop-c.counts j 0) (get_or c.add_if.new.counts j 0)
          (c.add_if.ensures j within) h (before.rest j (omega (arith, h)) within);
    }
