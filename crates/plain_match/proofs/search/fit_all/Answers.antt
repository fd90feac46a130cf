use Rattle.std.proofs.Common.{Bool, sym, ◌∙◌, ap, ◌&&◌, drop, ◌+◌}
use Rattle.std.specs.Cmp.Lexicographic.{pointwise}
use Rattle.flux_model.specs.Pattern.{fits_labels}
use Rattle.plain_match.proofs.SearchLemmas.{fit_step}
use Rattle.plain_match.proofs.search.fit_all.Goals as goal

pub returns-then-not-fits : goal.returns-then-not-fits
returns-then-not-fits c =
    let g = c.args.graph.now.graph in
    let u = c.loop-u.u in
    let rest : Bool = pointwise (fits_labels g) (drop (u + 1) c.args.pattern.now.labels) (drop (u + 1) c.args.m.now) in
    sym (sym c.loop-u.invariant
    ∙ fit_step g c.args.pattern.now.labels c.args.m.now u c.labels.result.now c.labels.ensures c.loop-u-test.true
    ∙ ap (λ b. b && rest) (sym c.fits.ensures ∙ c.if-not-fits.true))

pub loop-u-preserved : goal.loop-u-preserved
loop-u-preserved c =
    let g = c.args.graph.now.graph in
    let u = c.loop-u.u in
    let rest : Bool = pointwise (fits_labels g) (drop (u + 1) c.args.pattern.now.labels) (drop (u + 1) c.args.m.now) in
    sym (fit_step g c.args.pattern.now.labels c.args.m.now u c.labels.result.now c.labels.ensures c.loop-u-test.true
    ∙ ap (λ b. b && rest) (sym c.fits.ensures ∙ c.if-not-fits.false))
    ∙ c.loop-u.invariant
