use Rattle.std.proofs.Common.{ℕ, List, ◌∷◌, sym, ap, subst}
use Rattle.flux_model.specs.Order.{Place, SearchOrder}
use Rattle.match_order.specs.FrontierState.{AreMarks}
use Rattle.match_order.specs.Whole.{latest_first}
use Rattle.match_order.proofs.PlaceLemmas.{latest_more}
use Rattle.match_order.proofs.search_order.Growth.place_next.Goals as goal

pub returns-in-Some-clause-marks : goal.returns-in-Some-clause-marks
returns-in-Some-clause-marks c =
    let t = c.args.tree.now in
    let old = c.args.self.now.order in
    let f = c.place-in-Some.new.self in
    subst (λ (o : SearchOrder). AreMarks t (latest_first o) f) (sym c.push.ensures)
    (subst (λ (l : List ℕ). AreMarks t l f) (sym (latest_more old c.in-Some.place))
    (subst (λ v. AreMarks t (v ∷ latest_first old) f) (ap (λ (p : Place). p.vertex) c.place.view_is)
    (c.place-in-Some.ensures (latest_first old) c.requires.marks)))
