use Rattle.std.proofs.Common.{List, [], sym, subst}
use Rattle.flux_model.specs.Order.{Place}
use Rattle.match_order.specs.FrontierState.{AreMarks}
use Rattle.match_order.specs.Whole.{latest_first}
use Rattle.match_order.proofs.search_order.Growth.new.Goals as goal

pub returns-clause-marks : goal.returns-clause-marks
returns-clause-marks c =
    let t = c.args.tree.now in
    subst (λ (ps : List Place). AreMarks t (latest_first (record { start = c.args.start; places = ps })) c.place.new.self) (sym c.new-places.ensures)
    (c.place.ensures [] (c.new-frontier.ensures t c.requires.few))
