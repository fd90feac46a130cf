use Rattle.std.proofs.Common.{◌≡◌, ◌∙◌, ℕ, List, length, ap}
use Rattle.std.specs.Prelude.{Some}
use Rattle.std.proofs.lemmas.Slice.Zip.{AllZip-long}
use Rattle.label_cards.specs.Plans.{set_at}
use Rattle.label_cards.proofs.PlanLemmas.{tests-wider}
use Rattle.label_cards.proofs.plan.Plan.add.Goals as goal

pub test_places-requires-clause-plan : goal.test_places-requires-clause-plan
test_places-requires-clause-plan g c = record {
  tests = λ p test e. tests-wider (g.G.HoldGraph.label_text c.args.graph.now) c.args.self.now.sets.items c.set_places.new.sets.items test c.in_ok-vertices.ensures.kept (c.requires.tests p test e);
  rows = c.requires.rows;
}

pub test_places-requires-clause-long : goal.test_places-requires-clause-long
test_places-requires-clause-long g c =
    ap (λ (l : List ℕ). length l) c.as_slice.ensures.value
    ∙ AllZip-long (λ labels p. set_at c.set_places.new.sets.items p ≡ Some labels) c.args.pattern.now.labels c.in_ok-vertices.vertices.items c.in_ok-vertices.ensures.places
