use Rattle.std.proofs.Common.{◌∙◌, List, length, ap, arith}
use Rattle.label_cards.proofs.CardLemmas.{cards-are, places-within}
use Rattle.label_cards.proofs.StepLemmas.{pattern_paid}
use Rattle.label_cards.specs.declared.plan.TripleTest.{TripleTest}
use Rattle.label_cards.proofs.pattern_cards.cards.Goals as goal

pub add-requires : goal.add-requires
add-requires g c = c.new-plan.ensures.plan (g.G.HoldGraph.label_text c.args.graph.now)

pub cards-requires : goal.cards-requires
cards-requires g c =
    places-within (g.G.HoldGraph.label_text c.args.graph.now) (g.G.HoldGraph.graph c.args.graph.now) c.add.new.self c.args.pattern.now c.in_ok-places.places c.in_ok-places.ensures.found
    c.in_ok-counts.counts c.in_ok-counts.ensures.counts

pub returns-clause-cards : goal.returns-clause-cards
returns-clause-cards g c =
    c.in_ok-found.ensures
    ∙ cards-are (g.G.HoldGraph.label_text c.args.graph.now) (g.G.HoldGraph.graph c.args.graph.now) c.add.new.self c.args.pattern.now c.in_ok-places.places c.in_ok-places.ensures.found
    c.in_ok-counts.counts c.in_ok-counts.ensures.counts

pub returns-clause-steps : goal.returns-clause-steps
returns-clause-steps g c =
    let before = ap (λ (tests : List TripleTest). length tests) c.new-plan.ensures.empty in
    pattern_paid (g.G.HoldGraph.graph c.args.graph.now) c.args.pattern.now (length c.add.new.self.tests.items) c.args.steps.now c.of.new.steps c.vertex_count-count.ensures.pattern
    (omega (arith, c.in_ok-places.ensures.few, before)) c.of.ensures.steps
