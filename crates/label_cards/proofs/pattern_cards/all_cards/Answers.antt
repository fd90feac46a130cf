use Rattle.std.proofs.Common.{◌≤◌, ◌<◌, ◌∙◌, length, map, sym, ap, subst, take, arith}
use Rattle.std.proofs.lemmas.List.{take_all}
use Rattle.flux_model.specs.Tree.{cards}
use Rattle.label_cards.specs.Counted.{cards_at, HasPlaces}
use Rattle.label_cards.specs.Plans.{IsFound}
use Rattle.label_cards.proofs.CardLemmas.{cards-are, places-within}
use Rattle.label_cards.proofs.GrownLemmas.{all-each, all-map, all-more, all-next, all-taken, map-next}
use Rattle.label_cards.proofs.PlanLemmas.{found-kept}
use Rattle.label_cards.proofs.StepLemmas.{starts-next, patterns_paid}
use Rattle.label_cards.proofs.pattern_cards.all_cards.Goals as goal

pub loop-k-init : goal.loop-k-init
loop-k-init g c = record {
  plan = c.new-plan.ensures.plan (g.G.HoldGraph.label_text c.args.graph.now);
  places = rw c.new-places.ensures.items tt;
  paid = rw c.new-plan.ensures.empty (omega arith);
}

pub loop-k-preserved : goal.loop-k-preserved
loop-k-preserved g c =
    let texts = g.G.HoldGraph.label_text c.args.graph.now in
    let graph = g.G.HoldGraph.graph c.args.graph.now in
    let qs = c.args.patterns.now in
    let k = c.loop-k.k in
    let new = c.add.new.self in
    let made = c.in_ok-add.ensures in
    record {
      plan = made.plan;
      places = all-next (IsFound texts graph new) qs k c.get-pattern.result.now c.loop-k.places.items c.push.new.self.items c.in_ok-add.field-0 c.get-pattern.ensures
          (all-more (IsFound texts graph c.loop-k.plan) (IsFound texts graph new) (λ q places. found-kept texts graph c.loop-k.plan new made.kept q places) (take k qs) c.loop-k.places.items c.loop-k.invariant.places)
          made.found c.in_ok-push.ensures.items;
      paid = starts-next graph qs k c.get-pattern.result.now (length c.loop-k.plan.tests.items) (length new.tests.items) c.get-pattern.ensures c.vertex_count-count.ensures.pattern made.few c.loop-k.invariant.paid;
    }

pub cards-requires : goal.cards-requires
cards-requires g c =
    let texts = g.G.HoldGraph.label_text c.args.graph.now in
    let graph = g.G.HoldGraph.graph c.args.graph.now in
    let qs = c.args.patterns.now in
    let plan = c.loop-k.plan in
    let places = c.loop-k.places in
    let counts = c.in_ok-counts.counts in
    let full : length qs ≤ c.loop-k.k = omega (arith, c.loop-k-test.false, c.count-k-end.ensures.count) in
    let all = all-taken (IsFound texts graph plan) qs places.items c.loop-k.k full c.loop-k.invariant.places in
    let within : c.loop-i.i < length places.items = omega (arith, c.loop-i-test.true, c.len-i-end.ensures, places.ok.0) in
    subst (HasPlaces counts) (sym c.index.ensures)
    (all-each (IsFound texts graph plan) (HasPlaces counts) (λ q at found. places-within texts graph plan q at found counts c.in_ok-counts.ensures.counts) qs places.items c.index.result.now all c.loop-i.i within)

pub loop-i-preserved : goal.loop-i-preserved
loop-i-preserved g c =
    let places = c.loop-k.places in
    let within : c.loop-i.i < length places.items = omega (arith, c.loop-i-test.true, c.len-i-end.ensures, places.ok.0) in
    map-next (cards_at c.in_ok-counts.counts) places.items c.loop-i.i c.index.result.now c.loop-i.all.items c.push-in-loop-i.new.self.items c.in_ok-cards.field-0 c.index.ensures within c.in_ok-cards.ensures
    c.loop-i.invariant c.in_ok-push-2.ensures.items

pub returns-clause-cards : goal.returns-clause-cards
returns-clause-cards g c =
    let texts = g.G.HoldGraph.label_text c.args.graph.now in
    let graph = g.G.HoldGraph.graph c.args.graph.now in
    let qs = c.args.patterns.now in
    let plan = c.loop-k.plan in
    let places = c.loop-k.places in
    let counts = c.in_ok-counts.counts in
    let full : length qs ≤ c.loop-k.k = omega (arith, c.loop-k-test.false, c.count-k-end.ensures.count) in
    let all = all-taken (IsFound texts graph plan) qs places.items c.loop-k.k full c.loop-k.invariant.places in
    let end : length places.items ≤ c.loop-i.i = omega (arith, c.loop-i-test.false, c.len-i-end.ensures, places.ok.0) in
    c.loop-i.invariant ∙ ap (map (cards_at counts)) (take_all c.loop-i.i places.items end)
    ∙ all-map (IsFound texts graph plan) (λ q. cards q graph) (cards_at counts) (λ q at found. cards-are texts graph plan q at found counts c.in_ok-counts.ensures.counts) qs places.items all

pub returns-clause-steps : goal.returns-clause-steps
returns-clause-steps g c =
    let graph = g.G.HoldGraph.graph c.args.graph.now in
    let full : length c.args.patterns.now ≤ c.loop-k.k = omega (arith, c.loop-k-test.false, c.count-k-end.ensures.count) in
    patterns_paid graph c.args.patterns.now c.loop-k.k (length c.loop-k.plan.tests.items) c.args.steps.now c.of.new.steps (omega (arith, full, c.count.ensures.count, c.if-count-eq0.false)) full
    c.loop-k.invariant.paid c.of.ensures.steps
