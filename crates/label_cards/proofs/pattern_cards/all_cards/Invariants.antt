use Rattle.std.proofs.Common.{◌≡◌, ◌+◌, ◌*◌, ◌≤◌, length, map, take}
use Rattle.std.specs.List.{AllZip, sum_by}
use Rattle.flux_model.specs.Costs.{start_cost}
use Rattle.label_cards.specs.Counted.{cards_at}
use Rattle.label_cards.specs.Plans.{IsPlan, IsFound}
use Rattle.label_cards.proofs.pattern_cards.all_cards.Given as goal

-- the patterns before k have their places, and their starts pay for the tests
abbrev pub invariant-loop-k : goal.invariant-loop-k
invariant-loop-k g l =
    let texts = g.G.HoldGraph.label_text l.graph in
    let graph = g.G.HoldGraph.graph l.graph in
    record {
      plan : IsPlan texts l.plan;
      places : AllZip (IsFound texts graph l.plan) (take l.k l.patterns) l.places.items;
      paid : 32 * (l.k + length l.plan.tests.items) * (length graph.vertices + 2 * length graph.triples + 1) ≤ sum_by (λ q. start_cost q graph) (take l.k l.patterns);
    }

-- the cards of the patterns so far
abbrev pub invariant-loop-i : goal.invariant-loop-i
invariant-loop-i g l = l.all.items ≡ map (cards_at l.counts) (take l.i l.places.items)
