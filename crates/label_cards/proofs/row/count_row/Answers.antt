use Rattle.std.proofs.Common.{◌≡◌, ℕ, ◌+◌, ◌*◌, length, ap, arith, cond}
use Rattle.std.proofs.lemmas.List.Sorted.{sum_by-IsPermutation, length_permutation}
use Rattle.flux_model.specs.declared.graph.Triple.{Triple}
use Rattle.graph_traits.specs.Rows.{triples_from}
use Rattle.label_cards.specs.Plans.{passes_at}
use Rattle.label_cards.proofs.row.count_row.Goals as goal

pub count_turn-requires-clause-room : goal.count_turn-requires-clause-room
count_turn-requires-clause-room g c =
    let row = g.G.HoldGraph.outs_from c.args.graph.now c.args.v in
    let whole = length_permutation (row c.first-at.result) (triples_from (g.G.HoldGraph.graph c.args.graph.now) c.args.v) c.first-at.ensures.all in
    λ k h. omega (arith, whole, rw c.in-Some.ensures.turn at (c.loop-turn.invariant.room k h), c.requires.room k (omega (arith, h, c.loop-turn.auto.counts)))

pub returns-clause-counts : goal.returns-clause-counts
returns-clause-counts g c =
    let graph = g.G.HoldGraph.graph c.args.graph.now in
    let row = g.G.HoldGraph.outs_from c.args.graph.now c.args.v in
    λ k h.
    let passes : Triple → ℕ = λ t. cond (passes_at (g.G.HoldGraph.label_text c.args.graph.now) graph c.args.plan.now k t) 1 0 in
    let whole = sum_by-IsPermutation passes (row c.first-at.result) (triples_from graph c.args.v) c.first-at.ensures.all in
    omega (arith, whole, rw c.in_default.ensures.turn at (c.loop-turn.invariant.counted k (omega (arith, h, c.loop-turn.auto.counts))))

pub returns-clause-steps : goal.returns-clause-steps
returns-clause-steps g c =
    let row = g.G.HoldGraph.outs_from c.args.graph.now c.args.v in
    let triples = triples_from (g.G.HoldGraph.graph c.args.graph.now) c.args.v in
    let cost = 1 + length c.args.plan.now.tests.items in
    let whole : length triples * cost ≡ length (row c.first-at.result) * cost = ap (λ n. n * cost) (length_permutation (row c.first-at.result) triples c.first-at.ensures.all) in
    omega (arith, whole, c.next.ensures.step, c.loop-turn.invariant.steps)
