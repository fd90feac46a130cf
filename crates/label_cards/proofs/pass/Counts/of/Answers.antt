use Rattle.std.proofs.Common.{◌≡◌, ◌+◌, ◌≤◌, ℕ, ◌∙◌, ap, arith, length, List, slice_index, get_or, Bool}
use Rattle.label_cards.specs.Counted.{vertex_adds, row_adds}
use Rattle.label_cards.specs.Plans.{fits_set, passes_at}
use Rattle.label_cards.proofs.PassLemmas.{written, sum_turn, rows_room, all_triples, all_vertices}
use Rattle.label_cards.proofs.StepLemmas.{pass-next, pass-end}
use Rattle.label_cards.proofs.pass.Counts.of.Goals as goal

pub count_row-requires-clause-room : goal.count_row-requires-clause-room
count_row-requires-clause-room g c =
    let texts = g.G.HoldGraph.label_text c.args.graph.now in
    let graph = g.G.HoldGraph.graph c.args.graph.now in
    let before = c.as_mut_slice-in-loop-i-2.ensures in
    λ k h.
    let same : slice_index c.as_mut_slice-in-loop-i-2.result.now k ≡ slice_index c.loop-i.tests.items k = ap (λ (l : List ℕ). get_or l k 0) before.value in
    let room = rows_room (passes_at texts graph c.args.plan.now k) graph (g.G.HoldGraph.limits c.args.graph.now) c.vertex_count-i-end.ensures.held (g.G.HoldGraph.listed c.args.graph.now) c.loop-i.i c.vertex_at-v.result (omega (arith, c.loop-i-test.true, c.vertex_count-i-end.ensures.count)) in
    let size = ap (λ (l : List ℕ). length l) before.value in
    omega (arith, room, same, c.loop-i.invariant.tests k (omega (arith, h, size, c.loop-i.invariant.tests_size)))

pub loop-i-preserved : goal.loop-i-preserved
loop-i-preserved g c =
    let texts = g.G.HoldGraph.label_text c.args.graph.now in
    let graph = g.G.HoldGraph.graph c.args.graph.now in
    let plan = c.args.plan.now in
    let listed = g.G.HoldGraph.listed c.args.graph.now in
    let tests_before = c.as_mut_slice-in-loop-i-2.ensures in
    let sets_before = c.as_mut_slice-in-loop-i.ensures in
    let tests = written c.loop-i.tests.len c.count_row.new.counts c.loop-i.tests.items (c.count_row.auto.counts ∙ tests_before.len) in
    let sets = written c.loop-i.sets.len c.count_vertex.new.counts c.loop-i.sets.items (c.count_vertex.auto.counts ∙ sets_before.len) in
    let fitted = written c.loop-i.fitted.len c.count_vertex.new.fitted c.loop-i.fitted.items (c.count_vertex.auto.fitted ∙ c.as_mut_slice.ensures.len) in
    let tests_size = ap (λ (l : List ℕ). length l) tests_before.value ∙ c.loop-i.invariant.tests_size in
    let sets_size = ap (λ (l : List ℕ). length l) sets_before.value ∙ c.loop-i.invariant.sets_size in
    record {
      tests_size = ap (λ (l : List ℕ). length l) tests ∙ c.count_row.auto.counts ∙ tests_size;
      sets_size = ap (λ (l : List ℕ). length l) sets ∙ c.count_vertex.auto.counts ∙ sets_size;
      fitted_size = ap (λ (l : List Bool). length l) fitted ∙ c.count_vertex.auto.fitted ∙ ap (λ (l : List Bool). length l) c.as_mut_slice.ensures.value ∙ c.loop-i.invariant.fitted_size;
      tests = λ p h.
          ap (λ (l : List ℕ). get_or l p 0) tests
          ∙ sum_turn (λ v. row_adds texts graph plan v p) listed c.loop-i.i c.vertex_at-v.result (get_or c.as_mut_slice-in-loop-i-2.result.now p 0) (get_or c.count_row.new.counts p 0) c.vertex_at-v.ensures.id
          (ap (λ (l : List ℕ). get_or l p 0) tests_before.value ∙ c.loop-i.invariant.tests p h)
          (c.count_row.ensures.counts p (omega (arith, h, tests_size)));
      sets = λ u h.
          ap (λ (l : List ℕ). get_or l u 0) sets
          ∙ sum_turn (λ v. vertex_adds graph plan.sets.items v u) listed c.loop-i.i c.vertex_at-v.result (get_or c.as_mut_slice-in-loop-i.result.now u 0) (get_or c.count_vertex.new.counts u 0) c.vertex_at-v.ensures.id
          (ap (λ (l : List ℕ). get_or l u 0) sets_before.value ∙ c.loop-i.invariant.sets u h)
          (rw c.as_slice.ensures.value at (c.count_vertex.ensures.counts u (omega (arith, h, sets_size))));
      steps = pass-next graph listed c.loop-i.i c.vertex_at-v.result (1 + length plan.tests.items) c.args.steps.now c.loop-i.steps c.count_row.new.steps c.vertex_at-v.ensures.id c.loop-i.invariant.steps
          (omega (arith, c.vertex_at-v.ensures.step, c.count_vertex.ensures.step, c.count_row.ensures.steps));
    }

pub returns-clause-counts : goal.returns-clause-counts
returns-clause-counts g c =
    let texts = g.G.HoldGraph.label_text c.args.graph.now in
    let graph = g.G.HoldGraph.graph c.args.graph.now in
    let plan = c.args.plan.now in
    let listed = g.G.HoldGraph.listed c.args.graph.now in
    let known = c.vertex_count-i-end.ensures in
    let counted = c.loop-i.invariant in
    let end : length graph.vertices ≤ c.loop-i.i = omega (arith, c.loop-i-test.false, known.count) in
    record {
      tests_size = counted.tests_size;
      tests = λ p below. all_triples graph known.held.graph listed c.loop-i.i known.listed end (passes_at texts graph plan p) (get_or c.loop-i.tests.items p 0) (counted.tests p below);
      sets_size = counted.sets_size;
      sets = λ u below. all_vertices graph known.held.graph listed c.loop-i.i known.listed end (fits_set plan.sets.items graph u) (get_or c.loop-i.sets.items u 0) (counted.sets u below);
    }

pub returns-clause-steps : goal.returns-clause-steps
returns-clause-steps g c =
    let known = c.vertex_count-i-end.ensures in
    pass-end (g.G.HoldGraph.graph c.args.graph.now) (g.G.HoldGraph.listed c.args.graph.now) c.loop-i.i (1 + length c.args.plan.now.tests.items) c.args.steps.now c.loop-i.steps
    known.held.graph known.listed (omega (arith, c.loop-i-test.false, c.loop-i.auto.i-end, known.count)) c.loop-i.invariant.steps
