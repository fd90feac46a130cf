use Rattle.std.proofs.Common.{◌<◌, ℕ, ◌==◌, ◌&&◌, Bool, List, ◌∙◌, sym, ap, length, get_or, arith}
use Rattle.std.specs.Prelude.{count_by}
use Rattle.std.proofs.lemmas.List.{take_all}
use Rattle.std.proofs.lemmas.Option.{slice_get-get_or}
use Rattle.flux_model.specs.declared.graph.Triple.{Triple}
use Rattle.label_cards.specs.Plans.{passes, passes_at}
use Rattle.label_cards.specs.declared.plan.TripleTest.{TripleTest}
use Rattle.label_cards.proofs.CountLemmas.{counted-next, room-here, turn-adds}
use Rattle.label_cards.proofs.PlanLemmas.{row-here, place-within, known-stands, known-at, known-asks}
use Rattle.label_cards.proofs.StepLemmas.{row_few}
use Rattle.label_cards.proofs.row.count_turn.Goals as goal

pub index-requires : goal.index-requires
index-requires g c =
    let plan = c.args.plan.now in
    let places = c.row-places.result.now in
    let i = c.loop-place.place-index in
    let n = c.args.turn.now.number in
    let here = row-here plan.rows.items n places i c.row-places.ensures c.loop-place-test.true in
    omega (arith, place-within plan.tests.items plan.rows.items c.requires.plan.rows n i (get_or places i 0) here, plan.tests.ok.0)

pub passes-passed-requires-clause-stands : goal.passes-passed-requires-clause-stands
passes-passed-requires-clause-stands g c =
    let plan = c.args.plan.now in
    let places = c.row-places.result.now in
    let i = c.loop-place.place-index in
    let n = c.args.turn.now.number in
    let here = row-here plan.rows.items n places i c.row-places.ensures c.loop-place-test.true in
    c.requires.plan.tests (get_or places i 0) c.index.result.now (known-stands plan.tests.items plan.rows.items c.requires.plan.rows n i (get_or places i 0) here c.index.result.now c.index.ensures)

pub passes-passed-requires-clause-asks : goal.passes-passed-requires-clause-asks
passes-passed-requires-clause-asks g c =
    let plan = c.args.plan.now in
    let places = c.row-places.result.now in
    let i = c.loop-place.place-index in
    let n = c.args.turn.now.number in
    let here = row-here plan.rows.items n places i c.row-places.ensures c.loop-place-test.true in
    known-asks plan.tests.items plan.rows.items c.requires.plan.rows n i (get_or places i 0) here c.index.result.now c.index.ensures

pub add_if-requires-clause-place : goal.add_if-requires-clause-place
add_if-requires-clause-place g c =
    let plan = c.args.plan.now in
    let places = c.row-places.result.now in
    let i = c.loop-place.place-index in
    let n = c.args.turn.now.number in
    let here = row-here plan.rows.items n places i c.row-places.ensures c.loop-place-test.true in
    omega (arith, place-within plan.tests.items plan.rows.items c.requires.plan.rows n i (get_or places i 0) here, c.loop-place.auto.counts, c.requires.size)

pub add_if-requires-clause-room : goal.add_if-requires-clause-room
add_if-requires-clause-room g c =
    let texts = g.G.HoldGraph.label_text c.args.graph.now in
    let graph = g.G.HoldGraph.graph c.args.graph.now in
    let plan = c.args.plan.now in
    let places = c.row-places.result.now in
    let i = c.loop-place.place-index in
    let n = c.args.turn.now.number in
    let x = get_or places i 0 in
    let triple : Triple = record { src = c.args.v; label = c.args.turn.now.label.now; dst = c.args.turn.now.other } in
    let f : ℕ → Bool = λ p. passes_at texts graph plan p triple in
    let here = row-here plan.rows.items n places i c.row-places.ensures c.loop-place-test.true in
    let at = known-at plan.tests.items plan.rows.items c.requires.plan.rows n i x here c.index.result.now c.index.ensures in
    let is = c.passes-passed.ensures.value ∙ ap (λ (test : TripleTest). passes texts graph plan.sets.items test triple) (sym at) in
    let once = ap (λ (row : List ℕ). count_by (λ y. y == x && f x) row) c.row-places.ensures ∙ turn-adds texts graph plan c.requires.plan triple n c.requires.number x in
    let within : x < length c.loop-place.counts = omega (arith, place-within plan.tests.items plan.rows.items c.requires.plan.rows n i x here, c.loop-place.auto.counts, c.requires.size) in
    λ yes.
    room-here f places i x (slice_get-get_or places i 0 c.loop-place-test.true) c.passes-passed.result is (get_or c.args.counts.now x 0) (get_or c.loop-place.counts x 0) 18446744073709551616
    yes once (c.loop-place.invariant.counts x within) (c.requires.room x (omega (arith, within, c.loop-place.auto.counts)))

pub loop-place-preserved : goal.loop-place-preserved
loop-place-preserved g c =
    let texts = g.G.HoldGraph.label_text c.args.graph.now in
    let graph = g.G.HoldGraph.graph c.args.graph.now in
    let plan = c.args.plan.now in
    let places = c.row-places.result.now in
    let i = c.loop-place.place-index in
    let n = c.args.turn.now.number in
    let x = get_or places i 0 in
    let triple : Triple = record { src = c.args.v; label = c.args.turn.now.label.now; dst = c.args.turn.now.other } in
    let f : ℕ → Bool = λ p. passes_at texts graph plan p triple in
    let here = row-here plan.rows.items n places i c.row-places.ensures c.loop-place-test.true in
    let at = known-at plan.tests.items plan.rows.items c.requires.plan.rows n i x here c.index.result.now c.index.ensures in
    let is = c.passes-passed.ensures.value ∙ ap (λ (test : TripleTest). passes texts graph plan.sets.items test triple) (sym at) in
    record {
      counts = λ p below.
          let within : p < length c.loop-place.counts = omega (arith, below, c.add_if.auto.counts) in
          counted-next f places i x (slice_get-get_or places i 0 c.loop-place-test.true) c.passes-passed.result is p (get_or c.args.counts.now p 0) (get_or c.loop-place.counts p 0) (get_or c.add_if.new.counts p 0)
          (c.add_if.ensures p within) (c.loop-place.invariant.counts p within);
      steps = omega (arith, c.passes-passed.ensures.steps, c.loop-place.invariant.steps);
    }

pub returns-clause-counts : goal.returns-clause-counts
returns-clause-counts g c =
    let texts = g.G.HoldGraph.label_text c.args.graph.now in
    let graph = g.G.HoldGraph.graph c.args.graph.now in
    let plan = c.args.plan.now in
    let places = c.row-places.result.now in
    let n = c.args.turn.now.number in
    let triple : Triple = record { src = c.args.v; label = c.args.turn.now.label.now; dst = c.args.turn.now.other } in
    λ p below.
    let all = ap (λ (row : List ℕ). count_by (λ y. y == p && passes_at texts graph plan p triple) row) (take_all c.loop-place.place-index places c.loop-place-test.false ∙ c.row-places.ensures) in
    omega (arith, c.loop-place.invariant.counts p (omega (arith, below, c.loop-place.auto.counts)), all, turn-adds texts graph plan c.requires.plan triple n c.requires.number p)

pub returns-clause-steps : goal.returns-clause-steps
returns-clause-steps g c =
    let plan = c.args.plan.now in
    let places = c.row-places.result.now in
    let few = row_few c.requires.plan.rows c.args.turn.now.number in
    let all = ap (λ (row : List ℕ). length row) c.row-places.ensures in
    omega (arith, c.loop-place.invariant.steps, c.loop-place.auto.place-index-end, all, few)
