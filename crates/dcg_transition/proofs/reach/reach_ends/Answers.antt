use Rattle.std.proofs.Common.{◌≡◌, ◌+◌, true, cond, ◌==◌, length, refl, ap, ◌∙◌, eq-eqb, arith}
use Rattle.std.specs.Prelude.{count_by}
use Rattle.std.proofs.lemmas.List.Sorted.{length_permutation}
use Rattle.graph_rows.specs.Directions.{whole_row}
use Rattle.graph_rows.specs.declared.graph_row.GraphRow.{GraphRow}
use Rattle.graph_rows.specs.LabelRows.{row_from, ends_from}
use Rattle.graph_rows.specs.Branches.{joins}
use Rattle.dcg_transition.proofs.BegunLemmas.{ins_is, none_more, more_alike, more_twice, one_more}
use Rattle.graph_rows.proofs.RestLemmas.{joins_one, late, not_last, none_late}
use Rattle.graph_rows.proofs.JointLemmas.{count_row}
use Rattle.dcg_transition.proofs.reach.reach_ends.Goals as goal

pub loop-w-init : goal.loop-w-init
loop-w-init g c = record {
  place = c.first-at.ensures.place;
  more = λ w. 0;
  grown = none_more c.args.branch.now.child c.args.dcg.now c.args.dcg.now (λ w. 0) c.requires.begun refl (λ w. refl);
  late = λ w. omega arith;
  steps = omega arith;
}

pub raise_in-requires-clause-room : goal.raise_in-requires-clause-room
raise_in-requires-clause-room g c =
    let store = c.args.graph.now in
    let graph = g.G.HoldGraph.graph store in
    let branch = c.args.branch.now in
    let row = row_from (g.G.HoldGraph.outs_from store) (g.G.HoldGraph.ins_from store) c.row-row.result in
    let rest = ends_from (g.G.HoldGraph.outs_from store) (g.G.HoldGraph.ins_from store) c.row-row.result in
    let w = c.in-Some.w in
    let leads = joins graph branch.labels.now w in
    let so_far = c.loop-w.invariant in
    let test : leads w ≡ true = joins_one graph branch.labels.now w w c.fits.result c.fits.ensures.value c.if-fits.true ∙ eq-eqb w w refl in
    let most = not_last leads w (rest c.loop-w.at) (rest c.in-Some.next) (so_far.more w) (count_by leads (rest c.first-at.result)) c.in-Some.ensures.ends test (so_far.late w) in
    let whole = count_row leads branch graph c.args.v c.row-row.result c.row-row.ensures (row c.first-at.result) c.first-at.ensures.all in
    λ state e.
    let ins = ins_is c.loop-w.dcg branch.child w state e in
    omega (arith, most, whole, ins, so_far.grown.ins w, c.requires.room w)

pub loop-w-preserved-in-Continue-1 : goal.loop-w-preserved-in-Continue-1
loop-w-preserved-in-Continue-1 g c =
    let store = c.args.graph.now in
    let graph = g.G.HoldGraph.graph store in
    let branch = c.args.branch.now in
    let rest = ends_from (g.G.HoldGraph.outs_from store) (g.G.HoldGraph.ins_from store) c.row-row.result in
    let x = c.in-Some.w in
    let leads_to = joins graph branch.labels.now in
    let so_far = c.loop-w.invariant in
    record {
      place = c.in-Some.ensures.next;
      more = λ w. so_far.more w + cond (w == x) 1 0;
      grown = more_twice branch.child so_far.more (λ w. cond (w == x) 1 0) (λ w. so_far.more w + cond (w == x) 1 0) c.args.dcg.now c.loop-w.dcg c.raise_in.new.self so_far.grown
          (one_more branch.child x c.loop-w.dcg c.raise_in.new.self so_far.grown.begun c.in_ok-raise_in.ensures.ok) (λ w. refl);
      late = λ w.
          late (leads_to w) x (rest c.loop-w.at) (rest c.in-Some.next) (so_far.more w) (count_by (leads_to w) (rest c.first-at.result)) (w == x) c.in-Some.ensures.ends
          (joins_one graph branch.labels.now w x c.fits.result c.fits.ensures.value c.if-fits.true) (so_far.late w);
      steps = omega (arith, c.in-Some.ensures.steps, c.in-Some.ensures.less, c.fits.ensures.step, c.raise_in.ensures.step, so_far.steps);
    }

pub returns-clause-ins : goal.returns-clause-ins
returns-clause-ins g c =
    let store = c.args.graph.now in
    let graph = g.G.HoldGraph.graph store in
    let branch = c.args.branch.now in
    let row = row_from (g.G.HoldGraph.outs_from store) (g.G.HoldGraph.ins_from store) c.row-row.result in
    let rest = ends_from (g.G.HoldGraph.outs_from store) (g.G.HoldGraph.ins_from store) c.row-row.result in
    let leads_to = joins graph branch.labels.now in
    let so_far = c.loop-w.invariant in
    more_alike branch.child so_far.more _ c.args.dcg.now c.loop-w.dcg so_far.grown (λ w.
    none_late (leads_to w) (rest c.loop-w.at) (so_far.more w) (count_by (leads_to w) (rest c.first-at.result)) c.in_default.ensures.ends (so_far.late w)
    ∙ count_row (leads_to w) branch graph c.args.v c.row-row.result c.row-row.ensures (row c.first-at.result) c.first-at.ensures.all)

pub returns-clause-steps : goal.returns-clause-steps
returns-clause-steps g c =
    let store = c.args.graph.now in
    let row = row_from (g.G.HoldGraph.outs_from store) (g.G.HoldGraph.ins_from store) c.row-row.result in
    let whole = length_permutation (row c.first-at.result) (whole_row c.row-row.result.direction (g.G.HoldGraph.graph store) c.row-row.result.vertex) c.first-at.ensures.all in
    let along = ap (λ (r : GraphRow). length (whole_row r.direction (g.G.HoldGraph.graph store) r.vertex)) c.row-row.ensures in
    omega (arith, c.in_default.ensures.steps, c.loop-w.invariant.steps, whole, along)
