use Rattle.std.proofs.Common.{◌≡◌, ◌+◌, true, length, refl, ap, subst, ◌∙◌, arith}
use Rattle.std.specs.Prelude.{count_by}
use Rattle.flux_model.specs.Exact.{row_at}
use Rattle.graph_rows.specs.Branches.{ends}
use Rattle.std.proofs.lemmas.List.Sorted.{length_permutation}
use Rattle.graph_rows.specs.Directions.{whole_row}
use Rattle.graph_rows.specs.declared.graph_row.GraphRow.{GraphRow}
use Rattle.graph_rows.specs.LabelRows.{row_from, ends_from}
use Rattle.dcg_transition.specs.Filled.{opens, HasMoreOuts}
use Rattle.graph_rows.proofs.RestLemmas.{late, not_last, none_late}
use Rattle.graph_rows.proofs.JointLemmas.{count_row}
use Rattle.dcg_transition.proofs.OutLemmas.{outs_unchanged, outs_raised, opens_before, outs_here, wide_enough, has_room}
use Rattle.dcg_transition.proofs.extend.extend_ends.Goals as goal

pub loop-w-init : goal.loop-w-init
loop-w-init g c = record {
  place = c.first-at.ensures.place;
  more = 0;
  grown = outs_unchanged c.args.branch.now.link.parent c.args.v c.args.branch.now.number c.args.dcg.now c.args.dcg.now refl;
  late = omega arith;
  steps = omega arith;
}

pub raise_out-requires-clause-room : goal.raise_out-requires-clause-room
raise_out-requires-clause-room g c =
    let store = c.args.graph.now in
    let graph = g.G.HoldGraph.graph store in
    let branch = c.args.branch.now in
    let dcg = c.args.dcg.now in
    let leads_on = opens dcg branch.child in
    let row = row_from (g.G.HoldGraph.outs_from store) (g.G.HoldGraph.ins_from store) c.row-row.result in
    let rest = ends_from (g.G.HoldGraph.outs_from store) (g.G.HoldGraph.ins_from store) c.row-row.result in
    let so_far = c.loop-w.invariant in
    let test = opens_before branch.link.parent c.args.v branch.number so_far.more dcg c.loop-w.dcg so_far.grown branch.child c.in-Some.w c.is_explicit.result c.requires.apart c.is_explicit.ensures.value c.if-is_explicit.true in
    let most = not_last leads_on c.in-Some.w (rest c.loop-w.at) (rest c.in-Some.next) so_far.more (count_by leads_on (rest c.first-at.result)) c.in-Some.ensures.ends test so_far.late in
    let whole = count_row leads_on branch graph c.args.v c.row-row.result c.row-row.ensures (row c.first-at.result) c.first-at.ensures.all in
    has_room branch.number so_far.more (count_by leads_on (ends branch graph c.args.v)) (row_at dcg branch.link.parent c.args.v) (row_at c.loop-w.dcg branch.link.parent c.args.v) c.requires.row
    (outs_here branch.link.parent c.args.v branch.number so_far.more dcg c.loop-w.dcg so_far.grown) (omega (arith, most, whole))

pub loop-w-preserved-then-is_explicit : goal.loop-w-preserved-then-is_explicit
loop-w-preserved-then-is_explicit g c =
    let store = c.args.graph.now in
    let graph = g.G.HoldGraph.graph store in
    let branch = c.args.branch.now in
    let dcg = c.args.dcg.now in
    let leads_on = opens dcg branch.child in
    let rest = ends_from (g.G.HoldGraph.outs_from store) (g.G.HoldGraph.ins_from store) c.row-row.result in
    let so_far = c.loop-w.invariant in
    let test = opens_before branch.link.parent c.args.v branch.number so_far.more dcg c.loop-w.dcg so_far.grown branch.child c.in-Some.w c.is_explicit.result c.requires.apart c.is_explicit.ensures.value c.if-is_explicit.true in
    record {
      place = c.in-Some.ensures.next;
      more = so_far.more + 1;
      grown = outs_raised branch.link.parent c.args.v branch.number so_far.more dcg c.loop-w.dcg c.raise_out.new.self
          (wide_enough branch.number (count_by leads_on (ends branch graph c.args.v)) (row_at dcg branch.link.parent c.args.v) c.requires.row) so_far.grown c.raise_out.ensures.raised;
      late = late leads_on c.in-Some.w (rest c.loop-w.at) (rest c.in-Some.next) so_far.more (count_by leads_on (rest c.first-at.result)) true c.in-Some.ensures.ends test so_far.late;
      steps = omega (arith, c.in-Some.ensures.steps, c.in-Some.ensures.less, c.is_explicit.ensures.step, c.raise_out.ensures.step, so_far.steps);
    }

pub returns-clause-outs : goal.returns-clause-outs
returns-clause-outs g c =
    let store = c.args.graph.now in
    let graph = g.G.HoldGraph.graph store in
    let branch = c.args.branch.now in
    let dcg = c.args.dcg.now in
    let leads_on = opens dcg branch.child in
    let row = row_from (g.G.HoldGraph.outs_from store) (g.G.HoldGraph.ins_from store) c.row-row.result in
    let rest = ends_from (g.G.HoldGraph.outs_from store) (g.G.HoldGraph.ins_from store) c.row-row.result in
    let so_far = c.loop-w.invariant in
    let all : so_far.more ≡ count_by leads_on (ends branch graph c.args.v) = none_late leads_on (rest c.loop-w.at) so_far.more (count_by leads_on (rest c.first-at.result)) c.in_default.ensures.ends so_far.late
    ∙ count_row leads_on branch graph c.args.v c.row-row.result c.row-row.ensures (row c.first-at.result) c.first-at.ensures.all in
    subst (λ n. HasMoreOuts branch.link.parent c.args.v branch.number n dcg c.loop-w.dcg) all so_far.grown

pub returns-clause-steps : goal.returns-clause-steps
returns-clause-steps g c =
    let store = c.args.graph.now in
    let row = row_from (g.G.HoldGraph.outs_from store) (g.G.HoldGraph.ins_from store) c.row-row.result in
    let whole = length_permutation (row c.first-at.result) (whole_row c.row-row.result.direction (g.G.HoldGraph.graph store) c.row-row.result.vertex) c.first-at.ensures.all in
    let along = ap (λ (r : GraphRow). length (whole_row r.direction (g.G.HoldGraph.graph store) r.vertex)) c.row-row.ensures in
    omega (arith, c.in_default.ensures.steps, c.loop-w.invariant.steps, whole, along)
