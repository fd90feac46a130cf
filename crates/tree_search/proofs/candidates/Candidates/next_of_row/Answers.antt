use Rattle.std.proofs.Common.{sym, subst, ◌∙◌, arith}
use Rattle.graph_rows.specs.LabelRows.{IsPlaceOf}
use Rattle.tree_search.proofs.CandidateLemmas.{as_many, end_none, end_turn, end_skip}
use Rattle.tree_search.proofs.candidates.Candidates.next_of_row.Goals as goal

pub returns-then-passes-clause-ends : goal.returns-then-passes-clause-ends
returns-then-passes-clause-ends g c =
    sym c.loop-x.invariant.same
    ∙ end_turn (g.G.HoldGraph.outs_from c.args.graph.now) (g.G.HoldGraph.ins_from c.args.graph.now) (g.G.HoldGraph.graph c.args.graph.now) c.args.self.now c.walked-row.result.now c.walked-row.ensures c.loop-x.at c.in-Some.next c.in-Some.x c.in-Some.ensures.ends (sym c.passes.ensures.value ∙ c.if-passes.true)

pub returns-then-passes-clause-less : goal.returns-then-passes-clause-less
returns-then-passes-clause-less g c =
    let count = as_many (g.G.HoldGraph.outs_from c.args.graph.now) (g.G.HoldGraph.ins_from c.args.graph.now) (g.G.HoldGraph.graph c.args.graph.now) c.args.self.now c.walked-row.result.now c.walked-row.ensures in
    omega (arith, c.in-Some.ensures.less, c.loop-x.invariant.less, count c.loop-x.at, count c.in-Some.next)

pub returns-then-passes-clause-steps : goal.returns-then-passes-clause-steps
returns-then-passes-clause-steps g c =
    let count = as_many (g.G.HoldGraph.outs_from c.args.graph.now) (g.G.HoldGraph.ins_from c.args.graph.now) (g.G.HoldGraph.graph c.args.graph.now) c.args.self.now c.walked-row.result.now c.walked-row.ensures in
    omega (arith, c.in-Some.ensures.less, c.in-Some.ensures.steps, c.passes.ensures.steps, c.loop-x.invariant.steps, count c.loop-x.at, count c.in-Some.next)

pub loop-x-preserved : goal.loop-x-preserved
loop-x-preserved g c =
    let outs = g.G.HoldGraph.outs_from c.args.graph.now in
    let ins = g.G.HoldGraph.ins_from c.args.graph.now in
    let graph = g.G.HoldGraph.graph c.args.graph.now in
    let count = as_many outs ins graph c.args.self.now c.walked-row.result.now c.walked-row.ensures in
    record {
      place = subst (λ r. IsPlaceOf (g.G.HoldGraph.is_out_place c.args.graph.now) (g.G.HoldGraph.is_in_place c.args.graph.now) r c.in-Some.next) c.walked-row.ensures c.in-Some.ensures.next;
      same = sym (end_skip outs ins graph c.args.self.now c.walked-row.result.now c.walked-row.ensures c.loop-x.at c.in-Some.next c.in-Some.x c.in-Some.ensures.ends (sym c.passes.ensures.value ∙ c.if-passes.false)) ∙ c.loop-x.invariant.same;
      less = omega (arith, c.in-Some.ensures.less, c.loop-x.invariant.less, count c.loop-x.at, count c.in-Some.next);
      steps = omega (arith, c.in-Some.ensures.less, c.in-Some.ensures.steps, c.passes.ensures.steps, c.loop-x.invariant.steps, count c.loop-x.at, count c.in-Some.next);
    }

pub returns-clause-ends : goal.returns-clause-ends
returns-clause-ends g c =
    sym c.loop-x.invariant.same
    ∙ end_none (g.G.HoldGraph.outs_from c.args.graph.now) (g.G.HoldGraph.ins_from c.args.graph.now) (g.G.HoldGraph.graph c.args.graph.now) c.args.self.now c.walked-row.result.now c.walked-row.ensures c.loop-x.at c.in_default.ensures.ends

pub returns-clause-steps : goal.returns-clause-steps
returns-clause-steps g c =
    let count = as_many (g.G.HoldGraph.outs_from c.args.graph.now) (g.G.HoldGraph.ins_from c.args.graph.now) (g.G.HoldGraph.graph c.args.graph.now) c.args.self.now c.walked-row.result.now c.walked-row.ensures in
    omega (arith, c.in_default.ensures.steps, c.loop-x.invariant.steps, count c.loop-x.at)
