use Rattle.std.proofs.Common.{sym, ◌∙◌, arith}
use Rattle.tree_search.proofs.CandidateLemmas.{layer_turn, layer_skip}
use Rattle.tree_search.proofs.candidates.Candidates.next_of_layer.Goals as goal

pub returns-then-leads_to-clause-ends : goal.returns-then-leads_to-clause-ends
returns-then-leads_to-clause-ends g c =
    sym c.loop-i.invariant.same
    ∙ layer_turn (g.G.HoldGraph.graph c.args.graph.now) c.args.self.now c.loop-i.i c.loop-i-test.true (sym c.leads_to.ensures.value ∙ c.if-leads_to.true)

pub loop-i-preserved : goal.loop-i-preserved
loop-i-preserved g c = record {
  same = sym (layer_skip (g.G.HoldGraph.graph c.args.graph.now) c.args.self.now c.loop-i.i c.loop-i-test.true (sym c.leads_to.ensures.value ∙ c.if-leads_to.false)) ∙ c.loop-i.invariant.same;
  steps = omega (arith, c.loop-i.invariant.steps, c.leads_to.ensures.steps);
}
