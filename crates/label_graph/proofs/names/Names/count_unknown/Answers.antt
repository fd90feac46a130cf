use Rattle.std.proofs.Common.{ℕ, List, not, sym, ◌∙◌, arith}
use Rattle.label_graph.specs.SetNames.{is_known}
use Rattle.label_graph.proofs.SetNameLemmas.{count_more, count_same}
use Rattle.label_graph.proofs.names.Names.count_unknown.Goals.{then-is_unknown, else-is_unknown}
use Rattle.label_graph.proofs.names.Names.count_unknown.Goals as goal

pub loop-i-preserved : goal.loop-i-preserved
loop-i-preserved c =
    elim c.if-is_unknown.branch [
      | then-is_unknown w ↦ record {
        count = count_more (λ (text : List ℕ). not (is_known c.args.self.now text)) c.args.labels.now c.loop-i.i c.loop-i.count c.if-is_unknown.count c.get.result.now c.get.ensures (sym c.is_unknown.ensures ∙ w.if-is_unknown.true) w.count-is c.loop-i.invariant.count;
        within = let a = w.count-is in let b = c.loop-i.invariant.within in omega (arith, a, b);
      }
      | else-is_unknown w ↦ record {
        count = count_same (λ (text : List ℕ). not (is_known c.args.self.now text)) c.args.labels.now c.loop-i.i c.loop-i.count c.if-is_unknown.count c.get.result.now c.get.ensures (sym c.is_unknown.ensures ∙ w.if-is_unknown.false) w.count-is c.loop-i.invariant.count;
        within = let a = w.count-is in let b = c.loop-i.invariant.within in omega (arith, a, b);
      }
    ]
