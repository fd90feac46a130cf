use Rattle.std.proofs.Common.{ℕ, ◌+◌, List, drop, sym, ap, ◌∙◌}
use Rattle.label_graph.specs.Names.{slot}
use Rattle.label_graph.specs.SetNames.{lowered_in}
use Rattle.label_graph.proofs.SetNameLemmas.{left_at, not_left, lowered_more}
use Rattle.label_graph.proofs.names.Names.lower_all.Goals as goal

pub loop-i-preserved : goal.loop-i-preserved
loop-i-preserved c q =
    let rest : List (List ℕ) = drop (c.loop-i.i + 1) c.args.labels.now in
    ap (lowered_in rest) (c.lower_text.ensures q)
    ∙ (lowered_more c.get.result.now rest (not_left c.args.labels.now c.loop-i.i c.get.result.now c.len-i-end.ensures.set.ascending c.get.ensures) (slot c.loop-i.self q)
    ∙ (ap (λ (set : List (List ℕ)). lowered_in set (slot c.loop-i.self q)) (sym (left_at c.args.labels.now c.loop-i.i c.get.result.now c.get.ensures)) ∙ c.loop-i.invariant q))
