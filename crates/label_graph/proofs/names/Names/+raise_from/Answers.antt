use Rattle.std.proofs.Common.{ℕ, ◌+◌, List, drop, sym, subst}
use Rattle.label_graph.specs.SetNames.{IsRaised}
use Rattle.label_graph.proofs.SetNameLemmas.{left_at, not_left, raised_more}
use Rattle.label_graph.proofs.names.Names.+raise_from.Goals as goal

pub returns-in-Ok-clause-raised : goal.returns-in-Ok-clause-raised
returns-in-Ok-clause-raised t c =
    let P : List (List ℕ) → Type 0 = λ set. IsRaised set c.args.self.now c.raise_from.new.self in
    subst P (sym (left_at c.args.labels.now c.args.i c.get.result.now c.get.ensures))
    (raised_more c.get.result.now (drop (c.args.i + 1) c.args.labels.now) c.args.self.now c.raise.new.self c.raise_from.new.self c.in_ok-n.n
    (not_left c.args.labels.now c.args.i c.get.result.now c.len-2.ensures.set.ascending c.get.ensures)
    c.len.ensures.table c.in_ok-n.ensures.was c.in_ok-n.ensures.here c.in_ok-n.ensures.others c.in-Ok.ensures.raised)
