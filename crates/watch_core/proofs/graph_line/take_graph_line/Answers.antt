use Rattle.std.proofs.Common.{◌≡◌, ◌∙◌, sym, ap, Ok}
use Rattle.flux_model.specs.LentLine.{seen_line}
use Rattle.watch_core.proofs.GraphLineLemmas.{line-changes, line-repeats, line-refused}
use Rattle.watch_core.proofs.graph_line.take_graph_line.Goals as goal

pub returns-in-Ok-clause-ok : goal.returns-in-Ok-clause-ok
returns-in-Ok-clause-ok g c =
    λ k. line-changes (g.G.HoldGraph.limits c.args.graph.now) k (g.G.HoldGraph.graph c.args.graph.now) (g.G.HoldGraph.graph c.apply.new.graph) (seen_line c.args.line.now) c.in-Says.update
    (sym c.in_ok-read_graph_line.ensures ∙ c.in-Says.is) (rw c.in-Ok.is at c.in_ok-apply.ensures.ok)

pub returns-in-Err-clause-ok : goal.returns-in-Err-clause-ok
returns-in-Err-clause-ok g c =
    let same : g.G.HoldGraph.graph c.apply.new.graph ≡ g.G.HoldGraph.graph c.args.graph.now = rw c.in-Err.is at c.in_ok-apply.ensures.unchanged in
    λ k. line-repeats (g.G.HoldGraph.limits c.args.graph.now) k (g.G.HoldGraph.graph c.args.graph.now) (seen_line c.args.line.now) c.in-Says.update c.in-Err.code (sym c.in_ok-read_graph_line.ensures ∙ c.in-Says.is)
    (rw c.in-Err.is at c.in_ok-apply.ensures.refused) (sym c.is_repeated.ensures ∙ c.if-is_repeated.true)
    ∙ ap (λ graph. Ok graph) (sym same)

pub returns-clause-refused : goal.returns-clause-refused
returns-clause-refused g c =
    λ k. line-refused (g.G.HoldGraph.limits c.args.graph.now) k (g.G.HoldGraph.graph c.args.graph.now) (seen_line c.args.line.now) c.in-Says.update c.in-Err.code (sym c.in_ok-read_graph_line.ensures ∙ c.in-Says.is)
    c.apply.ensures.graph (rw c.in-Err.is at c.in_ok-apply.ensures.refused) (sym c.is_repeated.ensures ∙ c.if-is_repeated.false)
