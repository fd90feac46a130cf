use Rattle.std.proofs.Common.{subst}
use Rattle.std.specs.Io.KnownBytes.{Appends}
use Rattle.std.proofs.lemmas.Result.{on_ok_weaker, on_err_weaker}
use Rattle.flux_outside.specs.Told.{AppendsFront}
use Rattle.flux_model.specs.Report.{match_text}
use Rattle.watch_cli.proofs.ReportLemmas.{AppendsFront-nothing}
use Rattle.watch_cli.proofs.CostLemmas.{answers-stay}
use Rattle.watch_cli.proofs.answers.put_answers.Goals as goal

pub returns-in_default-clause-err : goal.returns-in_default-clause-err
returns-in_default-clause-err g c = AppendsFront-nothing _ _

pub returns-clause-ok : goal.returns-clause-ok
returns-clause-ok g c =
    on_ok_weaker c.put_all.result
    (λ put. subst (λ qs. Appends (g.W.Sink.taken c.args.out.now) (g.W.Sink.taken c.put_all.new.out) (match_text (g.G.HoldGraph.graph c.args.graph.now) qs)) c.in-Ok.ensures.patterns put)
    c.put_all.ensures.ok

pub returns-clause-err : goal.returns-clause-err
returns-clause-err g c =
    on_err_weaker c.put_all.result
    (λ front. subst (λ qs. AppendsFront (g.W.Sink.taken c.args.out.now) (g.W.Sink.taken c.put_all.new.out) (match_text (g.G.HoldGraph.graph c.args.graph.now) qs)) c.in-Ok.ensures.patterns front)
    c.put_all.ensures.err

pub returns-clause-steps : goal.returns-clause-steps
returns-clause-steps g c =
    let registry = c.in-Ok.registry in
    on_ok_weaker c.put_all.result
    (λ within. answers-stay (g.G.HoldGraph.graph c.args.graph.now) c.args.patterns registry.patterns registry.trees c.args.steps.now c.start.new.steps c.put_all.new.steps
    c.in-Ok.ensures.patterns c.in-Ok.ensures.trees c.in-Ok.ensures.steps within)
    c.put_all.ensures.steps
