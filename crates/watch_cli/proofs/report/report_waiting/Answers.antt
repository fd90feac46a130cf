use Rattle.std.proofs.Common.{◌≡◌, ◌+◌, ◌∙◌, ap, arith, refl, [], subst, List}
use Rattle.std.proofs.lemmas.Result.{err_from_is_err_and, on_ok_weaker, on_err_weaker}
use Rattle.flux_model.specs.Lines.{InputLine}
use Rattle.flux_model.specs.LentLine.{seen_line}
use Rattle.watch_core.specs.Session.{WatchState, said_by}
use Rattle.watch_core.specs.SessionStates.{watched}
use Rattle.watch_cli.proofs.ReportLemmas.{Reported, Reported-turn, Reported-stops, Reported-end_short, one_less, nothing_waits}
use Rattle.watch_cli.proofs.CostLemmas.{waiting-turn}
use Rattle.flux_outside.proofs.ReadsLemmas.{NoEmptyPut-trans}
use Rattle.watch_cli.proofs.report.report_waiting.Goals as goal

pub returns-in_err-report_line-clause-err : goal.returns-in_err-report_line-clause-err
returns-in_err-report_line-clause-err g c =
    let p = err_from_is_err_and c.from_residual.result c.from_residual.ensures.1 in
    rw p.1 (Reported-stops _ _ _ c.loop-line.report.items _ (watched c.loop-line.session) _ c.loop-line.lines.queue (seen_line c.in-Some.line) c.in-Some.ensures c.loop-line.invariant.reported c.in_err-report_line.ensures.err)

pub loop-line-preserved : goal.loop-line-preserved
loop-line-preserved g c =
    let one : c.report_line.new.session.lines ≡ c.loop-line.session.lines + 1 = ap (λ (s : WatchState). s.lines) c.in_ok-report_line.ensures.after in
    let less = one_less c.loop-line.lines.queue (seen_line c.in-Some.line) c.in-Some.ensures in
    record {
      reported = rw c.pass.ensures (Reported-turn _ _ _ c.loop-line.report.items _ _ (watched c.loop-line.session) _ _ c.loop-line.lines.queue (seen_line c.in-Some.line) c.in-Some.ensures c.loop-line.invariant.reported c.in_ok-report_line.ensures.ok c.in_ok-report_line.ensures.after);
      count = rw c.pass.ensures (omega (arith, one, less, c.loop-line.invariant.count));
      same = rw (c.pass.ensures, c.loop-line.invariant.same) refl;
      later = omega (arith, c.loop-line.invariant.later, c.in_ok-report_line.ensures.later);
      puts = NoEmptyPut-trans _ _ _ c.loop-line.invariant.puts c.in_ok-report_line.ensures.puts;
      whole = c.in_ok-report_line.ensures.whole;
      trees = c.in_ok-report_line.ensures.trees ∙ c.loop-line.invariant.trees;
      spent = rw c.pass.ensures (waiting-turn (watched c.loop-line.session) (watched c.report_line.new.session) c.loop-line.session.registry.trees c.args.session.now.registry.trees c.loop-line.lines.queue
          (seen_line c.in-Some.line) c.loop-line.steps c.report_line.new.steps _ c.in-Some.ensures c.in_ok-report_line.ensures.after c.loop-line.invariant.trees c.in_ok-report_line.ensures.steps c.loop-line.invariant.spent);
    }

pub returns-clause-err : goal.returns-clause-err
returns-clause-err g c =
    let none : c.loop-line.lines.queue ≡ [] = nothing_waits c.loop-line.lines.queue c.in_default.ensures in
    on_err_weaker c.put_report.result
    (λ front. Reported-end_short _ _ _ c.loop-line.report.items _ (watched c.loop-line.session) _
    (subst (λ (q : List InputLine). Reported (g.W.Sink.taken c.args.out.now) (g.W.Sink.taken c.loop-line.out) c.loop-line.report.items (watched c.args.session.now) (watched c.loop-line.session) (said_by c.args.lines.now.queue) (said_by q)) none c.loop-line.invariant.reported) front)
    c.put_report.ensures.err

pub returns-in_err-report_line-clause-puts : goal.returns-in_err-report_line-clause-puts
returns-in_err-report_line-clause-puts g c = NoEmptyPut-trans _ _ _ c.loop-line.invariant.puts c.in_err-report_line.ensures.puts

pub returns-clause-puts : goal.returns-clause-puts
returns-clause-puts g c = NoEmptyPut-trans _ _ _ c.loop-line.invariant.puts c.put_report.ensures.puts

pub returns-clause-steps : goal.returns-clause-steps
returns-clause-steps g c = on_ok_weaker c.put_report.result (λ put. omega (arith, c.loop-line.invariant.spent)) c.put_report.ensures.empty
