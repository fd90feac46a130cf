use Rattle.std.proofs.Common.{arith}
use Rattle.std.proofs.lemmas.Result.{err_from_is_err_and, on_ok_weaker, on_err_weaker}
use Rattle.flux_model.specs.Reading.{update_reading}
use Rattle.flux_model.specs.LentLine.{seen_line}
use Rattle.watch_core.specs.SessionStates.{watched}
use Rattle.watch_cli.proofs.ReportLemmas.{last_put, last_short, last_stopped, none_put, none_short}
use Rattle.flux_outside.proofs.ReadsLemmas.{NoEmptyPut-trans}
use Rattle.watch_cli.proofs.report.report_end.Goals as goal

pub returns-in-None-clause-ok : goal.returns-in-None-clause-ok
returns-in-None-clause-ok g c = rw c.in-None.is (on_ok_weaker c.end_report.result (none_put _ _ c.args.report.now.items (watched c.args.session.now) c.requires.empty) c.end_report.ensures.ok)

pub returns-in-None-clause-err : goal.returns-in-None-clause-err
returns-in-None-clause-err g c = rw c.in-None.is (on_err_weaker c.end_report.result (none_short _ _ c.args.report.now.items (watched c.args.session.now) c.requires.empty) c.end_report.ensures.err)

pub returns-in_err-report_line-in-Some-clause-err : goal.returns-in_err-report_line-in-Some-clause-err
returns-in_err-report_line-in-Some-clause-err g c =
    let p = err_from_is_err_and c.from_residual.result c.from_residual.ensures.1 in
    rw (p.1, c.in-Some.is) (last_stopped _ _ c.args.report.now.items (watched c.args.session.now) (update_reading (seen_line c.in-Some.line)) c.requires.empty c.in_err-report_line-in-Some.ensures.err)

pub returns-in_ok-report_line-in-Some-clause-ok : goal.returns-in_ok-report_line-in-Some-clause-ok
returns-in_ok-report_line-in-Some-clause-ok g c =
    rw c.in-Some.is (on_ok_weaker c.end_report-in-Some.result
    (last_put _ _ _ c.args.report.now.items c.report_line.new.report.items (watched c.args.session.now) (watched c.report_line.new.session) (update_reading (seen_line c.in-Some.line)) c.requires.empty c.in_ok-report_line-in-Some.ensures.ok c.in_ok-report_line-in-Some.ensures.after)
    c.end_report-in-Some.ensures.ok)

pub returns-in_ok-report_line-in-Some-clause-err : goal.returns-in_ok-report_line-in-Some-clause-err
returns-in_ok-report_line-in-Some-clause-err g c =
    rw c.in-Some.is (on_err_weaker c.end_report-in-Some.result
    (last_short _ _ _ c.args.report.now.items c.report_line.new.report.items (watched c.args.session.now) (watched c.report_line.new.session) (update_reading (seen_line c.in-Some.line)) c.requires.empty c.in_ok-report_line-in-Some.ensures.ok c.in_ok-report_line-in-Some.ensures.after)
    c.end_report-in-Some.ensures.err)

pub returns-in_ok-report_line-in-Some-clause-puts : goal.returns-in_ok-report_line-in-Some-clause-puts
returns-in_ok-report_line-in-Some-clause-puts g c = NoEmptyPut-trans _ _ _ c.in_ok-report_line-in-Some.ensures.puts c.end_report-in-Some.ensures.puts

pub returns-in_ok-report_line-in-Some-clause-steps : goal.returns-in_ok-report_line-in-Some-clause-steps
returns-in_ok-report_line-in-Some-clause-steps g c =
    rw c.in-Some.is (on_ok_weaker c.end_report-in-Some.result (λ put. omega (arith, c.in_ok-report_line-in-Some.ensures.steps)) c.end_report-in-Some.ensures.ok)
