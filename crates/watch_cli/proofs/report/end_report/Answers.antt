use Rattle.watch_core.specs.Session.{end_text}
use Rattle.watch_core.specs.SessionStates.{watched}
use Rattle.watch_cli.proofs.ReportLemmas.{gathered_put, put_either}
use Rattle.watch_cli.proofs.report.end_report.Goals as goal

pub returns-in_default-clause-err : goal.returns-in_default-clause-err
returns-in_default-clause-err g c =
    gathered_put _ _ c.args.report.now.items c.end.new.report.items (end_text (watched c.args.session.now)) c.in_default.ensures.err
    (put_either c.put_report.result _ _ c.end.new.report.items c.put_report.ensures.ok c.put_report.ensures.err)
