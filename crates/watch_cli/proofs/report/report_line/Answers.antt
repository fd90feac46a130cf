use Rattle.flux_model.specs.Reading.{update_reading}
use Rattle.flux_model.specs.LentLine.{seen_line}
use Rattle.watch_core.specs.Session.{next_block}
use Rattle.watch_core.specs.SessionStates.{watched}
use Rattle.watch_cli.proofs.ReportLemmas.{gathered_put, put_either}
use Rattle.watch_cli.proofs.report.report_line.Goals as goal

pub returns-in_default-clause-err : goal.returns-in_default-clause-err
returns-in_default-clause-err g c =
    gathered_put _ _ c.args.report.now.items c.line.new.report.items (next_block (watched c.args.session.now) (update_reading (seen_line c.args.line.now))) c.in_default.ensures.err
    (put_either c.put_report.result _ _ c.line.new.report.items c.put_report.ensures.ok c.put_report.ensures.err)
