use Rattle.delta_report.specs.Answers.{answer_line}
use Rattle.watch_cli.proofs.ReportLemmas.{gathered_put, put_either}
use Rattle.watch_cli.proofs.answers.put_map.Goals as goal

pub returns-in_default-clause-err : goal.returns-in_default-clause-err
returns-in_default-clause-err g c =
    gathered_put _ _ c.args.report.now.items c.write_answer.new.out.items (answer_line c.args.name.now c.args.map.now) c.in_default.ensures.err
    (put_either c.put_report.result _ _ c.write_answer.new.out.items c.put_report.ensures.ok c.put_report.ensures.err)
