use Rattle.flux_model.specs.Verdict.{shape_of}
use Rattle.watch_cli.specs.CommandWords.{texts}
use Rattle.watch_cli.proofs.TopLemmas.{early-usage, early-done, early-kept}
use Rattle.watch_cli.proofs.top.judge.Goals as goal

pub returns-in-Err-clause-usage : goal.returns-in-Err-clause-usage
returns-in-Err-clause-usage g c = early-usage c.in-Err.status (shape_of (texts c.args.words.now)) _ c.in-Err.ensures.early c.in-Some.ensures

pub returns-in-Err-clause-end : goal.returns-in-Err-clause-end
returns-in-Err-clause-end g c = early-done c.in-Err.status _ c.in-Err.ensures.early

pub returns-in-Err-clause-kept : goal.returns-in-Err-clause-kept
returns-in-Err-clause-kept g c = early-kept c.args.limits.now (g.F.Shelf.files c.args.shelf.now) (shape_of (texts c.args.words.now)) (g.S.Source.left c.args.updates.now) c.in-Err.status c.in-Err.ensures.early

pub returns-in-Err-clause-steps : goal.returns-in-Err-clause-steps
returns-in-Err-clause-steps g c = early-done c.in-Err.status _ c.in-Err.ensures.early
