use Rattle.flux_outside.specs.Causes.{Rose}
use Rattle.flux_model.specs.Verdict.{shape_of}
use Rattle.watch_cli.specs.CommandWords.{texts}
use Rattle.watch_cli.specs.RunEnds.{OneRose, ReadFails}
use Rattle.watch_cli.proofs.TopLemmas.{status-complete}
use Rattle.watch_cli.proofs.AskedByRunLemmas.{run-asked}
use Rattle.watch_cli.proofs.top.run.Goals as goal

pub returns-clause-complete : goal.returns-clause-complete
returns-clause-complete g c =
    status-complete c.args.limits.now (g.F.Shelf.files c.args.shelf.now) (shape_of (texts c.args.words.now)) (g.S.Source.left c.args.updates.now) (g.W.Sink.taken c.args.out.now) (g.W.Sink.taken c.judge-ended.new.out)
    (ReadFails c.args.limits.now (g.F.Shelf.files c.args.shelf.now) (shape_of (texts c.args.words.now))
    (g.F.Shelf.faults c.args.shelf.now) (g.F.Shelf.faults c.judge-ended.new.shelf) (g.S.Source.faults c.args.updates.now) (g.S.Source.faults c.judge-ended.new.updates)
    (g.S.Source.left c.args.updates.now) (g.S.Source.left c.judge-ended.new.updates) (g.W.Sink.taken c.args.out.now) (g.W.Sink.taken c.judge-ended.new.out))
    (Rose (g.W.Sink.faults c.args.out.now) (g.W.Sink.faults c.judge-ended.new.out))
    (OneRose (shape_of (texts c.args.words.now)) (g.F.Shelf.faults c.args.shelf.now) (g.F.Shelf.faults c.judge-ended.new.shelf) (g.S.Source.faults c.args.updates.now) (g.S.Source.faults c.judge-ended.new.updates))
    c.judge-ended.result.status (λ reads. reads.cause) c.judge-ended.ensures.status

pub returns-clause-asked : goal.returns-clause-asked
returns-clause-asked g c =
    run-asked c.args.limits.now (g.F.Shelf.files c.args.shelf.now) (shape_of (texts c.args.words.now)) c.judge-ended.result.status
    (g.F.Shelf.reads c.args.shelf.now) (g.F.Shelf.reads c.judge-ended.new.shelf)
    (g.S.Source.reads c.args.updates.now) (g.S.Source.reads c.judge-ended.new.updates) c.judge-ended.ensures.asked
