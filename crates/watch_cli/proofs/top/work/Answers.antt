use Rattle.std.proofs.lemmas.Result.{err_from_is_err_and}
use Rattle.std.specs.Prelude.{Err, ⊤}
use Rattle.watch_cli.specs.AskedByRun.{EndsAtReadFault}
use Rattle.watch_cli.proofs.AskedByRunLemmas.{asked-none}
use Rattle.watch_cli.proofs.top.work.Goals as goal

pub returns-in_err-list_answers-in-Match-clause-status : goal.returns-in_err-list_answers-in-Match-clause-status
returns-in_err-list_answers-in-Match-clause-status g c =
    let p = err_from_is_err_and c.from_residual-in_err-list_answers-in-Match.result c.from_residual-in_err-list_answers-in-Match.ensures.1 in
    rw (p.1, p.2, c.in-Match.is) (c.in_err-list_answers-in-Match.ensures.status (g.S.Source.left c.args.updates.now) (g.S.Source.faults c.args.updates.now))

pub returns-in_err-save_graph-in-Save-clause-status : goal.returns-in_err-save_graph-in-Save-clause-status
returns-in_err-save_graph-in-Save-clause-status g c =
    let p = err_from_is_err_and c.from_residual-in_err-save_graph-in-Save.result c.from_residual-in_err-save_graph-in-Save.ensures.1 in
    rw (p.1, p.2, c.in-Save.is) (c.in_err-save_graph-in-Save.ensures.status (g.S.Source.left c.args.updates.now) (g.S.Source.faults c.args.updates.now))

pub returns-in_err-session-in-Watch-clause-asked : goal.returns-in_err-session-in-Watch-clause-asked
returns-in_err-session-in-Watch-clause-asked g c =
    let p = err_from_is_err_and c.from_residual.result c.from_residual.ensures.1 in
    rw (p.1, p.2, c.in-Watch.is) c.in_err-session-in-Watch.ensures.asked

pub returns-in_err-list_answers-in-Match-clause-asked : goal.returns-in_err-list_answers-in-Match-clause-asked
returns-in_err-list_answers-in-Match-clause-asked g c =
    let p = err_from_is_err_and c.from_residual-in_err-list_answers-in-Match.result c.from_residual-in_err-list_answers-in-Match.ensures.1 in
    rw (p.1, p.2, c.in-Match.is) (c.in_err-list_answers-in-Match.ensures.asked (g.S.Source.reads c.args.updates.now))

pub returns-in_err-save_graph-in-Save-clause-asked : goal.returns-in_err-save_graph-in-Save-clause-asked
returns-in_err-save_graph-in-Save-clause-asked g c =
    let p = err_from_is_err_and c.from_residual-in_err-save_graph-in-Save.result c.from_residual-in_err-save_graph-in-Save.ensures.1 in
    rw (p.1, p.2, c.in-Save.is) (c.in_err-save_graph-in-Save.ensures.asked (g.S.Source.reads c.args.updates.now))

pub returns-in_err-show_demo-in-Demo-clause-asked : goal.returns-in_err-show_demo-in-Demo-clause-asked
returns-in_err-show_demo-in-Demo-clause-asked g c =
    let p = err_from_is_err_and c.from_residual-in_err-show_demo-in-Demo.result c.from_residual-in_err-show_demo-in-Demo.ensures.1 in
    rw (p.1, p.2, c.in-Demo.is) (asked-none c.args.limits.now (g.F.Shelf.files c.args.shelf.now) c.in-Demo.number (EndsAtReadFault {T = ⊤} (Err c.in_err-show_demo-in-Demo.field-0.0))
    (g.F.Shelf.reads c.args.shelf.now) (g.S.Source.reads c.args.updates.now) c.in_err-show_demo-in-Demo.ensures.no_read)

pub returns-in_ok-show_demo-in-Demo-clause-asked : goal.returns-in_ok-show_demo-in-Demo-clause-asked
returns-in_ok-show_demo-in-Demo-clause-asked g c =
    rw c.in-Demo.is (asked-none c.args.limits.now (g.F.Shelf.files c.args.shelf.now) c.in-Demo.number ⊥
    (g.F.Shelf.reads c.args.shelf.now) (g.S.Source.reads c.args.updates.now) (λ e. e))
