use Rattle.std.proofs.lemmas.Result.{on_ok_weaker, on_err_weaker}
use Rattle.watch_core.proofs.BlockLemmas.{changed-patterns, changed-text, changed-front}
use Rattle.watch_core.proofs.taken.write_block.Goals as goal

pub write_deltas-requires : goal.write_deltas-requires
write_deltas-requires c =
    let r = c.requires.taken in
    changed-patterns r.0 r.1 c.args.patterns.now c.in-Changed.deltas (rw c.in-Changed.is at r.2)

pub returns-in-Changed-clause-ok : goal.returns-in-Changed-clause-ok
returns-in-Changed-clause-ok c =
    on_ok_weaker c.write_deltas.result
    (λ written g came_to over. changed-text g came_to c.args.patterns.now c.in-Changed.deltas (rw c.in-Changed.is at over) c.args.number c.args.report.now.items c.write_deltas.new.out.items written)
    c.write_deltas.ensures.ok

pub returns-in-Changed-clause-err : goal.returns-in-Changed-clause-err
returns-in-Changed-clause-err c =
    on_err_weaker c.write_deltas.result
    (λ written g came_to over. changed-front g came_to c.args.patterns.now c.in-Changed.deltas (rw c.in-Changed.is at over) c.args.number c.args.report.now.items c.write_deltas.new.out.items written)
    c.write_deltas.ensures.err
