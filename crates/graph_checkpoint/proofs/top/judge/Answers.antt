use Rattle.std.proofs.Common.{Some, sym, subst}
use Rattle.flux_outside.specs.Told.{AppendsFront}
use Rattle.graph_checkpoint.specs.Checkpoint.{OfDue}
use Rattle.graph_checkpoint.proofs.top.judge.Goals as goal

pub returns-in-Ok-write_after-clause-front : goal.returns-in-Ok-write_after-clause-front
returns-in-Ok-write_after-clause-front g c =
    let p0 = g.W.Sink.taken c.args.out.now in
    let p1 = g.W.Sink.taken c.write_after.new.out in
    subst (λ name. OfDue c.args.limits.now (g.F.Shelf.files c.args.shelf) (g.S.Source.left c.args.updates.now) name (λ due. AppendsFront p0 p1 due.text)) (sym c.in-Some.ensures)
    (subst (λ shelf. OfDue c.args.limits.now (g.F.Shelf.files shelf) (g.S.Source.left c.args.updates.now) (Some c.in-Some.graph.now) (λ due. AppendsFront p0 p1 due.text))
    c.new-shelf.ensures.shelf c.write_after.ensures.front)

pub returns-in-Err-clause-front : goal.returns-in-Err-clause-front
returns-in-Err-clause-front g c =
    let p0 = g.W.Sink.taken c.args.out.now in
    let p1 = g.W.Sink.taken c.write_after.new.out in
    subst (λ name. OfDue c.args.limits.now (g.F.Shelf.files c.args.shelf) (g.S.Source.left c.args.updates.now) name (λ due. AppendsFront p0 p1 due.text)) (sym c.in-Some.ensures)
    (subst (λ shelf. OfDue c.args.limits.now (g.F.Shelf.files shelf) (g.S.Source.left c.args.updates.now) (Some c.in-Some.graph.now) (λ due. AppendsFront p0 p1 due.text))
    c.new-shelf.ensures.shelf c.write_after.ensures.front)
