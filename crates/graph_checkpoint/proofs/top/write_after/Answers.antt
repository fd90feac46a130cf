use Rattle.std.proofs.Common.{Some, ap, subst}
use Rattle.std.proofs.lemmas.Result.{on_ok_weaker}
use Rattle.std.specs.Io.KnownBytes.{Appends}
use Rattle.flux_outside.specs.Told.{AppendsFront}
use Rattle.flux_model.specs.GraphText.{graph_text}
use Rattle.flux_model.specs.Verdict.{Done}
use Rattle.graph_checkpoint.proofs.CheckpointLemmas.{written-due, front-due, nothing-due, text_is}
use Rattle.graph_checkpoint.proofs.top.write_after.Goals as goal

pub returns-in_default-clause-front : goal.returns-in_default-clause-front
returns-in_default-clause-front g c =
    nothing-due c.args.limits.now (g.F.Shelf.files c.args.shelf.now.shelf) (g.S.Source.left c.args.updates.now) (Some c.args.graph.now) (g.W.Sink.taken c.args.out.now)

pub returns-clause-ok : goal.returns-clause-ok
returns-clause-ok g c =
    let p0 = g.W.Sink.taken c.args.out.now in
    let p1 = g.W.Sink.taken c.put_text.new.out in
    let text = text_is _ _ _ _ _ c.as_slice.ensures.value c.in-Ok.ensures.ok c.new-text.ensures.items (ap graph_text c.graph.ensures.graph) in
    on_ok_weaker c.put_text.result
    (λ put. written-due c.args.limits.now (g.F.Shelf.files c.args.shelf.now.shelf) (g.S.Source.left c.args.updates.now) (Some c.args.graph.now) p0 p1 Done
    (graph_text c.in_ok-session.session.graph) c.in_ok-session.ensures.session (subst (Appends p0 p1) text put))
    c.put_text.ensures.ok

pub returns-clause-front : goal.returns-clause-front
returns-clause-front g c =
    let p0 = g.W.Sink.taken c.args.out.now in
    let p1 = g.W.Sink.taken c.put_text.new.out in
    let text = text_is _ _ _ _ _ c.as_slice.ensures.value c.in-Ok.ensures.ok c.new-text.ensures.items (ap graph_text c.graph.ensures.graph) in
    front-due c.args.limits.now (g.F.Shelf.files c.args.shelf.now.shelf) (g.S.Source.left c.args.updates.now) (Some c.args.graph.now) p0 p1 Done
    (graph_text c.in_ok-session.session.graph) c.in_ok-session.ensures.session (subst (AppendsFront p0 p1) text c.put_text.ensures.front)
