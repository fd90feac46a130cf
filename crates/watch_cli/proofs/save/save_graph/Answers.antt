use Rattle.std.proofs.Common.{Some, Err, refl, arith}
use Rattle.std.proofs.lemmas.Result.{on_ok_weaker, IfErr-weaker}
use Rattle.flux_model.specs.GraphText.{graph_text}
use Rattle.flux_outside.specs.Causes.{Rose}
use Rattle.flux_model.specs.Verdict.{Save, Saved, Done, graph_file, ending_with}
use Rattle.file_reading.specs.FileContents.{FileIs}
use Rattle.watch_cli.specs.RunEnds.{ReadFails}
use Rattle.watch_cli.specs.declared.status.InputFile.TheVariants.{Graph}
use Rattle.watch_cli.proofs.ReportLemmas.{put_either}
use Rattle.watch_cli.proofs.TopLemmas.{save-judged, save-refused, run-before, file-ends, run-ends, run-ends_before, text-put, text-front, put-ends}
use Rattle.watch_cli.proofs.FollowLemmas.{write-early}
use Rattle.watch_cli.proofs.AskedByRunLemmas.{ended-stopped, asked-graph, written-reads_not}
use Rattle.watch_cli.proofs.save.save_graph.Goals as goal

pub returns-in-Err-clause-front : goal.returns-in-Err-clause-front
returns-in-Err-clause-front g c =
    λ left. run-before c.args.limits.now (g.F.Shelf.files c.args.shelf.now) (Some (Save c.args.name.now)) left (g.W.Sink.taken c.args.out.now)

pub returns-in-Err-clause-status : goal.returns-in-Err-clause-status
returns-in-Err-clause-status g c =
    rw c.of.ensures.status (λ left read. file-ends c.args.limits.now (g.F.Shelf.files c.args.shelf.now) (Save c.args.name.now) tt
    (g.F.Shelf.faults c.args.shelf.now) (g.F.Shelf.faults c.args.shelf.now) (g.F.Shelf.faults c.read_store.new.shelf)
    read read left (g.W.Sink.taken c.args.out.now)
    (λ v. FileIs (g.F.Shelf.files c.args.shelf.now) c.args.name.now (graph_file c.args.limits.now) (Err v))
    (Rose (g.W.Sink.faults c.args.out.now) (g.W.Sink.faults c.args.out.now)) Graph c.in-Err.stop
    (λ v e. save-refused c.args.limits.now (g.F.Shelf.files c.args.shelf.now) c.args.name.now v e)
    (omega arith) c.in-Err.ensures.stop)

pub returns-clause-ok : goal.returns-clause-ok
returns-clause-ok g c =
    let graph = g.G.HoldGraph.graph c.in-Ok.graph in
    λ left. on_ok_weaker c.put_graph.result
    (λ put. run-ends c.args.limits.now (g.F.Shelf.files c.args.shelf.now) (Save c.args.name.now) left (g.W.Sink.taken c.args.out.now) (g.W.Sink.taken c.put_graph.new.out) (Saved graph) Done
    (save-judged c.args.limits.now (g.F.Shelf.files c.args.shelf.now) c.args.name.now graph c.in-Ok.ensures.ok)
    (text-put left (λ s. ending_with c.args.limits.now s (Saved graph)) (graph_text graph) (g.W.Sink.taken c.args.out.now) (g.W.Sink.taken c.put_graph.new.out) (λ s. refl) put))
    c.put_graph.ensures.ok

pub returns-clause-front : goal.returns-clause-front
returns-clause-front g c =
    let graph = g.G.HoldGraph.graph c.in-Ok.graph in
    λ left. run-ends_before c.args.limits.now (g.F.Shelf.files c.args.shelf.now) (Save c.args.name.now) left (g.W.Sink.taken c.args.out.now) (g.W.Sink.taken c.put_graph.new.out) (Saved graph)
    (save-judged c.args.limits.now (g.F.Shelf.files c.args.shelf.now) c.args.name.now graph c.in-Ok.ensures.ok)
    (text-front left (λ s. ending_with c.args.limits.now s (Saved graph)) (graph_text graph) (g.W.Sink.taken c.args.out.now) (g.W.Sink.taken c.put_graph.new.out) (λ s. refl)
    (put_either c.put_graph.result (g.W.Sink.taken c.args.out.now) (g.W.Sink.taken c.put_graph.new.out) (graph_text graph) c.put_graph.ensures.ok c.put_graph.ensures.err))

pub returns-clause-status : goal.returns-clause-status
returns-clause-status g c =
    λ left read. IfErr-weaker c.put_graph.result _ _
    (λ h so. put-ends c.args.limits.now (g.F.Shelf.files c.args.shelf.now) (Save c.args.name.now)
    (ReadFails c.args.limits.now (g.F.Shelf.files c.args.shelf.now) (Some (Save c.args.name.now)) (g.F.Shelf.faults c.args.shelf.now) (g.F.Shelf.faults c.read_store.new.shelf) read read left left (g.W.Sink.taken c.args.out.now) (g.W.Sink.taken c.put_graph.new.out))
    (g.W.Sink.faults c.args.out.now) (g.W.Sink.faults c.put_graph.new.out) left (g.W.Sink.taken c.args.out.now) (g.W.Sink.taken c.put_graph.new.out) h so)
    c.put_graph.ensures.status

pub returns-clause-early : goal.returns-clause-early
returns-clause-early g c = IfErr-weaker c.put_graph.result _ _ (λ s so. write-early (g.W.Sink.faults c.args.out.now) (g.W.Sink.faults c.put_graph.new.out) s so) c.put_graph.ensures.status

pub returns-in-Err-clause-asked : goal.returns-in-Err-clause-asked
returns-in-Err-clause-asked g c =
    rw c.of.ensures.status (λ updates. asked-graph c.args.limits.now (g.F.Shelf.files c.args.shelf.now) (Save c.args.name.now) _ _ _
    (g.F.Shelf.reads c.args.shelf.now) (g.F.Shelf.reads c.read_store.new.shelf) updates (ended-stopped Graph c.in-Err.stop) (refl, refl) c.in-Err.ensures.asked)

pub returns-clause-asked : goal.returns-clause-asked
returns-clause-asked g c =
    λ updates. asked-graph c.args.limits.now (g.F.Shelf.files c.args.shelf.now) (Save c.args.name.now) _ _ _
    (g.F.Shelf.reads c.args.shelf.now) (g.F.Shelf.reads c.read_store.new.shelf) updates (written-reads_not c.put_graph.result _ _ c.put_graph.ensures.status) (refl, refl) c.in-Ok.ensures.asked
