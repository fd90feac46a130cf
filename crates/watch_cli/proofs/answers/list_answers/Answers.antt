use Rattle.std.proofs.Common.{Some, Ok, Err, refl, arith}
use Rattle.std.proofs.lemmas.Result.{on_ok_weaker, IfErr-weaker}
use Rattle.flux_outside.specs.Causes.{Rose}
use Rattle.flux_model.specs.Report.{match_text}
use Rattle.flux_model.specs.Verdict.{Shape, Match, Matched, Done, graph_file, pattern_file, ending_with}
use Rattle.file_reading.specs.FileContents.{FileIs}
use Rattle.watch_cli.specs.RunEnds.{ReadFails}
use Rattle.watch_cli.specs.declared.status.InputFile.TheVariants.{Graph, Patterns}
use Rattle.watch_cli.proofs.ReportLemmas.{put_either}
use Rattle.watch_cli.proofs.TopLemmas.{Judged, both-judged, graph-judged, patterns-judged, run-before, run-ends, run-ends_before, text-put, text-front, file-ends, put-ends}
use Rattle.watch_cli.proofs.FollowLemmas.{write-early}
use Rattle.watch_cli.proofs.AskedByRunLemmas.{ended-stopped, asked-graph, asked-patterns, written-reads_not}
use Rattle.watch_cli.proofs.CostLemmas.{match-stays}
use Rattle.watch_cli.proofs.answers.list_answers.Goals as goal

pub returns-in-Err-clause-front : goal.returns-in-Err-clause-front
returns-in-Err-clause-front g c =
    λ left. run-before c.args.limits.now (g.F.Shelf.files c.args.shelf.now) (Some (Match c.args.graph_name.now c.args.patterns_name.now)) left (g.W.Sink.taken c.args.out.now)

pub returns-in-Err-clause-status : goal.returns-in-Err-clause-status
returns-in-Err-clause-status g c =
    let shape : Shape = Match c.args.graph_name.now c.args.patterns_name.now in
    rw c.of.ensures.status (λ left read. file-ends c.args.limits.now (g.F.Shelf.files c.args.shelf.now) shape tt
    (g.F.Shelf.faults c.args.shelf.now) (g.F.Shelf.faults c.args.shelf.now) (g.F.Shelf.faults c.read_store.new.shelf)
    read read left (g.W.Sink.taken c.args.out.now)
    (λ v. FileIs (g.F.Shelf.files c.args.shelf.now) c.args.graph_name.now (graph_file c.args.limits.now) (Err v))
    (Rose (g.W.Sink.faults c.args.out.now) (g.W.Sink.faults c.args.out.now)) Graph c.in-Err.stop
    (λ v e. graph-judged Matched shape c.args.graph_name.now c.args.patterns_name.now c.args.limits.now (g.F.Shelf.files c.args.shelf.now) v (λ m. refl) e)
    (omega arith) c.in-Err.ensures.stop)

pub returns-in-Err-read_patterns-clause-front : goal.returns-in-Err-read_patterns-clause-front
returns-in-Err-read_patterns-clause-front g c =
    λ left. run-before c.args.limits.now (g.F.Shelf.files c.args.shelf.now) (Some (Match c.args.graph_name.now c.args.patterns_name.now)) left (g.W.Sink.taken c.args.out.now)

pub returns-in-Err-read_patterns-clause-status : goal.returns-in-Err-read_patterns-clause-status
returns-in-Err-read_patterns-clause-status g c =
    let shape : Shape = Match c.args.graph_name.now c.args.patterns_name.now in
    rw c.of-in-Err-read_patterns.ensures.status (λ left read. file-ends c.args.limits.now (g.F.Shelf.files c.args.shelf.now) shape tt
    (g.F.Shelf.faults c.args.shelf.now) (g.F.Shelf.faults c.read_store.new.shelf) (g.F.Shelf.faults c.read_patterns.new.shelf)
    read read left (g.W.Sink.taken c.args.out.now)
    (λ v. FileIs (g.F.Shelf.files c.read_store.new.shelf) c.args.patterns_name.now (pattern_file c.args.limits.now) (Err v))
    (Rose (g.W.Sink.faults c.args.out.now) (g.W.Sink.faults c.args.out.now)) Patterns c.in-Err-read_patterns.stop
    (λ v e. patterns-judged Matched shape c.args.graph_name.now c.args.patterns_name.now c.args.limits.now (g.F.Shelf.files c.args.shelf.now) (g.F.Shelf.files c.read_store.new.shelf) (g.G.HoldGraph.graph c.in-Ok.graph) v
    (λ m. refl) c.in-Ok.ensures.same c.in-Ok.ensures.ok e)
    c.in-Ok.ensures.later c.in-Err-read_patterns.ensures.stop)

pub returns-clause-ok : goal.returns-clause-ok
returns-clause-ok g c =
    let shape : Shape = Match c.args.graph_name.now c.args.patterns_name.now in
    let graph = g.G.HoldGraph.graph c.in-Ok.graph in
    let judged : Judged c.args.limits.now (g.F.Shelf.files c.args.shelf.now) (Some shape) (Ok (Matched graph c.in-Ok-read_patterns.patterns)) =
    both-judged Matched shape c.args.graph_name.now c.args.patterns_name.now c.args.limits.now (g.F.Shelf.files c.args.shelf.now) (g.F.Shelf.files c.read_store.new.shelf) graph c.in-Ok-read_patterns.patterns
    (λ m. refl) c.in-Ok.ensures.same c.in-Ok.ensures.ok c.in-Ok-read_patterns.ensures.ok in
    λ left. on_ok_weaker c.put_answers.result
    (λ put. run-ends c.args.limits.now (g.F.Shelf.files c.args.shelf.now) shape left (g.W.Sink.taken c.args.out.now) (g.W.Sink.taken c.put_answers.new.out) (Matched graph c.in-Ok-read_patterns.patterns) Done judged
    (text-put left (λ s. ending_with c.args.limits.now s (Matched graph c.in-Ok-read_patterns.patterns)) (match_text graph c.in-Ok-read_patterns.patterns) (g.W.Sink.taken c.args.out.now) (g.W.Sink.taken c.put_answers.new.out) (λ s. refl) put))
    c.put_answers.ensures.ok

pub returns-clause-front : goal.returns-clause-front
returns-clause-front g c =
    let shape : Shape = Match c.args.graph_name.now c.args.patterns_name.now in
    let graph = g.G.HoldGraph.graph c.in-Ok.graph in
    let judged : Judged c.args.limits.now (g.F.Shelf.files c.args.shelf.now) (Some shape) (Ok (Matched graph c.in-Ok-read_patterns.patterns)) =
    both-judged Matched shape c.args.graph_name.now c.args.patterns_name.now c.args.limits.now (g.F.Shelf.files c.args.shelf.now) (g.F.Shelf.files c.read_store.new.shelf) graph c.in-Ok-read_patterns.patterns
    (λ m. refl) c.in-Ok.ensures.same c.in-Ok.ensures.ok c.in-Ok-read_patterns.ensures.ok in
    λ left. run-ends_before c.args.limits.now (g.F.Shelf.files c.args.shelf.now) shape left (g.W.Sink.taken c.args.out.now) (g.W.Sink.taken c.put_answers.new.out) (Matched graph c.in-Ok-read_patterns.patterns) judged
    (text-front left (λ s. ending_with c.args.limits.now s (Matched graph c.in-Ok-read_patterns.patterns)) (match_text graph c.in-Ok-read_patterns.patterns) (g.W.Sink.taken c.args.out.now) (g.W.Sink.taken c.put_answers.new.out) (λ s. refl)
    (put_either c.put_answers.result (g.W.Sink.taken c.args.out.now) (g.W.Sink.taken c.put_answers.new.out) (match_text graph c.in-Ok-read_patterns.patterns) c.put_answers.ensures.ok c.put_answers.ensures.err))

pub returns-clause-status : goal.returns-clause-status
returns-clause-status g c =
    let shape : Shape = Match c.args.graph_name.now c.args.patterns_name.now in
    λ left read. IfErr-weaker c.put_answers.result _ _
    (λ h so. put-ends c.args.limits.now (g.F.Shelf.files c.args.shelf.now) shape
    (ReadFails c.args.limits.now (g.F.Shelf.files c.args.shelf.now) (Some shape) (g.F.Shelf.faults c.args.shelf.now) (g.F.Shelf.faults c.read_patterns.new.shelf) read read left left (g.W.Sink.taken c.args.out.now) (g.W.Sink.taken c.put_answers.new.out))
    (g.W.Sink.faults c.args.out.now) (g.W.Sink.faults c.put_answers.new.out) left (g.W.Sink.taken c.args.out.now) (g.W.Sink.taken c.put_answers.new.out) h so)
    c.put_answers.ensures.status

pub returns-clause-early : goal.returns-clause-early
returns-clause-early g c = IfErr-weaker c.put_answers.result _ _ (λ s so. write-early (g.W.Sink.faults c.args.out.now) (g.W.Sink.faults c.put_answers.new.out) s so) c.put_answers.ensures.status

pub returns-in-Err-clause-asked : goal.returns-in-Err-clause-asked
returns-in-Err-clause-asked g c =
    rw c.of.ensures.status (λ updates. asked-graph c.args.limits.now (g.F.Shelf.files c.args.shelf.now) (Match c.args.graph_name.now c.args.patterns_name.now) _ _ _
    (g.F.Shelf.reads c.args.shelf.now) (g.F.Shelf.reads c.read_store.new.shelf) updates (ended-stopped Graph c.in-Err.stop) refl c.in-Err.ensures.asked)

pub returns-in-Err-read_patterns-clause-asked : goal.returns-in-Err-read_patterns-clause-asked
returns-in-Err-read_patterns-clause-asked g c =
    rw c.of-in-Err-read_patterns.ensures.status (λ updates. asked-patterns c.args.limits.now (g.F.Shelf.files c.args.shelf.now) (Match c.args.graph_name.now c.args.patterns_name.now) _ (g.F.Shelf.files c.read_store.new.shelf) _ _ _ _
    (g.F.Shelf.reads c.args.shelf.now) (g.F.Shelf.reads c.read_store.new.shelf) (g.F.Shelf.reads c.read_patterns.new.shelf) updates c.in-Ok.ensures.same tt (ended-stopped Patterns c.in-Err-read_patterns.stop) (λ ps. refl) c.in-Ok.ensures.asked c.in-Err-read_patterns.ensures.asked)

pub returns-clause-asked : goal.returns-clause-asked
returns-clause-asked g c =
    λ updates. asked-patterns c.args.limits.now (g.F.Shelf.files c.args.shelf.now) (Match c.args.graph_name.now c.args.patterns_name.now) _ (g.F.Shelf.files c.read_store.new.shelf) _ _ _ _
    (g.F.Shelf.reads c.args.shelf.now) (g.F.Shelf.reads c.read_store.new.shelf) (g.F.Shelf.reads c.read_patterns.new.shelf) updates c.in-Ok.ensures.same tt (written-reads_not c.put_answers.result _ _ c.put_answers.ensures.status) (λ ps. refl) c.in-Ok.ensures.asked c.in-Ok-read_patterns.ensures.asked

pub returns-clause-steps : goal.returns-clause-steps
returns-clause-steps g c =
    let shape : Shape = Match c.args.graph_name.now c.args.patterns_name.now in
    let graph = g.G.HoldGraph.graph c.in-Ok.graph in
    let judged : Judged c.args.limits.now (g.F.Shelf.files c.args.shelf.now) (Some shape) (Ok (Matched graph c.in-Ok-read_patterns.patterns)) =
    both-judged Matched shape c.args.graph_name.now c.args.patterns_name.now c.args.limits.now (g.F.Shelf.files c.args.shelf.now) (g.F.Shelf.files c.read_store.new.shelf) graph c.in-Ok-read_patterns.patterns
    (λ m. refl) c.in-Ok.ensures.same c.in-Ok.ensures.ok c.in-Ok-read_patterns.ensures.ok in
    λ left. on_ok_weaker c.put_answers.result
    (λ within. match-stays c.args.limits.now (g.F.Shelf.files c.args.shelf.now) shape left graph c.in-Ok-read_patterns.patterns c.args.steps.now c.put_answers.new.steps judged within)
    c.put_answers.ensures.steps
