use Rattle.std.proofs.Common.{Some, Ok, Err, ◌∙◌, inr, refl, sym, ap, subst, arith}
use Rattle.std.proofs.lemmas.Result.{err_from_is_err_and}
use Rattle.flux_outside.specs.Causes.{Rose}
use Rattle.flux_model.specs.Verdict.{Shape, Watch, Watched, Done, graph_file, pattern_file, ending_with}
use Rattle.file_reading.specs.FileContents.{FileIs}
use Rattle.watch_core.specs.Session.{WatchState, first_state}
use Rattle.watch_core.specs.SessionStates.{watched}
use Rattle.watch_cli.specs.declared.status.InputFile.TheVariants.{Graph, Patterns}
use Rattle.watch_cli.proofs.TopLemmas.{Judged, both-judged, graph-judged, patterns-judged, run-before, run-ends, run-ends_before, file-ends, follow-ends, session-stands}
use Rattle.watch_cli.proofs.FollowLemmas.{EndsAs-before, is_first}
use Rattle.watch_cli.proofs.AskedByRunLemmas.{ended-stopped, asked-graph, asked-patterns, asked-all, judged-accepted}
use Rattle.watch_cli.proofs.CostLemmas.{watch-stays}
use Rattle.watch_cli.proofs.watch.watch_updates.Goals as goal

pub returns-in-Err-clause-front : goal.returns-in-Err-clause-front
returns-in-Err-clause-front g c =
    run-before c.args.limits.now (g.F.Shelf.files c.args.shelf.now) (Some (Watch c.args.graph_name.now c.args.patterns_name.now)) (g.S.Source.left c.args.updates.now) (g.W.Sink.taken c.args.out.now)

pub returns-in-Err-clause-status : goal.returns-in-Err-clause-status
returns-in-Err-clause-status g c =
    let shape : Shape = Watch c.args.graph_name.now c.args.patterns_name.now in
    rw c.of.ensures.status (file-ends c.args.limits.now (g.F.Shelf.files c.args.shelf.now) shape tt
    (g.F.Shelf.faults c.args.shelf.now) (g.F.Shelf.faults c.args.shelf.now) (g.F.Shelf.faults c.read_store.new.shelf)
    (g.S.Source.faults c.args.updates.now) (g.S.Source.faults c.args.updates.now) (g.S.Source.left c.args.updates.now) (g.W.Sink.taken c.args.out.now)
    (λ v. FileIs (g.F.Shelf.files c.args.shelf.now) c.args.graph_name.now (graph_file c.args.limits.now) (Err v))
    (Rose (g.W.Sink.faults c.args.out.now) (g.W.Sink.faults c.args.out.now)) Graph c.in-Err.stop
    (λ v e. graph-judged Watched shape c.args.graph_name.now c.args.patterns_name.now c.args.limits.now (g.F.Shelf.files c.args.shelf.now) v (λ m. refl) e)
    (omega arith) c.in-Err.ensures.stop)

pub returns-in-Err-read_patterns-clause-front : goal.returns-in-Err-read_patterns-clause-front
returns-in-Err-read_patterns-clause-front g c =
    run-before c.args.limits.now (g.F.Shelf.files c.args.shelf.now) (Some (Watch c.args.graph_name.now c.args.patterns_name.now)) (g.S.Source.left c.args.updates.now) (g.W.Sink.taken c.args.out.now)

pub returns-in-Err-read_patterns-clause-status : goal.returns-in-Err-read_patterns-clause-status
returns-in-Err-read_patterns-clause-status g c =
    let shape : Shape = Watch c.args.graph_name.now c.args.patterns_name.now in
    rw c.of-in-Err-read_patterns.ensures.status (file-ends c.args.limits.now (g.F.Shelf.files c.args.shelf.now) shape tt
    (g.F.Shelf.faults c.args.shelf.now) (g.F.Shelf.faults c.read_store.new.shelf) (g.F.Shelf.faults c.read_patterns.new.shelf)
    (g.S.Source.faults c.args.updates.now) (g.S.Source.faults c.args.updates.now) (g.S.Source.left c.args.updates.now) (g.W.Sink.taken c.args.out.now)
    (λ v. FileIs (g.F.Shelf.files c.read_store.new.shelf) c.args.patterns_name.now (pattern_file c.args.limits.now) (Err v))
    (Rose (g.W.Sink.faults c.args.out.now) (g.W.Sink.faults c.args.out.now)) Patterns c.in-Err-read_patterns.stop
    (λ v e. patterns-judged Watched shape c.args.graph_name.now c.args.patterns_name.now c.args.limits.now (g.F.Shelf.files c.args.shelf.now) (g.F.Shelf.files c.read_store.new.shelf) (g.G.HoldGraph.graph c.in-Ok.graph) v
    (λ m. refl) c.in-Ok.ensures.same c.in-Ok.ensures.ok e)
    c.in-Ok.ensures.later c.in-Err-read_patterns.ensures.stop)

pub follow-requires-clause-first : goal.follow-requires-clause-first
follow-requires-clause-first g c = is_first (watched c.in-Ok-start.session) _ c.args.limits.now _ _ c.in-Ok-start.ensures.state c.in-Ok.ensures.limits

pub returns-in_err-follow-clause-front : goal.returns-in_err-follow-clause-front
returns-in_err-follow-clause-front g c =
    let shape : Shape = Watch c.args.graph_name.now c.args.patterns_name.now in
    let started = c.in-Ok-start.session in
    let judged : Judged c.args.limits.now (g.F.Shelf.files c.args.shelf.now) (Some shape) (Ok (Watched started.graph started.registry.patterns)) =
    subst (λ (w : WatchState). Judged c.args.limits.now (g.F.Shelf.files c.args.shelf.now) (Some shape) (Ok (Watched w.graph w.patterns))) (sym c.in-Ok-start.ensures.state)
    (both-judged Watched shape c.args.graph_name.now c.args.patterns_name.now c.args.limits.now (g.F.Shelf.files c.args.shelf.now) (g.F.Shelf.files c.read_store.new.shelf) (g.G.HoldGraph.graph c.in-Ok.graph) c.in-Ok-read_patterns.patterns
    (λ m. refl) c.in-Ok.ensures.same c.in-Ok.ensures.ok c.in-Ok-read_patterns.ensures.ok) in
    run-ends_before c.args.limits.now (g.F.Shelf.files c.args.shelf.now) shape (g.S.Source.left c.args.updates.now) (g.W.Sink.taken c.args.out.now) (g.W.Sink.taken c.follow.new.out)
    (Watched started.graph started.registry.patterns) judged c.in_err-follow.ensures.front

pub returns-in_err-follow-clause-status : goal.returns-in_err-follow-clause-status
returns-in_err-follow-clause-status g c =
    let shape : Shape = Watch c.args.graph_name.now c.args.patterns_name.now in
    let started = c.in-Ok-start.session in
    let judged : Judged c.args.limits.now (g.F.Shelf.files c.args.shelf.now) (Some shape) (Ok (Watched started.graph started.registry.patterns)) =
    subst (λ (w : WatchState). Judged c.args.limits.now (g.F.Shelf.files c.args.shelf.now) (Some shape) (Ok (Watched w.graph w.patterns))) (sym c.in-Ok-start.ensures.state)
    (both-judged Watched shape c.args.graph_name.now c.args.patterns_name.now c.args.limits.now (g.F.Shelf.files c.args.shelf.now) (g.F.Shelf.files c.read_store.new.shelf) (g.G.HoldGraph.graph c.in-Ok.graph) c.in-Ok-read_patterns.patterns
    (λ m. refl) c.in-Ok.ensures.same c.in-Ok.ensures.ok c.in-Ok-read_patterns.ensures.ok) in
    let p = err_from_is_err_and c.from_residual.result c.from_residual.ensures.1 in
    rw (p.1, p.2) (follow-ends c.args.limits.now (g.F.Shelf.files c.args.shelf.now) shape (g.F.Shelf.faults c.args.shelf.now) (g.F.Shelf.faults c.read_patterns.new.shelf)
    (g.S.Source.faults c.args.updates.now) (g.S.Source.faults c.follow.new.updates) (g.W.Sink.faults c.args.out.now) (g.W.Sink.faults c.follow.new.out)
    (g.S.Source.left c.args.updates.now) (g.S.Source.left c.follow.new.updates) (g.W.Sink.taken c.args.out.now) (g.W.Sink.taken c.follow.new.out)
    (Watched started.graph started.registry.patterns) _ judged tt c.in_err-follow.ensures.status)

pub returns-clause-kept : goal.returns-clause-kept
returns-clause-kept g c =
    let shape : Shape = Watch c.args.graph_name.now c.args.patterns_name.now in
    let started = c.in-Ok-start.session in
    let judged : Judged c.args.limits.now (g.F.Shelf.files c.args.shelf.now) (Some shape) (Ok (Watched started.graph started.registry.patterns)) =
    subst (λ (w : WatchState). Judged c.args.limits.now (g.F.Shelf.files c.args.shelf.now) (Some shape) (Ok (Watched w.graph w.patterns))) (sym c.in-Ok-start.ensures.state)
    (both-judged Watched shape c.args.graph_name.now c.args.patterns_name.now c.args.limits.now (g.F.Shelf.files c.args.shelf.now) (g.F.Shelf.files c.read_store.new.shelf) (g.G.HoldGraph.graph c.in-Ok.graph) c.in-Ok-read_patterns.patterns
    (λ m. refl) c.in-Ok.ensures.same c.in-Ok.ensures.ok c.in-Ok-read_patterns.ensures.ok) in
    session-stands c.args.limits.now (g.F.Shelf.files c.args.shelf.now) shape (g.S.Source.left c.args.updates.now) started.graph started.registry.patterns (watched started) c.follow.new.session
    judged (is_first (watched started) _ c.args.limits.now _ _ c.in-Ok-start.ensures.state c.in-Ok.ensures.limits) c.in_ok-follow.ensures.whole c.in_ok-follow.ensures.after

pub returns-clause-ok : goal.returns-clause-ok
returns-clause-ok g c =
    let shape : Shape = Watch c.args.graph_name.now c.args.patterns_name.now in
    let started = c.in-Ok-start.session in
    let judged : Judged c.args.limits.now (g.F.Shelf.files c.args.shelf.now) (Some shape) (Ok (Watched started.graph started.registry.patterns)) =
    subst (λ (w : WatchState). Judged c.args.limits.now (g.F.Shelf.files c.args.shelf.now) (Some shape) (Ok (Watched w.graph w.patterns))) (sym c.in-Ok-start.ensures.state)
    (both-judged Watched shape c.args.graph_name.now c.args.patterns_name.now c.args.limits.now (g.F.Shelf.files c.args.shelf.now) (g.F.Shelf.files c.read_store.new.shelf) (g.G.HoldGraph.graph c.in-Ok.graph) c.in-Ok-read_patterns.patterns
    (λ m. refl) c.in-Ok.ensures.same c.in-Ok.ensures.ok c.in-Ok-read_patterns.ensures.ok) in
    run-ends c.args.limits.now (g.F.Shelf.files c.args.shelf.now) shape (g.S.Source.left c.args.updates.now) (g.W.Sink.taken c.args.out.now) (g.W.Sink.taken c.follow.new.out)
    (Watched started.graph started.registry.patterns) Done judged c.in_ok-follow.ensures.ok

pub returns-clause-front : goal.returns-clause-front
returns-clause-front g c =
    let shape : Shape = Watch c.args.graph_name.now c.args.patterns_name.now in
    let started = c.in-Ok-start.session in
    let judged : Judged c.args.limits.now (g.F.Shelf.files c.args.shelf.now) (Some shape) (Ok (Watched started.graph started.registry.patterns)) =
    subst (λ (w : WatchState). Judged c.args.limits.now (g.F.Shelf.files c.args.shelf.now) (Some shape) (Ok (Watched w.graph w.patterns))) (sym c.in-Ok-start.ensures.state)
    (both-judged Watched shape c.args.graph_name.now c.args.patterns_name.now c.args.limits.now (g.F.Shelf.files c.args.shelf.now) (g.F.Shelf.files c.read_store.new.shelf) (g.G.HoldGraph.graph c.in-Ok.graph) c.in-Ok-read_patterns.patterns
    (λ m. refl) c.in-Ok.ensures.same c.in-Ok.ensures.ok c.in-Ok-read_patterns.ensures.ok) in
    run-ends_before c.args.limits.now (g.F.Shelf.files c.args.shelf.now) shape (g.S.Source.left c.args.updates.now) (g.W.Sink.taken c.args.out.now) (g.W.Sink.taken c.follow.new.out)
    (Watched started.graph started.registry.patterns) judged
    (EndsAs-before (g.S.Source.left c.args.updates.now) (λ s. ending_with c.args.limits.now s (Watched started.graph started.registry.patterns)) (g.W.Sink.taken c.args.out.now) (g.W.Sink.taken c.follow.new.out) Done c.in_ok-follow.ensures.ok)

pub returns-in-Err-clause-asked : goal.returns-in-Err-clause-asked
returns-in-Err-clause-asked g c =
    rw c.of.ensures.status (asked-graph c.args.limits.now (g.F.Shelf.files c.args.shelf.now) (Watch c.args.graph_name.now c.args.patterns_name.now) _ _ _
    (g.F.Shelf.reads c.args.shelf.now) (g.F.Shelf.reads c.read_store.new.shelf) (g.S.Source.reads c.args.updates.now) (ended-stopped Graph c.in-Err.stop) tt c.in-Err.ensures.asked)

pub returns-in-Err-read_patterns-clause-asked : goal.returns-in-Err-read_patterns-clause-asked
returns-in-Err-read_patterns-clause-asked g c =
    rw c.of-in-Err-read_patterns.ensures.status (asked-patterns c.args.limits.now (g.F.Shelf.files c.args.shelf.now) (Watch c.args.graph_name.now c.args.patterns_name.now) _ (g.F.Shelf.files c.read_store.new.shelf) _ _ _ _
    (g.F.Shelf.reads c.args.shelf.now) (g.F.Shelf.reads c.read_store.new.shelf) (g.F.Shelf.reads c.read_patterns.new.shelf) (g.S.Source.reads c.args.updates.now) c.in-Ok.ensures.same tt (ended-stopped Patterns c.in-Err-read_patterns.stop) (λ ps. tt) c.in-Ok.ensures.asked c.in-Err-read_patterns.ensures.asked)

pub returns-in_default-clause-front : goal.returns-in_default-clause-front
returns-in_default-clause-front g c =
    run-before c.args.limits.now (g.F.Shelf.files c.args.shelf.now) (Some (Watch c.args.graph_name.now c.args.patterns_name.now)) (g.S.Source.left c.args.updates.now) (g.W.Sink.taken c.args.out.now)

pub returns-in_default-clause-asked : goal.returns-in_default-clause-asked
returns-in_default-clause-asked g c =
    asked-patterns c.args.limits.now (g.F.Shelf.files c.args.shelf.now) (Watch c.args.graph_name.now c.args.patterns_name.now) _ (g.F.Shelf.files c.read_store.new.shelf) _ _ _ _
    (g.F.Shelf.reads c.args.shelf.now) (g.F.Shelf.reads c.read_store.new.shelf) (g.F.Shelf.reads c.read_patterns.new.shelf) (g.S.Source.reads c.args.updates.now) c.in-Ok.ensures.same tt (λ h. absurd h) (λ ps. tt)
    c.in-Ok.ensures.asked c.in-Ok-read_patterns.ensures.asked

pub returns-in_err-follow-clause-asked : goal.returns-in_err-follow-clause-asked
returns-in_err-follow-clause-asked g c =
    let p = err_from_is_err_and c.from_residual.result c.from_residual.ensures.1 in
    rw (p.1, p.2) (asked-all c.args.limits.now (g.F.Shelf.files c.args.shelf.now) (Watch c.args.graph_name.now c.args.patterns_name.now) _ (g.F.Shelf.files c.read_store.new.shelf) _ _ _ _ _ _
    (g.F.Shelf.reads c.args.shelf.now) (g.F.Shelf.reads c.read_store.new.shelf) (g.F.Shelf.reads c.read_patterns.new.shelf) (g.S.Source.reads c.args.updates.now) (g.S.Source.reads c.follow.new.updates) tt tt (λ h. h) (λ ps us. tt)
    c.in-Ok.ensures.asked c.in-Ok-read_patterns.ensures.asked c.in_err-follow.ensures.asked)

pub returns-in_err-follow-clause-untouched : goal.returns-in_err-follow-clause-untouched
returns-in_err-follow-clause-untouched g c =
    let p = err_from_is_err_and c.from_residual.result c.from_residual.ensures.1 in
    let shape : Shape = Watch c.args.graph_name.now c.args.patterns_name.now in
    let judged : Judged c.args.limits.now (g.F.Shelf.files c.args.shelf.now) (Some shape) (Ok (Watched (g.G.HoldGraph.graph c.in-Ok.graph) c.in-Ok-read_patterns.patterns)) =
    both-judged Watched shape c.args.graph_name.now c.args.patterns_name.now c.args.limits.now (g.F.Shelf.files c.args.shelf.now) (g.F.Shelf.files c.read_store.new.shelf) (g.G.HoldGraph.graph c.in-Ok.graph) c.in-Ok-read_patterns.patterns
    (λ m. refl) c.in-Ok.ensures.same c.in-Ok.ensures.ok c.in-Ok-read_patterns.ensures.ok in
    let accepted = judged-accepted c.args.limits.now (g.F.Shelf.files c.args.shelf.now) shape (Watched (g.G.HoldGraph.graph c.in-Ok.graph) c.in-Ok-read_patterns.patterns) judged in
    rw (p.1, p.2) (inr (c.in_err-follow.ensures.no_file, accepted))

pub returns-clause-asked : goal.returns-clause-asked
returns-clause-asked g c =
    asked-all c.args.limits.now (g.F.Shelf.files c.args.shelf.now) (Watch c.args.graph_name.now c.args.patterns_name.now) _ (g.F.Shelf.files c.read_store.new.shelf) _ _ _ _ _ _
    (g.F.Shelf.reads c.args.shelf.now) (g.F.Shelf.reads c.read_store.new.shelf) (g.F.Shelf.reads c.read_patterns.new.shelf) (g.S.Source.reads c.args.updates.now) (g.S.Source.reads c.follow.new.updates) tt tt (λ h. absurd h) (λ ps us. tt)
    c.in-Ok.ensures.asked c.in-Ok-read_patterns.ensures.asked c.in_ok-follow.ensures.asked

pub returns-clause-untouched : goal.returns-clause-untouched
returns-clause-untouched g c =
    let shape : Shape = Watch c.args.graph_name.now c.args.patterns_name.now in
    let judged : Judged c.args.limits.now (g.F.Shelf.files c.args.shelf.now) (Some shape) (Ok (Watched (g.G.HoldGraph.graph c.in-Ok.graph) c.in-Ok-read_patterns.patterns)) =
    both-judged Watched shape c.args.graph_name.now c.args.patterns_name.now c.args.limits.now (g.F.Shelf.files c.args.shelf.now) (g.F.Shelf.files c.read_store.new.shelf) (g.G.HoldGraph.graph c.in-Ok.graph) c.in-Ok-read_patterns.patterns
    (λ m. refl) c.in-Ok.ensures.same c.in-Ok.ensures.ok c.in-Ok-read_patterns.ensures.ok in
    let accepted = judged-accepted c.args.limits.now (g.F.Shelf.files c.args.shelf.now) shape (Watched (g.G.HoldGraph.graph c.in-Ok.graph) c.in-Ok-read_patterns.patterns) judged in
    inr ((λ h. h), accepted)

pub returns-clause-steps : goal.returns-clause-steps
returns-clause-steps g c =
    let shape : Shape = Watch c.args.graph_name.now c.args.patterns_name.now in
    let graph = g.G.HoldGraph.graph c.in-Ok.graph in
    let patterns = c.in-Ok-read_patterns.patterns in
    let started = c.in-Ok-start.session in
    let judged : Judged c.args.limits.now (g.F.Shelf.files c.args.shelf.now) (Some shape) (Ok (Watched graph patterns)) =
    both-judged Watched shape c.args.graph_name.now c.args.patterns_name.now c.args.limits.now (g.F.Shelf.files c.args.shelf.now) (g.F.Shelf.files c.read_store.new.shelf) graph patterns
    (λ m. refl) c.in-Ok.ensures.same c.in-Ok.ensures.ok c.in-Ok-read_patterns.ensures.ok in
    watch-stays c.args.limits.now (g.F.Shelf.files c.args.shelf.now) shape (g.S.Source.left c.args.updates.now) graph patterns (watched started) started.registry.trees c.args.steps.now c.start.new.steps c.follow.new.steps
    judged (c.in-Ok-start.ensures.state ∙ ap (λ l. first_state l graph patterns) c.in-Ok.ensures.limits) c.in-Ok-start.ensures.trees c.in-Ok-start.ensures.steps c.in_ok-follow.ensures.steps
