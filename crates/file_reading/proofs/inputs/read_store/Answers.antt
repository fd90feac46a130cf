use Rattle.std.proofs.Common.{◌≡◌, Ok, sym, subst}
use Rattle.std.proofs.lemmas.Result.{err_from_is_err_and}
use Rattle.flux_outside.specs.Causes.{Rose}
use Rattle.flux_outside.proofs.ReadsLemmas.{AskedOfInput-map}
use Rattle.flux_model.specs.Graph.{LimitedGraph}
use Rattle.flux_model.specs.Verdict.{BadGraph, graph_file}
use Rattle.file_reading.specs.FileContents.{FileIs}
use Rattle.file_reading.proofs.InputLemmas.{empty_under, graph-accepted, graph-limits, graph-stops, graph-unrefused}
use Rattle.file_reading.proofs.inputs.read_store.Goals as goal

pub returns-in_err-read_file-clause-stop : goal.returns-in_err-read_file-clause-stop
returns-in_err-read_file-clause-stop g c =
    let p = err_from_is_err_and c.from_residual.result c.from_residual.ensures.1 in
    let first : LimitedGraph = record { limits = g.G.HoldGraph.limits c.args.empty; graph = g.G.HoldGraph.graph c.args.empty } in
    let was_empty = empty_under c.args.limits.now first c.requires.limits c.requires.empty in
    rw (p.1, p.2) (graph-stops c.args.limits.now (g.F.Shelf.files c.args.shelf.now) c.args.name.now first
    (Rose (g.F.Shelf.faults c.args.shelf.now) (g.F.Shelf.faults c.read_file.new.shelf)) c.in_err-read_file.field-0.0 was_empty c.in_err-read_file.ensures.stop)

pub returns-clause-ok : goal.returns-clause-ok
returns-clause-ok g c =
    let first : LimitedGraph = record { limits = g.G.HoldGraph.limits c.args.empty; graph = g.G.HoldGraph.graph c.args.empty } in
    let was_empty = empty_under c.args.limits.now first c.requires.limits c.requires.empty in
    subst (λ (kept : LimitedGraph). FileIs (g.F.Shelf.files c.args.shelf.now) c.args.name.now (graph_file c.args.limits.now) (Ok kept.graph)) (sym c.reader.view_is)
    (graph-accepted c.args.limits.now (g.F.Shelf.files c.args.shelf.now) c.args.name.now first c.read_file.new.file was_empty
    (c.in_ok-read_file.ensures.ok BadGraph))

pub returns-clause-limits : goal.returns-clause-limits
returns-clause-limits g c =
    let first : LimitedGraph = record { limits = g.G.HoldGraph.limits c.args.empty; graph = g.G.HoldGraph.graph c.args.empty } in
    let was_empty = empty_under c.args.limits.now first c.requires.limits c.requires.empty in
    subst (λ (kept : LimitedGraph). kept.limits ≡ c.args.limits.now) (sym c.reader.view_is)
    (graph-limits c.args.limits.now first c.read_file.new.file c.in_ok-read_file.ensures.taken.0 was_empty c.in_ok-read_file.ensures.taken.1)

pub returns-in_err-read_file-clause-asked : goal.returns-in_err-read_file-clause-asked
returns-in_err-read_file-clause-asked g c =
    let p = err_from_is_err_and c.from_residual.result c.from_residual.ensures.1 in
    let first : LimitedGraph = record { limits = g.G.HoldGraph.limits c.args.empty; graph = g.G.HoldGraph.graph c.args.empty } in
    let was_empty = empty_under c.args.limits.now first c.requires.limits c.requires.empty in
    rw (p.1, p.2) (AskedOfInput-map _ _ _ _ _ _ _ _ (λ h. h) (λ h. h)
    (λ n so. graph-unrefused c.args.limits.now (g.F.Shelf.files c.args.shelf.now) c.args.name.now first n was_empty so)
    c.in_err-read_file.ensures.asked)

pub returns-clause-asked : goal.returns-clause-asked
returns-clause-asked g c =
    let first : LimitedGraph = record { limits = g.G.HoldGraph.limits c.args.empty; graph = g.G.HoldGraph.graph c.args.empty } in
    let was_empty = empty_under c.args.limits.now first c.requires.limits c.requires.empty in
    AskedOfInput-map _ _ _ _ _ _ _ _ (λ h. h) (λ h. h)
    (λ n so. graph-unrefused c.args.limits.now (g.F.Shelf.files c.args.shelf.now) c.args.name.now first n was_empty so)
    c.in_ok-read_file.ensures.asked
