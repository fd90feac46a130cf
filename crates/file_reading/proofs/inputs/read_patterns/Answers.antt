use Rattle.std.proofs.Common.{◌∙◌, sym, Ok, Err}
use Rattle.std.proofs.lemmas.Result.{err_from_is_err_and}
use Rattle.flux_outside.specs.Causes.{Rose}
use Rattle.flux_outside.proofs.ReadsLemmas.{AskedOfInput-map}
use Rattle.flux_model.specs.Verdict.{BadPatterns}
use Rattle.file_reading.proofs.InputLemmas.{patterns-closed, patterns-stops, patterns-unrefused}
use Rattle.file_reading.proofs.inputs.read_patterns.Goals as goal

pub returns-in_err-read_file-clause-stop : goal.returns-in_err-read_file-clause-stop
returns-in_err-read_file-clause-stop g c =
    let p = err_from_is_err_and c.from_residual.result c.from_residual.ensures.1 in
    rw (p.1, p.2) (patterns-stops c.args.limits.now (g.F.Shelf.files c.args.shelf.now) c.args.name.now c.new-reader.result
    (Rose (g.F.Shelf.faults c.args.shelf.now) (g.F.Shelf.faults c.read_file.new.shelf)) c.in_err-read_file.field-0.0 c.new-reader.ensures c.in_err-read_file.ensures.stop)

pub returns-in-Ok-Ok-clause-ok : goal.returns-in-Ok-Ok-clause-ok
returns-in-Ok-Ok-clause-ok g c =
    patterns-closed c.args.limits.now (g.F.Shelf.files c.args.shelf.now) c.args.name.now c.new-reader.result c.read_file.new.file (Ok c.in-Ok-Ok.patterns) c.new-reader.ensures
    (c.in_ok-read_file.ensures.ok BadPatterns) (sym c.in-Ok-Ok.field-0-is ∙ c.in-Ok-Ok.ensures)

pub returns-in-Ok-Err-clause-stop : goal.returns-in-Ok-Err-clause-stop
returns-in-Ok-Err-clause-stop g c =
    patterns-closed c.args.limits.now (g.F.Shelf.files c.args.shelf.now) c.args.name.now c.new-reader.result c.read_file.new.file (Err c.in-Ok-Err.bad) c.new-reader.ensures
    (c.in_ok-read_file.ensures.ok BadPatterns) (sym c.in-Ok-Err.field-0-is ∙ c.in-Ok-Err.ensures)

pub returns-in_err-read_file-clause-asked : goal.returns-in_err-read_file-clause-asked
returns-in_err-read_file-clause-asked g c =
    let p = err_from_is_err_and c.from_residual.result c.from_residual.ensures.1 in
    rw (p.1, p.2) (AskedOfInput-map _ _ _ _ _ _ _ _ (λ h. h) (λ h. h)
    (λ n so. patterns-unrefused c.args.limits.now (g.F.Shelf.files c.args.shelf.now) c.args.name.now c.new-reader.result n c.new-reader.ensures so)
    c.in_err-read_file.ensures.asked)

pub returns-in-Ok-Ok-clause-asked : goal.returns-in-Ok-Ok-clause-asked
returns-in-Ok-Ok-clause-asked g c =
    AskedOfInput-map _ _ _ _ _ _ _ _ (λ h. h) (λ h. h)
    (λ n so. patterns-unrefused c.args.limits.now (g.F.Shelf.files c.args.shelf.now) c.args.name.now c.new-reader.result n c.new-reader.ensures so)
    c.in_ok-read_file.ensures.asked

pub returns-in-Ok-Err-clause-asked : goal.returns-in-Ok-Err-clause-asked
returns-in-Ok-Err-clause-asked g c =
    AskedOfInput-map _ _ _ _ _ _ _ _ (λ h. absurd h) (λ h. absurd h)
    (λ n so. patterns-unrefused c.args.limits.now (g.F.Shelf.files c.args.shelf.now) c.args.name.now c.new-reader.result n c.new-reader.ensures so)
    c.in_ok-read_file.ensures.asked

pub returns-in-Err-clause-asked : goal.returns-in-Err-clause-asked
returns-in-Err-clause-asked g c =
    AskedOfInput-map _ _ _ _ _ _ _ _ (λ h. absurd h) (λ h. absurd h)
    (λ n so. patterns-unrefused c.args.limits.now (g.F.Shelf.files c.args.shelf.now) c.args.name.now c.new-reader.result n c.new-reader.ensures so)
    c.in_ok-read_file.ensures.asked
