use Rattle.std.proofs.Common.{◌≡◌, ◌+◌, ◌≤◌, [], ◌∷◌, length, take, refl, ap, ◌∙◌, arith, Ok, rules}
use Rattle.std.proofs.lemmas.Result.{err_from_is_err_and, on_ok_weaker, IfErr-weaker}
use Rattle.std.proofs.lemmas.Grind.{common_steps}
use Rattle.flux_outside.specs.declared.read_outcome.ReadOutcome.TheVariants.{Bytes, NoFile, Fault}
use Rattle.flux_outside.proofs.ReadsLemmas.{file-gave, file-last}
use Rattle.flux_model.specs.Lines.{whole}
use Rattle.flux_model.specs.LentLine.{seen_line}
use Rattle.file_reading.proofs.FileLemmas.{told_at_first, piece_len, lines_fit, some_lines_fit, taken-last, one-line, FileRead-next, ReadAs-none, ReadAs-end, ReadAs-longer, StopWhere-refused, StopWhere-last}
use Rattle.file_reading.proofs.AskedLemmas.{asks-well, lines-reads_not, taken-reads_not, FileRead-unrefused}
use Rattle.file_reading.proofs.files.read_file.Goals as goal

pub returns-in-Ok-None-clause-stop : goal.returns-in-Ok-None-clause-stop
returns-in-Ok-None-clause-stop g c = λ bad. ReadAs-none g.T.TakeLine.after_line c.args.limits.now bad _ _ _ c.args.name.now c.read.new.buf c.in-Ok-None.field-0 c.loop-count.given c.loop-count.invariant.same c.in-Ok-None.field-0-is c.in-Ok-None.ensures.bytes

pub returns-then-count-room-clause-stop : goal.returns-then-count-room-clause-stop
returns-then-count-room-clause-stop g c =
    let bound : c.in-Ok-Some.count ≤ length c.read.new.buf = rw c.in-Ok-Some.field-0-is at c.in-Ok-Some.ensures.bound in
    let asked : length c.read.new.buf ≡ c.ask_for.result = grind (arith, common_steps) in
    let full : c.loop-count.given ≡ c.args.limits.now.input_bytes = omega (arith, bound, asked, c.loop-count.invariant.within, c.if-count-room.true, c.ask_for.ensures.within) in
    λ bad. ReadAs-longer g.T.TakeLine.after_line c.args.limits.now bad c.loop-count.given c.in-Ok-Some.count _ _ _ _ _ _ c.read.new.buf full c.loop-count.invariant.read
    (told_at_first _ _ c.args.name.now c.read.new.buf c.in-Ok-Some.field-0 c.loop-count.given c.in-Ok-Some.count c.loop-count.invariant.same c.in-Ok-Some.field-0-is c.in-Ok-Some.ensures.bytes)
    (omega arith)

pub take_waiting-requires-clause-fits : goal.take_waiting-requires-clause-fits
take_waiting-requires-clause-fits g c =
    let bound : c.in-Ok-Some.count ≤ length c.read.new.buf = rw c.in-Ok-Some.field-0-is at c.in-Ok-Some.ensures.bound in
    let fit : c.loop-count.number + length c.push.new.self.queue ≤ c.loop-count.given + c.in-Ok-Some.count = lines_fit g.T.TakeLine.after_line c.args.limits.now.line_bytes c.loop-count.given c.in-Ok-Some.count _ _ _ _ c.push.new.self _ _ (take c.in-Ok-Some.count c.read.new.buf) c.loop-count.invariant.read c.in-Ok-push.ensures.lines (piece_len c.in-Ok-Some.count c.read.new.buf bound) in
    omega (arith, fit, c.loop-count.invariant.within, c.if-count-room.false, c.requires.fair.input_bytes.1)

pub returns-in_err-number-clause-stop : goal.returns-in_err-number-clause-stop
returns-in_err-number-clause-stop g c =
    let p = err_from_is_err_and c.from_residual.result c.from_residual.ensures.1 in
    let bound : c.in-Ok-Some.count ≤ length c.read.new.buf = rw c.in-Ok-Some.field-0-is at c.in-Ok-Some.ensures.bound in
    rw (p.1, p.2) (λ bad. StopWhere-refused g.T.TakeLine.after_line c.args.limits.now bad c.loop-count.given c.in-Ok-Some.count _ _ _ _ c.push.new.self _ _ c.read.new.buf _ _ c.loop-count.invariant.read
    (told_at_first _ _ c.args.name.now c.read.new.buf c.in-Ok-Some.field-0 c.loop-count.given c.in-Ok-Some.count c.loop-count.invariant.same c.in-Ok-Some.field-0-is c.in-Ok-Some.ensures.bytes)
    (piece_len c.in-Ok-Some.count c.read.new.buf bound) (omega (arith, c.if-count-room.false, c.loop-count.invariant.within)) c.in-Ok-push.ensures.lines c.in_err-number.ensures.stop)

pub loop-count-preserved : goal.loop-count-preserved
loop-count-preserved g c =
    let bound : c.in-Ok-Some.count ≤ length c.read.new.buf = rw c.in-Ok-Some.field-0-is at c.in-Ok-Some.ensures.bound in
    let asked : length c.read.new.buf ≡ c.ask_for.result = grind (arith, common_steps) in
    record {
      within = omega (arith, c.if-count-room.false, c.loop-count.invariant.within);
      buffer = c.loop-count.invariant.buffer;
      read = FileRead-next g.T.TakeLine.after_line c.args.limits.now.line_bytes c.loop-count.given c.in-Ok-Some.count _ _ _ _ _ _ c.push.new.self _ _ _ c.read.new.buf c.loop-count.invariant.read
          (told_at_first _ _ c.args.name.now c.read.new.buf c.in-Ok-Some.field-0 c.loop-count.given c.in-Ok-Some.count c.loop-count.invariant.same c.in-Ok-Some.field-0-is c.in-Ok-Some.ensures.bytes)
          (piece_len c.in-Ok-Some.count c.read.new.buf bound) c.in-Ok-push.ensures.lines c.in-Ok-push.ensures.line_bytes
          c.in_ok-number.ensures.ok c.in_ok-number.ensures.number c.in_ok-number.ensures.waiting;
      ready = c.in_ok-number.ensures.ready;
      same = c.in-Ok-Some.ensures.same ∙ c.loop-count.invariant.same;
      later = omega (arith, c.loop-count.invariant.later, c.in-Ok-Some.ensures.cause.later);
      asked = file-gave c.args.limits.now.input_bytes c.loop-count.given _ (Bytes c.in-Ok-Some.count) c.args.name.now _ _ _ c.loop-count.invariant.asked (rw c.in-Ok-Some.field-0-is at c.in-Ok-Some.ensures.asked)
          (asks-well c.args.limits.now.input_bytes c.loop-count.given _ c.ask_for.result (Bytes c.in-Ok-Some.count) (grind (arith, common_steps)) c.loop-count.invariant.within c.ask_for.ensures.some c.ask_for.ensures.fits c.ask_for.ensures.within (omega (arith, bound, asked))) (omega (arith, c.if-count-eq0.false));
    }

pub returns-in-None-clause-ok : goal.returns-in-None-clause-ok
returns-in-None-clause-ok g c = λ bad.
    ReadAs-end g.T.TakeLine.after_line c.args.limits.now bad c.loop-count.given c.in-Ok-Some.count _ _ _ _ _ _ c.read.new.buf [] (Ok c.loop-count.file) c.loop-count.invariant.read
    (told_at_first _ _ c.args.name.now c.read.new.buf c.in-Ok-Some.field-0 c.loop-count.given c.in-Ok-Some.count c.loop-count.invariant.same c.in-Ok-Some.field-0-is c.in-Ok-Some.ensures.bytes)
    (omega (arith, c.if-count-eq0.true)) (grind (arith, common_steps)) c.loop-count.invariant.within c.in-None.ensures.lines refl

pub returns-in-None-clause-taken : goal.returns-in-None-clause-taken
returns-in-None-clause-taken g c = (whole c.args.limits.now.line_bytes c.loop-count.invariant.read.bytes, c.loop-count.invariant.read.taken)

pub overflow_add-number : goal.overflow_add-number
overflow_add-number g c =
    let fit : c.loop-count.number ≤ c.loop-count.given = some_lines_fit g.T.TakeLine.after_line c.args.limits.now.line_bytes _ _ _ _ _ _ _ c.loop-count.invariant.read in
    let few : c.loop-count.number ≤ 17179869184 = omega (arith, fit, c.loop-count.invariant.within, c.requires.fair.input_bytes.1) in
    search (rules, few)

pub returns-clause-ok : goal.returns-clause-ok
returns-clause-ok g c =
    on_ok_weaker c.take_line.result
    (λ taken bad. ReadAs-end g.T.TakeLine.after_line c.args.limits.now bad c.loop-count.given c.in-Ok-Some.count _ _ _ _ _ _ c.read.new.buf (seen_line c.in-Some.line ∷ []) (Ok c.take_line.new.file) c.loop-count.invariant.read
    (told_at_first _ _ c.args.name.now c.read.new.buf c.in-Ok-Some.field-0 c.loop-count.given c.in-Ok-Some.count c.loop-count.invariant.same c.in-Ok-Some.field-0-is c.in-Ok-Some.ensures.bytes)
    (omega (arith, c.if-count-eq0.true)) (grind (arith, common_steps)) c.loop-count.invariant.within c.in-Some.ensures.lines
    (one-line g.T.TakeLine.after_line c.args.limits.now.line_bytes (c.loop-count.number + 1) c.loop-count.file (seen_line c.in-Some.line) ∙ taken))
    c.take_line.ensures.ok

pub returns-clause-taken : goal.returns-clause-taken
returns-clause-taken g c =
    on_ok_weaker c.take_line.result
    (λ taken. taken-last g.T.TakeLine.after_line c.args.limits.now.line_bytes c.loop-count.given _ _ _ _ _ _ (seen_line c.in-Some.line) c.take_line.new.file c.loop-count.invariant.read taken)
    c.take_line.ensures.ok

pub returns-clause-stop : goal.returns-clause-stop
returns-clause-stop g c =
    IfErr-weaker c.take_line.result _ _
    (λ s stopped bad. StopWhere-last g.T.TakeLine.after_line c.args.limits.now bad c.loop-count.given c.in-Ok-Some.count _ _ _ _ _ _ c.read.new.buf (seen_line c.in-Some.line) _ s c.loop-count.invariant.read
    (told_at_first _ _ c.args.name.now c.read.new.buf c.in-Ok-Some.field-0 c.loop-count.given c.in-Ok-Some.count c.loop-count.invariant.same c.in-Ok-Some.field-0-is c.in-Ok-Some.ensures.bytes)
    (omega (arith, c.if-count-eq0.true)) (grind (arith, common_steps)) c.loop-count.invariant.within c.in-Some.ensures.lines stopped)
    c.take_line.ensures.stop

-- ---- what was asked

pub returns-in-Ok-None-clause-asked : goal.returns-in-Ok-None-clause-asked
returns-in-Ok-None-clause-asked g c =
    file-last c.args.limits.now.input_bytes c.loop-count.given _ NoFile c.args.name.now _ _ _ _ _ _ c.loop-count.invariant.asked (rw c.in-Ok-None.field-0-is at c.in-Ok-None.ensures.asked)
    (asks-well c.args.limits.now.input_bytes c.loop-count.given _ c.ask_for.result NoFile (grind (arith, common_steps)) c.loop-count.invariant.within c.ask_for.ensures.some c.ask_for.ensures.fits c.ask_for.ensures.within (omega arith)) (λ h. absurd h) (λ h. absurd h)

pub returns-in-Err-clause-asked : goal.returns-in-Err-clause-asked
returns-in-Err-clause-asked g c =
    file-last c.args.limits.now.input_bytes c.loop-count.given _ Fault c.args.name.now _ _ _ _ _ _ c.loop-count.invariant.asked c.in-Err.ensures.asked
    (asks-well c.args.limits.now.input_bytes c.loop-count.given _ c.ask_for.result Fault (grind (arith, common_steps)) c.loop-count.invariant.within c.ask_for.ensures.some c.ask_for.ensures.fits c.ask_for.ensures.within (omega arith))
    (λ h. (refl, FileRead-unrefused g.T.TakeLine.after_line c.args.limits.now.line_bytes c.loop-count.given _ _ _ _ _ _ c.loop-count.invariant.read)) (λ h. absurd h)

pub returns-then-count-room-clause-asked : goal.returns-then-count-room-clause-asked
returns-then-count-room-clause-asked g c =
    let bound : c.in-Ok-Some.count ≤ length c.read.new.buf = rw c.in-Ok-Some.field-0-is at c.in-Ok-Some.ensures.bound in
    let asked : length c.read.new.buf ≡ c.ask_for.result = grind (arith, common_steps) in
    file-last c.args.limits.now.input_bytes c.loop-count.given _ (Bytes c.in-Ok-Some.count) c.args.name.now _ _ _ _ _ _ c.loop-count.invariant.asked (rw c.in-Ok-Some.field-0-is at c.in-Ok-Some.ensures.asked)
    (asks-well c.args.limits.now.input_bytes c.loop-count.given _ c.ask_for.result (Bytes c.in-Ok-Some.count) (grind (arith, common_steps)) c.loop-count.invariant.within c.ask_for.ensures.some c.ask_for.ensures.fits c.ask_for.ensures.within (omega (arith, bound, asked))) (λ h. absurd h) (λ h. absurd h)

pub returns-in_default-push-clause-asked : goal.returns-in_default-push-clause-asked
returns-in_default-push-clause-asked g c =
    let bound : c.in-Ok-Some.count ≤ length c.read.new.buf = rw c.in-Ok-Some.field-0-is at c.in-Ok-Some.ensures.bound in
    let asked : length c.read.new.buf ≡ c.ask_for.result = grind (arith, common_steps) in
    file-last c.args.limits.now.input_bytes c.loop-count.given _ (Bytes c.in-Ok-Some.count) c.args.name.now _ _ _ _ _ _ c.loop-count.invariant.asked (rw c.in-Ok-Some.field-0-is at c.in-Ok-Some.ensures.asked)
    (asks-well c.args.limits.now.input_bytes c.loop-count.given _ c.ask_for.result (Bytes c.in-Ok-Some.count) (grind (arith, common_steps)) c.loop-count.invariant.within c.ask_for.ensures.some c.ask_for.ensures.fits c.ask_for.ensures.within (omega (arith, bound, asked))) (λ h. absurd h) (λ h. absurd h)

pub returns-in_err-number-clause-asked : goal.returns-in_err-number-clause-asked
returns-in_err-number-clause-asked g c =
    let p = err_from_is_err_and c.from_residual.result c.from_residual.ensures.1 in
    let bound : c.in-Ok-Some.count ≤ length c.read.new.buf = rw c.in-Ok-Some.field-0-is at c.in-Ok-Some.ensures.bound in
    let asked : length c.read.new.buf ≡ c.ask_for.result = grind (arith, common_steps) in
    rw (p.1, p.2) (file-last c.args.limits.now.input_bytes c.loop-count.given _ (Bytes c.in-Ok-Some.count) c.args.name.now _ _ _ _ _ _ c.loop-count.invariant.asked (rw c.in-Ok-Some.field-0-is at c.in-Ok-Some.ensures.asked)
    (asks-well c.args.limits.now.input_bytes c.loop-count.given _ c.ask_for.result (Bytes c.in-Ok-Some.count) (grind (arith, common_steps)) c.loop-count.invariant.within c.ask_for.ensures.some c.ask_for.ensures.fits c.ask_for.ensures.within (omega (arith, bound, asked)))
    (λ h. absurd (lines-reads_not _ _ c.in_err-number.ensures.stop h)) (λ h. absurd h))

pub returns-in-None-clause-asked : goal.returns-in-None-clause-asked
returns-in-None-clause-asked g c =
    let none : c.in-Ok-Some.count ≡ 0 = omega (arith, c.if-count-eq0.true) in
    let bound : c.in-Ok-Some.count ≤ length c.read.new.buf = rw c.in-Ok-Some.field-0-is at c.in-Ok-Some.ensures.bound in
    let asked : length c.read.new.buf ≡ c.ask_for.result = grind (arith, common_steps) in
    file-last c.args.limits.now.input_bytes c.loop-count.given _ (Bytes c.in-Ok-Some.count) c.args.name.now _ _ _ _ _ _ c.loop-count.invariant.asked (rw c.in-Ok-Some.field-0-is at c.in-Ok-Some.ensures.asked)
    (asks-well c.args.limits.now.input_bytes c.loop-count.given _ c.ask_for.result (Bytes c.in-Ok-Some.count) (grind (arith, common_steps)) c.loop-count.invariant.within c.ask_for.ensures.some c.ask_for.ensures.fits c.ask_for.ensures.within (omega (arith, bound, asked))) (λ h. absurd h) (λ h. ap Bytes none)

pub returns-clause-asked : goal.returns-clause-asked
returns-clause-asked g c =
    let none : c.in-Ok-Some.count ≡ 0 = omega (arith, c.if-count-eq0.true) in
    let bound : c.in-Ok-Some.count ≤ length c.read.new.buf = rw c.in-Ok-Some.field-0-is at c.in-Ok-Some.ensures.bound in
    let asked : length c.read.new.buf ≡ c.ask_for.result = grind (arith, common_steps) in
    file-last c.args.limits.now.input_bytes c.loop-count.given _ (Bytes c.in-Ok-Some.count) c.args.name.now _ _ _ _ _ _ c.loop-count.invariant.asked (rw c.in-Ok-Some.field-0-is at c.in-Ok-Some.ensures.asked)
    (asks-well c.args.limits.now.input_bytes c.loop-count.given _ c.ask_for.result (Bytes c.in-Ok-Some.count) (grind (arith, common_steps)) c.loop-count.invariant.within c.ask_for.ensures.some c.ask_for.ensures.fits c.ask_for.ensures.within (omega (arith, bound, asked)))
    (λ h. absurd (taken-reads_not c.take_line.result _ c.take_line.ensures.stop h)) (λ h. ap Bytes none)
