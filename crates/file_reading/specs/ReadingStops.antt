-- Why the reading of a file stops before its end.
use Rattle.std.specs.Prelude.{◌≡◌, ℕ, List, Option, Result, Err, ⊤}
use Rattle.flux_model.specs.Lines.{InputLine, whole, lines}
use Rattle.flux_model.specs.FileReading.{read_from}
use Rattle.flux_model.specs.Verdict.{Verdict, file_as}
use Rattle.flux_model.specs.Verdict as verdict
use Rattle.flux_model.specs.declared.code.Bad.{Bad}
use Rattle.flux_model.specs.declared.limits.Limits.{Limits}
use Rattle.file_reading.specs.declared.stop.Stop.{Stop}
use Rattle.file_reading.specs.declared.stop.Stop.TheVariants as stop

-- what a file is read as, from what is kept at first on: `after_line` says what a line makes of it, and `bad` what a refusal is called
abbrev pub read_as : {S : Type 0} → (ℕ → S → InputLine → Result S Bad) → Limits → S → (Bad → Verdict) → Option (List ℕ) → Result S Verdict
read_as after_line limits first bad file =
    file_as limits.input_bytes (λ b. read_from after_line 1 first (whole limits.line_bytes b))
    (λ b. read_from after_line 1 first (lines limits.line_bytes b)) bad file

-- taking lines stops where memory is refused, or where a line is
abbrev pub LinesStop : {S : Type 0} → Result S Bad → Stop → Type 0
LinesStop read stop.Memory = ⊤
LinesStop read (stop.Bad bad) = read ≡ Err bad
LinesStop read stop.Read = ⊥
LinesStop read stop.NoFile = ⊥
LinesStop read stop.TooMuch = ⊥

-- what is so where the reading of a file stops: `ends` of a verdict, `reads` of a failed read
abbrev pub StopWhere : (ends : Verdict → Type 0) → (Bad → Verdict) → (reads : Type 0) → Stop → Type 0
StopWhere ends bad reads stop.Memory = ⊤
StopWhere ends bad reads stop.Read = reads
StopWhere ends bad reads stop.NoFile = ends verdict.NoFile
StopWhere ends bad reads stop.TooMuch = ends verdict.TooMuch
StopWhere ends bad reads (stop.Bad b) = ends (bad b)
