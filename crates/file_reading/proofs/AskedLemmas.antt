-- What a reading loop asked of its input.
use Rattle.std.proofs.Common.{◌≡◌, ℕ, ◌-◌, ◌<◌, ◌≤◌, max, List, ◌++◌, take, Option, None, Some, Result, Ok, Err, IsOk, IfErr, IfSome, refl, sym, ap, ◌∙◌, arith}
use Rattle.std.proofs.Math.Seq.{take-append_seam}
use Rattle.flux_outside.specs.Told.{Files}
use Rattle.flux_outside.specs.declared.read_outcome.ReadOutcome.{ReadOutcome}
use Rattle.flux_outside.specs.Reads.{bytes_in, IsAllowedRead}
use Rattle.flux_model.specs.Lines.{InputLine, whole}
use Rattle.flux_model.specs.FileReading.{read_from}
use Rattle.flux_model.specs.declared.code.Bad.{Bad}
use Rattle.stream_lines.specs.Waiting.{Waiting}
use Rattle.file_reading.specs.AskedOfFile.{IsReadStop, StopsAtFault, NoLineRefused}
use Rattle.file_reading.specs.FileProgress.{IsFront, FileRead}
use Rattle.file_reading.specs.ReadingStops.{LinesStop}
use Rattle.file_reading.specs.declared.stop.Stop.{Stop}
use Rattle.file_reading.specs.declared.stop.Stop.TheVariants as stop

-- how much a loop asks for
pub asks-well : (limit given asked window : ℕ) (outcome : ReadOutcome) → asked ≡ window → given ≤ limit
    → 0 < window → window ≤ 65536 → window ≤ max (limit - given) 1 → bytes_in outcome ≤ window
    → IsAllowedRead limit given (record { asked = asked; outcome = outcome })
asks-well limit given asked window outcome is room some piece within fits = record {
  room = room;
  some = omega (arith, is, some);
  piece = omega (arith, is, piece);
  within = omega (arith, is, within);
  fits = omega (arith, is, fits);
}

-- ---- how the taking of lines ended

pub lines-reads_not : {S : Type 0} (read : Result S Bad) (s : Stop) → LinesStop read s → ¬ IsReadStop s
lines-reads_not read stop.Memory so = λ e. e
lines-reads_not read (stop.Bad bad) so = λ e. e
lines-reads_not read stop.Read so = absurd so
lines-reads_not read stop.NoFile so = λ e. e
lines-reads_not read stop.TooMuch so = λ e. e

pub taken-reads_not : {S T : Type 0} (r : Result T Stop) (read : Result S Bad) → IfErr r (LinesStop read) → ¬ StopsAtFault r
taken-reads_not (Ok x) read so = λ e. e
taken-reads_not (Err s) read so = lines-reads_not read s so

-- ---- the lines that were judged

-- the whole lines of what was read so far were taken
pub FileRead-unrefused : {S : Type 0} (step : ℕ → S → InputLine → Result S Bad) (n given taken : ℕ) (first now : S) (w : Waiting)
    (files : Option Files) (name : List ℕ)
    → FileRead step n given taken first now w files name → NoLineRefused files name (λ b. read_from step 1 first (whole n b)) given
FileRead-unrefused step n given taken first now w None name so = tt
FileRead-unrefused step n given taken first now w (Some m) name so = by (m name) so.front
  where
    by : (o : Option (List ℕ)) → IsFront o so.bytes → IfSome o (λ b. IsOk (read_from step 1 first (whole n (take given b))))
    by None front = tt
    by (Some b) front =
        let is : take given b ≡ so.bytes =
        ap (take given) front.1 ∙ ap (λ (k : ℕ). take k (so.bytes ++ front.0)) (sym so.count) ∙ take-append_seam so.bytes front.0 in
        rw (is, so.taken) refl
