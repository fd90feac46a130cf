-- How a run with words of a shape may end before it is done.
use Rattle.std.specs.Prelude.{ℕ, ⊤}
use Rattle.flux_outside.specs.Causes.{Rose}
use Rattle.flux_model.specs.Verdict.{Verdict}
use Rattle.flux_model.specs.Verdict as verdict
use Rattle.flux_model.specs.declared.code.Bad.{Bad}
use Rattle.file_reading.specs.declared.stop.Stop.{Stop}
use Rattle.file_reading.specs.declared.stop.Stop.TheVariants as stop
use Rattle.watch_cli.specs.RunEnds.{StatusWhere}
use Rattle.watch_cli.specs.declared.status.InputFile.{InputFile}
use Rattle.watch_cli.specs.declared.status.InputFile.TheVariants.{Graph, Patterns}
use Rattle.watch_cli.specs.declared.status.Status.{Status}
use Rattle.watch_cli.specs.declared.status.Status.TheVariants as status

-- the verdict where a line of the file is refused
abbrev pub refusal_of : InputFile → Bad → Verdict
refusal_of Graph bad = verdict.BadGraph bad
refusal_of Patterns bad = verdict.BadPatterns bad

-- the status where the reading of the file stopped
abbrev pub status_of : InputFile → Stop → Status
status_of file stop.Memory = status.Memory
status_of file stop.Read = status.ReadFault
status_of file stop.NoFile = status.NoFile
status_of file stop.TooMuch = status.TooMuch
status_of Graph (stop.Bad bad) = status.BadGraph bad.line bad.code
status_of Patterns (stop.Bad bad) = status.BadPatterns bad.line bad.code

-- the run was not done, and its words have a shape
abbrev pub IsEarly : Status → Type 0
IsEarly status.Done = ⊥
IsEarly status.Usage = ⊥
IsEarly status.NoFile = ⊤
IsEarly (status.BadGraph _ _) = ⊤
IsEarly (status.BadPatterns _ _) = ⊤
IsEarly status.ReadFault = ⊤
IsEarly status.WriteFault = ⊤
IsEarly status.Memory = ⊤
IsEarly status.TooMuch = ⊤

-- writing ends a run where memory is refused, or where the count of the sink's faults rose
abbrev pub WriteEnds : (before now : ℕ) → Status → Type 0
WriteEnds before now s = StatusWhere (λ v. ⊥) ⊥ (Rose before now) s
