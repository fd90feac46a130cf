-- How a run ends, and what stands in the output then.
use Rattle.std.specs.Prelude.{◌≡◌, ◌⊎◌, ℕ, List, [], Option, None, Some, Result, Ok, Err, IsOk, ⊤, IfSome, MatchOption}
use Rattle.std.specs.Io.KnownBytes.{Appends, Consumes}
use Rattle.flux_outside.specs.Causes.{Rose}
use Rattle.flux_outside.specs.Told.{Files, AppendsFront}
use Rattle.flux_model.specs.Verdict.{Shape, Verdict, Accepted, Ending, accepted, ending_for, written_before}
use Rattle.flux_model.specs.Verdict as verdict
use Rattle.flux_model.specs.declared.limits.Limits.{Limits}
use Rattle.watch_cli.specs.CommandWords.{ReadsFiles, ReadsUpdates}
use Rattle.watch_cli.specs.declared.status.Status.{Status}
use Rattle.watch_cli.specs.declared.status.Status.TheVariants.{Done, Usage, NoFile, BadGraph, BadPatterns, TooMuch}
use Rattle.watch_cli.specs.declared.status.Status.TheVariants.{ReadFault, WriteFault, Memory}

-- what is so of the bytes, or of some bytes where they are not told
abbrev pub KnownOrSome : Option (List ℕ) → (List ℕ → Type 0) → Type 0
KnownOrSome None P = (s : List ℕ) × P s
KnownOrSome (Some s) P = P s

-- the verdict that a status tells, if it tells one
abbrev pub verdict_of : Status → Option Verdict
verdict_of Done = Some verdict.Done
verdict_of Usage = Some verdict.Usage
verdict_of NoFile = Some verdict.NoFile
verdict_of TooMuch = Some verdict.TooMuch
verdict_of (BadGraph line code) = Some (verdict.BadGraph (record { line = line; code = code }))
verdict_of (BadPatterns line code) = Some (verdict.BadPatterns (record { line = line; code = code }))
verdict_of ReadFault = None
verdict_of WriteFault = None
verdict_of Memory = None

-- what the files that the words name are accepted as
abbrev pub inputs : Limits → Files → Option Shape → Result Accepted Verdict
inputs limits files None = Err verdict.Usage
inputs limits files (Some shape) = accepted limits files shape

-- the count of faults rose of the shelf, where files are read, or of the updates, where they are read
abbrev pub OneRose : Option Shape → (shelf0 shelf1 read0 read1 : ℕ) → Type 0
OneRose asked shelf0 shelf1 read0 read1 =
    MatchOption asked ⊥ (λ shape. (ReadsFiles shape × Rose shelf0 shelf1) ⊎ (ReadsUpdates shape × Rose read0 read1))

-- a run ends with a verdict, and all that is due by then was written; `ending` says what is due for which bytes of the updates
abbrev pub EndsAs : Option (List ℕ) → (List ℕ → Ending) → (old new : Option (List ℕ)) → Verdict → Type 0
EndsAs left ending old new v = KnownOrSome left (λ s. ((ending s).verdict ≡ v) × Appends old new (ending s).text)

-- a front part of what is due was written
abbrev pub EndsBefore : Option (List ℕ) → (List ℕ → Ending) → (old new : Option (List ℕ)) → Type 0
EndsBefore left ending old new = KnownOrSome left (λ s. AppendsFront old new (ending s).text)

-- a read failed: the blocks of the whole lines of the bytes that were taken were written, or nothing where a file is not accepted
abbrev pub EndsAtFault : (left0 left1 : Option (List ℕ)) → (List ℕ → List ℕ) → (old new : Option (List ℕ)) → Type 0
EndsAtFault left0 left1 written old new = (r : List ℕ) × Consumes left0 left1 r × Appends old new (written r)

-- what is written at a failed read, after so many bytes of the updates were taken
abbrev pub written_of : Limits → Result Accepted Verdict → List ℕ → List ℕ
written_of limits (Ok files) r = written_before limits files r
written_of limits (Err verdict) r = []

-- the same where the files are told: what is due for them and the words
abbrev pub RunEndsAs : Limits → Option Files → Option Shape → Option (List ℕ) → (old new : Option (List ℕ)) → Verdict → Type 0
RunEndsAs limits files asked left old new v = IfSome files (λ m. EndsAs left (ending_for limits m asked) old new v)

-- a front part of it was written
abbrev pub RunEndsBefore : Limits → Option Files → Option Shape → Option (List ℕ) → (old new : Option (List ℕ)) → Type 0
RunEndsBefore limits files asked left old new = IfSome files (λ m. EndsBefore left (ending_for limits m asked) old new)

-- why a read may fail, and what stands then
pub record ReadFails (limits : Limits) (files : Option Files) (asked : Option Shape) (shelf0 shelf1 read0 read1 : ℕ)
    (left0 left1 old new : Option (List ℕ)) : Type 0 where
  pub cause : OneRose asked shelf0 shelf1 read0 read1
  pub accepted : ¬ Rose shelf0 shelf1 → IfSome files (λ m. IsOk (inputs limits m asked))
  pub written : IfSome files (λ m. EndsAtFault left0 left1 (written_of limits (inputs limits m asked)) old new)

-- what is so where a run ends with a status: `ends` of a verdict, `reads` of a failed read, `writes` of a failed write
abbrev pub StatusWhere : (ends : Verdict → Type 0) → (reads writes : Type 0) → Status → Type 0
StatusWhere ends reads writes Memory = ⊤
StatusWhere ends reads writes ReadFault = reads
StatusWhere ends reads writes WriteFault = writes
StatusWhere ends reads writes Done = ends verdict.Done
StatusWhere ends reads writes Usage = ends verdict.Usage
StatusWhere ends reads writes NoFile = ends verdict.NoFile
StatusWhere ends reads writes TooMuch = ends verdict.TooMuch
StatusWhere ends reads writes (BadGraph line code) = ends (verdict.BadGraph (record { line = line; code = code }))
StatusWhere ends reads writes (BadPatterns line code) = ends (verdict.BadPatterns (record { line = line; code = code }))
