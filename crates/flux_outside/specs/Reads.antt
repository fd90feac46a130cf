-- What is asked of the outside, call by call. A list of calls has the last one first.
use Rattle.std.specs.Prelude.{◌≡◌, ℕ, ◌+◌, ◌-◌, ◌<◌, ◌≤◌, max, List, [], ◌∷◌, ◌++◌, map, Result, Ok, Err, Option, None, Some, ⊤}
use Rattle.flux_outside.specs.declared.read_outcome.ReadOutcome.{ReadOutcome}
use Rattle.flux_outside.specs.declared.read_outcome.ReadOutcome.TheVariants.{Bytes, NoFile, Fault}

-- a read: for how many bytes it asked, and what came
pub record Read : Type 0 where
  pub asked : ℕ
  pub outcome : ReadOutcome

-- a read of a file: by this name, from this place on
pub record NamedRead : Type 0 where
  pub name : List ℕ
  pub place : ℕ
  pub read : Read

abbrev pub outcome_of : {E : Type 0} → Result ℕ E → ReadOutcome
outcome_of (Ok count) = Bytes count
outcome_of (Err e) = Fault

abbrev pub outcome_by_name : {E : Type 0} → Result (Option ℕ) E → ReadOutcome
outcome_by_name (Ok (Some count)) = Bytes count
outcome_by_name (Ok None) = NoFile
outcome_by_name (Err e) = Fault

-- ---- what an object keeps

-- a call: the name and the place, where it has some; the bytes of the buffer or the piece; and what came
pub record Call : Type 0 where
  pub name : List ℕ
  pub place : ℕ
  pub bytes : ℕ
  pub outcome : ReadOutcome

abbrev pub read_of : Call → Read
read_of call = record { asked = call.bytes; outcome = call.outcome }

abbrev pub named_read_of : Call → NamedRead
named_read_of call = record { name = call.name; place = call.place; read = read_of call }

abbrev pub reads_of : List Call → List Read
reads_of calls = map read_of calls

abbrev pub named_reads_of : List Call → List NamedRead
named_reads_of calls = map named_read_of calls

abbrev pub puts_of : List Call → List ℕ
puts_of calls = map (λ call. call.bytes) calls

-- ---- the reads of one input

-- how many bytes came
abbrev pub bytes_in : ReadOutcome → ℕ
bytes_in (Bytes count) = count
bytes_in NoFile = 0
bytes_in Fault = 0

abbrev pub given : List Read → ℕ
given [] = 0
given (read ∷ earlier) = given earlier + bytes_in read.outcome

-- each read gave something
abbrev pub AllGave : List Read → Type 0
AllGave [] = ⊤
AllGave (read ∷ earlier) = (0 < bytes_in read.outcome) × AllGave earlier

-- a read of an input of which so many bytes were given before: it asks for 1 to 65536 bytes, and for no more than are left of
-- the limit, or for one where none are left. So no more than one byte past the limit is given.
pub record IsAllowedRead (limit before : ℕ) (read : Read) : Type 0 where
  pub room : before ≤ limit
  pub some : 1 ≤ read.asked
  pub piece : read.asked ≤ 65536
  pub within : read.asked ≤ max 1 (limit - before)
  pub fits : bytes_in read.outcome ≤ read.asked

-- all reads of one input: each that was followed by another gave something, so none is made after the end or after a fault
abbrev pub AreAsked : ℕ → List Read → Type 0
AreAsked limit [] = ⊤
AreAsked limit (read ∷ earlier) = IsAllowedRead limit (given earlier) read × AllGave earlier × AreAsked limit earlier

-- what came of the last one
abbrev pub LastOutcome : ReadOutcome → List Read → Type 0
LastOutcome outcome [] = ⊥
LastOutcome outcome (read ∷ earlier) = read.outcome ≡ outcome

-- the reads of the file of this name: from place 0 on without a gap
abbrev pub reads_by_name : List ℕ → List Read → List NamedRead
reads_by_name name [] = []
reads_by_name name (read ∷ earlier) = record { name = name; place = given earlier; read = read } ∷ reads_by_name name earlier

-- these reads were made of a source, or of the file of this name
abbrev pub SourceReads : (old new : List Read) → List Read → Type 0
SourceReads old new reads = new ≡ reads ++ old

abbrev pub FileReads : List ℕ → (old new : List NamedRead) → List Read → Type 0
FileReads name old new reads = new ≡ reads_by_name name reads ++ old

-- the reads of one input, and no more than one byte past the limit was given
pub record InputReads (limit : ℕ) (reads : List Read) : Type 0 where
  pub asks : AreAsked limit reads
  pub within : given reads ≤ limit + 1

-- the last read failed: no more than the limit was given, and of so many bytes this is so
pub record LastReadFailed (limit : ℕ) (P : ℕ → Type 0) (reads : List Read) : Type 0 where
  pub last : LastOutcome Fault reads
  pub within : given reads ≤ limit
  pub so : P (given reads)

-- what was asked of an input by a call that may have ended at a fault, or at its end
pub record AskedOfInput (limit : ℕ) (at_fault at_end : Type 0) (P : ℕ → Type 0) (made : List Read → Type 0) : Type 0 where
  pub reads : List Read
  pub are : made reads
  pub input : InputReads limit reads
  pub fault : at_fault → LastReadFailed limit P reads
  pub end : at_end → LastOutcome (Bytes 0) reads

-- ---- puts

abbrev pub AllPositive : List ℕ → Type 0
AllPositive [] = ⊤
AllPositive (count ∷ earlier) = (0 < count) × AllPositive earlier

-- what was put in between was never an empty piece
pub record NoEmptyPut (old new : List ℕ) : Type 0 where
  pub since : List ℕ
  pub puts : new ≡ since ++ old
  pub some : AllPositive since
