-- What a run asks of its inputs, and in which order.
use Rattle.std.specs.Prelude.{◌≡◌, ◌⊎◌, ℕ, List, [], ◌++◌, Option, Result, Ok, Err, ⊤}
use Rattle.flux_outside.specs.Told.{Files}
use Rattle.flux_outside.specs.Reads.{Read, NamedRead, LastOutcome, reads_by_name, SourceReads, InputReads, LastReadFailed}
use Rattle.flux_outside.specs.declared.read_outcome.ReadOutcome.TheVariants.{Bytes}
use Rattle.flux_model.specs.Verdict.{Shape, Watch, Match, Save, Demo}
use Rattle.flux_model.specs.declared.limits.Limits.{Limits}
use Rattle.file_reading.specs.AskedOfFile.{NoLineRefused, graph_front, pattern_front}
use Rattle.watch_cli.specs.declared.status.Status.{Status}
use Rattle.watch_cli.specs.declared.status.Status.TheVariants.{Done, Usage, NoFile, BadGraph, BadPatterns, TooMuch}
use Rattle.watch_cli.specs.declared.status.Status.TheVariants.{ReadFault, WriteFault, Memory}

-- ---- how a call ended

-- a read failed
abbrev pub IsReadStatus : Status → Type 0
IsReadStatus ReadFault = ⊤
IsReadStatus Done = ⊥
IsReadStatus Usage = ⊥
IsReadStatus NoFile = ⊥
IsReadStatus (BadGraph _ _) = ⊥
IsReadStatus (BadPatterns _ _) = ⊥
IsReadStatus WriteFault = ⊥
IsReadStatus Memory = ⊥
IsReadStatus TooMuch = ⊥

-- a file is not there, or is refused
abbrev pub IsFileStatus : Status → Type 0
IsFileStatus NoFile = ⊤
IsFileStatus (BadGraph _ _) = ⊤
IsFileStatus (BadPatterns _ _) = ⊤
IsFileStatus Done = ⊥
IsFileStatus Usage = ⊥
IsFileStatus ReadFault = ⊥
IsFileStatus WriteFault = ⊥
IsFileStatus Memory = ⊥
IsFileStatus TooMuch = ⊥

abbrev pub EndsAtReadFault : {T : Type 0} → Result T Status → Type 0
EndsAtReadFault (Ok x) = ⊥
EndsAtReadFault (Err why) = IsReadStatus why

abbrev pub EndsAtFile : {T : Type 0} → Result T Status → Type 0
EndsAtFile (Ok x) = ⊥
EndsAtFile (Err why) = IsFileStatus why

-- ---- a run

-- `demo` has no file
abbrev pub graph_name : Shape → List ℕ
graph_name (Watch graph patterns) = graph
graph_name (Match graph patterns) = graph
graph_name (Save graph) = graph
graph_name (Demo number) = []

-- nor has `save` a pattern file
abbrev pub patterns_name : Shape → List ℕ
patterns_name (Watch graph patterns) = patterns
patterns_name (Match graph patterns) = patterns
patterns_name (Save graph) = []
patterns_name (Demo number) = []

-- the reads of the graph file, and then those of the pattern file
abbrev pub files_asked : Shape → (graph patterns : List Read) → List NamedRead
files_asked shape graph patterns = reads_by_name (patterns_name shape) patterns ++ reads_by_name (graph_name shape) graph

-- an input is asked only where the run reads it
abbrev pub ReadsOnly : Shape → (graph patterns updates : List Read) → Type 0
ReadsOnly (Watch graph_name patterns_name) graph patterns updates = ⊤
ReadsOnly (Match graph_name patterns_name) graph patterns updates = updates ≡ []
ReadsOnly (Save graph_name) graph patterns updates = (patterns ≡ []) × (updates ≡ [])
ReadsOnly (Demo number) graph patterns updates = (graph ≡ []) × (patterns ≡ []) × (updates ≡ [])

abbrev pub WasReadToItsEnd : List Read → Type 0
WasReadToItsEnd reads = LastOutcome (Bytes 0) reads

-- where a read failed, it was the last of all, and of what was read of its file before it no line is refused
abbrev pub FaultIn : Limits → Option Files → Shape → (graph patterns updates : List Read) → Type 0
FaultIn limits files shape graph patterns updates =
    (LastReadFailed limits.input_bytes (NoLineRefused files (graph_name shape) (graph_front limits)) graph
    × (patterns ≡ []) × (updates ≡ []))
    ⊎ ((LastReadFailed limits.input_bytes (NoLineRefused files (patterns_name shape) (pattern_front limits)) patterns × (updates ≡ []))
    ⊎ LastReadFailed limits.input_bytes (λ n. ⊤) updates)

-- what a run asked of its inputs, where `at_fault` says that it ended at a failed read; a later input is asked only once the earlier
-- ones were read to their ends
pub record AskedByRun (limits : Limits) (files : Option Files) (shape : Shape) (at_fault : Type 0)
    (shelf0 shelf1 : List NamedRead) (updates0 updates1 : List Read) : Type 0 where
  pub graph : List Read
  pub patterns : List Read
  pub updates : List Read
  pub of_files : shelf1 ≡ files_asked shape graph patterns ++ shelf0
  pub of_updates : SourceReads updates0 updates1 updates
  pub graph_reads : InputReads limits.input_bytes graph
  pub pattern_reads : InputReads limits.input_bytes patterns
  pub update_reads : InputReads limits.input_bytes updates
  pub only : ReadsOnly shape graph patterns updates
  pub patterns_after : (patterns ≡ []) ⊎ WasReadToItsEnd graph
  pub updates_after : (updates ≡ []) ⊎ (WasReadToItsEnd graph × WasReadToItsEnd patterns)
  pub fault : at_fault → FaultIn limits files shape graph patterns updates
