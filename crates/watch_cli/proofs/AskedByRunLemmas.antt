-- What a run asked, from what its parts asked.
use Rattle.std.proofs.Common.{◌≡◌, ◌⊎◌, ℕ, List, [], ◌++◌, Option, None, Some, Result, Ok, Err, IsOk, IsErr, IfErr, IfSome, MatchOption, inl, inr, refl, sym, ap, ◌∙◌, append_assoc, arith, subst}
use Rattle.std.specs.Prelude.{⊤}
use Rattle.flux_outside.specs.Told.{Files}
use Rattle.flux_outside.specs.Reads.{Read, NamedRead, reads_by_name, SourceReads, FileReads, InputReads, LastReadFailed, AskedOfInput}
use Rattle.flux_model.specs.Verdict.{Shape, Watch, Match, Save, Demo, Verdict, Accepted}
use Rattle.flux_model.specs.declared.limits.Limits.{Limits}
use Rattle.file_reading.specs.AskedOfFile.{IsReadStop, NoLineRefused, graph_front, pattern_front}
use Rattle.file_reading.specs.declared.stop.Stop.{Stop}
use Rattle.file_reading.specs.declared.stop.Stop.TheVariants as stop
use Rattle.watch_cli.specs.AskedByRun.{IsReadStatus, IsFileStatus, EndsAtReadFault, EndsAtFile, graph_name, patterns_name, files_asked, ReadsOnly, AskedByRun}
use Rattle.watch_cli.specs.RunEnds.{inputs}
use Rattle.watch_cli.specs.EarlyEnds.{status_of, WriteEnds}
use Rattle.watch_cli.specs.declared.status.InputFile.{InputFile}
use Rattle.watch_cli.specs.declared.status.InputFile.TheVariants as input
use Rattle.watch_cli.specs.declared.status.Status.{Status}
use Rattle.watch_cli.specs.declared.status.Status.TheVariants as status
use Rattle.watch_cli.proofs.TopLemmas.{Judged}

-- ---- how a part ended

-- the reading of a file stopped at a failed read
pub ended-stopped : (file : InputFile) (s : Stop) → IsReadStatus (status_of file s) → IsReadStop s
ended-stopped file stop.Memory h = h
ended-stopped file stop.Read h = h
ended-stopped file stop.NoFile h = h
ended-stopped file stop.TooMuch h = h
ended-stopped input.Graph (stop.Bad bad) h = h
ended-stopped input.Patterns (stop.Bad bad) h = h

-- what is written neither reads nor judges a file
pub writing-reads_not : (w0 w1 : ℕ) (s : Status) → WriteEnds w0 w1 s → ¬ IsReadStatus s
writing-reads_not w0 w1 status.Memory so = λ e. e
writing-reads_not w0 w1 status.WriteFault so = λ e. e
writing-reads_not w0 w1 status.ReadFault so = absurd so
writing-reads_not w0 w1 status.Done so = λ e. e
writing-reads_not w0 w1 status.Usage so = λ e. e
writing-reads_not w0 w1 status.NoFile so = λ e. e
writing-reads_not w0 w1 status.TooMuch so = λ e. e
writing-reads_not w0 w1 (status.BadGraph line why) so = λ e. e
writing-reads_not w0 w1 (status.BadPatterns line why) so = λ e. e

pub writing-no_file : (w0 w1 : ℕ) (s : Status) → WriteEnds w0 w1 s → ¬ IsFileStatus s
writing-no_file w0 w1 status.Memory so = λ e. e
writing-no_file w0 w1 status.WriteFault so = λ e. e
writing-no_file w0 w1 status.ReadFault so = λ e. e
writing-no_file w0 w1 status.Done so = λ e. e
writing-no_file w0 w1 status.Usage so = λ e. e
writing-no_file w0 w1 status.NoFile so = absurd so
writing-no_file w0 w1 status.TooMuch so = λ e. e
writing-no_file w0 w1 (status.BadGraph line why) so = absurd so
writing-no_file w0 w1 (status.BadPatterns line why) so = absurd so

pub written-reads_not : {T : Type 0} (r : Result T Status) (w0 w1 : ℕ) → IfErr r (WriteEnds w0 w1) → ¬ EndsAtReadFault r
written-reads_not (Ok x) w0 w1 so = λ e. e
written-reads_not (Err s) w0 w1 so = writing-reads_not w0 w1 s so

pub written-no_file : {T : Type 0} (r : Result T Status) (w0 w1 : ℕ) → IfErr r (WriteEnds w0 w1) → ¬ EndsAtFile r
written-no_file (Ok x) w0 w1 so = λ e. e
written-no_file (Err s) w0 w1 so = writing-no_file w0 w1 s so

-- ---- a run

none_read : (limit : ℕ) → InputReads limit []
none_read limit = record { asks = tt; within = omega arith }

-- which inputs a run asks that reads its graph file
abbrev ReadsLater : Shape → (patterns updates : List Read) → Type 0
ReadsLater (Watch graph patterns_name) patterns updates = ⊤
ReadsLater (Match graph patterns_name) patterns updates = updates ≡ []
ReadsLater (Save graph) patterns updates = (patterns ≡ []) × (updates ≡ [])
ReadsLater (Demo number) patterns updates = ⊥

reads_only : (shape : Shape) (graph patterns updates : List Read) → ReadsLater shape patterns updates → ReadsOnly shape graph patterns updates
reads_only (Watch _ _) graph patterns updates so = so
reads_only (Match _ _) graph patterns updates so = so
reads_only (Save _) graph patterns updates so = so
reads_only (Demo _) graph patterns updates so = absurd so

-- the files of a number are made, so nothing is asked
pub asked-none : (limits : Limits) (files : Option Files) (number : ℕ) (at_fault : Type 0) (s : List NamedRead) (u : List Read) → ¬ at_fault
    → AskedByRun limits files (Demo number) at_fault s s u u
asked-none limits files number at_fault s u never = record {
  graph = [];
  patterns = [];
  updates = [];
  of_files = refl;
  of_updates = refl;
  graph_reads = none_read limits.input_bytes;
  pattern_reads = none_read limits.input_bytes;
  update_reads = none_read limits.input_bytes;
  only = (refl, refl, refl);
  patterns_after = inl refl;
  updates_after = inl refl;
  fault = λ h. absurd (never h);
}

module _ (limits : Limits) (files : Option Files) (shape : Shape) (at_fault : Type 0) where
  abbrev GraphAsked : (fault end : Type 0) (s0 s1 : List NamedRead) → Type 0
  GraphAsked fault end s0 s1 = AskedOfInput limits.input_bytes fault end (NoLineRefused files (graph_name shape) (graph_front limits)) (FileReads (graph_name shape) s0 s1)

  abbrev PatternsAsked : Option Files → (fault end : Type 0) (s0 s1 : List NamedRead) → Type 0
  PatternsAsked files1 fault end s0 s1 = AskedOfInput limits.input_bytes fault end (NoLineRefused files1 (patterns_name shape) (pattern_front limits)) (FileReads (patterns_name shape) s0 s1)

  -- it ended at the graph file, or read no other
  pub asked-graph : (fault end : Type 0) (s0 s1 : List NamedRead) (u : List Read) → (at_fault → fault) → ReadsLater shape [] []
      → GraphAsked fault end s0 s1 → AskedByRun limits files shape at_fault s0 s1 u u
  asked-graph fault end s0 s1 u f only a = record {
    graph = a.reads;
    patterns = [];
    updates = [];
    of_files = a.are;
    of_updates = refl;
    graph_reads = a.input;
    pattern_reads = none_read limits.input_bytes;
    update_reads = none_read limits.input_bytes;
    only = reads_only shape a.reads [] [] only;
    patterns_after = inl refl;
    updates_after = inl refl;
    fault = λ h. inl (a.fault (f h), refl, refl);
  }

  both_are : (s0 s1 s2 : List NamedRead) (graph patterns : List Read) → FileReads (graph_name shape) s0 s1 graph → FileReads (patterns_name shape) s1 s2 patterns
      → s2 ≡ files_asked shape graph patterns ++ s0
  both_are s0 s1 s2 graph patterns g p =
      p ∙ ap (λ l. reads_by_name (patterns_name shape) patterns ++ l) g
      ∙ sym (append_assoc (reads_by_name (patterns_name shape) patterns) (reads_by_name (graph_name shape) graph) s0)

  -- it ended at the pattern file, or read no more
  pub asked-patterns : (files1 : Option Files) (fault1 end1 fault2 end2 : Type 0) (s0 s1 s2 : List NamedRead) (u : List Read) → files1 ≡ files → end1 → (at_fault → fault2)
      → ((ps : List Read) → ReadsLater shape ps []) → GraphAsked fault1 end1 s0 s1 → PatternsAsked files1 fault2 end2 s1 s2 → AskedByRun limits files shape at_fault s0 s2 u u
  asked-patterns files1 fault1 end1 fault2 end2 s0 s1 s2 u same ended f only a b = record {
    graph = a.reads;
    patterns = b.reads;
    updates = [];
    of_files = both_are s0 s1 s2 a.reads b.reads a.are b.are;
    of_updates = refl;
    graph_reads = a.input;
    pattern_reads = b.input;
    update_reads = none_read limits.input_bytes;
    only = reads_only shape a.reads b.reads [] (only b.reads);
    patterns_after = inr (a.end ended);
    updates_after = inl refl;
    fault = λ h. inr (inl (
      subst (λ (fs : Option Files). LastReadFailed limits.input_bytes (NoLineRefused fs (patterns_name shape) (pattern_front limits)) b.reads) same (b.fault (f h)),
      refl,
    ));
  }

  -- it read all
  pub asked-all : (files1 : Option Files) (fault1 end1 fault2 end2 fault3 end3 : Type 0) (s0 s1 s2 : List NamedRead) (u0 u1 : List Read) → end1 → end2 → (at_fault → fault3)
      → ((ps us : List Read) → ReadsLater shape ps us) → GraphAsked fault1 end1 s0 s1 → PatternsAsked files1 fault2 end2 s1 s2
      → AskedOfInput limits.input_bytes fault3 end3 (λ n. ⊤) (SourceReads u0 u1) → AskedByRun limits files shape at_fault s0 s2 u0 u1
  asked-all files1 fault1 end1 fault2 end2 fault3 end3 s0 s1 s2 u0 u1 ended1 ended2 f only a b d = record {
    graph = a.reads;
    patterns = b.reads;
    updates = d.reads;
    of_files = both_are s0 s1 s2 a.reads b.reads a.are b.are;
    of_updates = d.are;
    graph_reads = a.input;
    pattern_reads = b.input;
    update_reads = d.input;
    only = reads_only shape a.reads b.reads d.reads (only b.reads d.reads);
    patterns_after = inr (a.end ended1);
    updates_after = inr (a.end ended1, b.end ended2);
    fault = λ h. inr (inr (d.fault (f h)));
  }

-- the same for less that is to be so
pub AskedByRun-map : (limits : Limits) (files : Option Files) (shape : Shape) (f f1 : Type 0) (s0 s1 : List NamedRead) (u0 u1 : List Read) → (f1 → f)
    → AskedByRun limits files shape f s0 s1 u0 u1 → AskedByRun limits files shape f1 s0 s1 u0 u1
AskedByRun-map limits files shape f f1 s0 s1 u0 u1 to a = record {
  graph = a.graph;
  patterns = a.patterns;
  updates = a.updates;
  of_files = a.of_files;
  of_updates = a.of_updates;
  graph_reads = a.graph_reads;
  pattern_reads = a.pattern_reads;
  update_reads = a.update_reads;
  only = a.only;
  patterns_after = a.patterns_after;
  updates_after = a.updates_after;
  fault = λ h. a.fault (to h);
}

pub run-asked : (limits : Limits) (files : Option Files) (asked : Option Shape) (s : Status) (s0 s1 : List NamedRead) (u0 u1 : List Read)
    → MatchOption asked (s1 ≡ s0) (λ shape. AskedByRun limits files shape (IsReadStatus s) s0 s1 u0 u1)
    → MatchOption asked (s1 ≡ s0) (λ shape. AskedByRun limits files shape (s ≡ status.ReadFault) s0 s1 u0 u1)
run-asked limits files None s s0 s1 u0 u1 a = a
run-asked limits files (Some shape) s s0 s1 u0 u1 a =
    AskedByRun-map limits files shape (IsReadStatus s) (s ≡ status.ReadFault) s0 s1 u0 u1 (λ is. subst IsReadStatus (sym is) tt) a

-- ---- the updates are left alone

pub judged-accepted : (limits : Limits) (files : Option Files) (shape : Shape) (a : Accepted) → Judged limits files (Some shape) (Ok a) → IfSome files (λ m. IsOk (inputs limits m (Some shape)))
judged-accepted limits None shape a h = tt
judged-accepted limits (Some m) shape a h = rw h refl

module _ {U : Type 0} (u0 u1 : U) (at_file : Type 0) (limits : Limits) (files : Option Files) (asked : Option Shape) where
  abbrev Untouched : Type 0
  Untouched = (u1 ≡ u0) ⊎ (¬ at_file × IfSome files (λ m. IsOk (inputs limits m asked)))

  pub untouched-at_file : Untouched → at_file → u1 ≡ u0
  untouched-at_file (inl same) h = same
  untouched-at_file (inr more) h = absurd (more.0 h)

pub untouched-unaccepted : {U : Type 0} (u0 u1 : U) (at_file : Type 0) (limits : Limits) (files : Option Files) (asked : Option Shape) → Untouched u0 u1 at_file limits files asked
    → IfSome files (λ m. IsErr (inputs limits m asked) → u1 ≡ u0)
untouched-unaccepted u0 u1 at_file limits None asked so = tt
untouched-unaccepted u0 u1 at_file limits (Some m) asked (inl same) = λ bad. same
untouched-unaccepted u0 u1 at_file limits (Some m) asked (inr more) = λ bad. by (inputs limits m asked) more.1 bad
  where
    by : (r : Result Accepted Verdict) → IsOk r → IsErr r → u1 ≡ u0
    by (Ok x) good bad = cc
    by (Err v) good bad = cc
