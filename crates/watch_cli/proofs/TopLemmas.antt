-- How a run ends, from how its parts do.
use Rattle.std.proofs.Common.{◌≡◌, ◌⊎◌, ◌↔◌, ◌≤◌, ℕ, false, List, [], Option, None, Some, Result, Ok, Err, IsOk, IfSome, inl, inr, refl, sym, ap, ◌∙◌, subst, arith}
use Rattle.std.specs.Io.KnownBytes.{Appends}
use Rattle.std.proofs.KnownBytes.{Appends-nil, Consumes-nil}
use Rattle.flux_outside.specs.Causes.{Rose}
use Rattle.flux_outside.specs.Told.{Files, AppendsFront}
use Rattle.flux_model.specs.FileReading.{result_and_then}
use Rattle.flux_model.specs.Graph.{Graph}
use Rattle.flux_model.specs.Pattern.{PatternGraph}
use Rattle.flux_model.specs.Verdict.{Shape, Watch, Match, Save, Demo, Verdict, Accepted, Watched, Matched, Saved, Shown, Ending, graph_file, pattern_file, ending_with, ends_with, ending_for, blocks_of, written_before}
use Rattle.flux_model.specs.Verdict as verdict
use Rattle.flux_model.specs.declared.limits.Limits.{Limits}
use Rattle.stream_lines.proofs.CallerLemmas.{whole-nil}
use Rattle.watch_cli.specs.CommandWords.{ReadsFiles, ReadsUpdates}
use Rattle.file_reading.specs.FileContents.{FileIs}
use Rattle.watch_cli.specs.RunEnds.{KnownOrSome, verdict_of, inputs, written_of, EndsAs, EndsBefore, EndsAtFault, RunEndsAs, RunEndsBefore, ReadFails, StatusWhere}
use Rattle.file_reading.specs.ReadingStops.{StopWhere}
use Rattle.file_reading.specs.declared.stop.Stop.{Stop}
use Rattle.file_reading.specs.declared.stop.Stop.TheVariants as stop
use Rattle.watch_cli.specs.EarlyEnds.{refusal_of, status_of, IsEarly}
use Rattle.watch_cli.specs.declared.status.InputFile.{InputFile}
use Rattle.watch_cli.specs.declared.status.InputFile.TheVariants as input
use Rattle.watch_cli.specs.declared.status.Status.{Status}
use Rattle.watch_cli.specs.declared.status.Status.TheVariants as status
use Rattle.watch_core.specs.Session.{WatchState, first_state}
use Rattle.watch_core.specs.SessionStates.{SessionState, watched}
use Rattle.watch_cli.specs.Kept.{after_bytes, StandsAfter, IsSessionOf, HasKept}
use Rattle.watch_cli.specs.declared.top.Kept.TheVariants as kept
use Rattle.watch_cli.proofs.ReportLemmas.{AppendsFront-nothing}
use Rattle.watch_cli.proofs.FollowLemmas.{KnownOrSome-map, KnownOrSome-any}

-- ---- what the files are accepted as

-- the words and the files come to this
abbrev pub Judged : Limits → Option Files → Option Shape → Result Accepted Verdict → Type 0
Judged limits files asked r = IfSome files (λ m. inputs limits m asked ≡ r)

-- `save` has one file, which is accepted
pub save-judged : (limits : Limits) (files : Option Files) (name : List ℕ) (g : Graph) → FileIs files name (graph_file limits) (Ok g) → Judged limits files (Some (Save name)) (Ok (Saved g))
save-judged limits None name g h = tt
save-judged limits (Some m) name g h = ap (result_and_then (λ g. Ok (Saved g))) h

-- or it is refused
pub save-refused : (limits : Limits) (files : Option Files) (name : List ℕ) (v : Verdict) → FileIs files name (graph_file limits) (Err v) → Judged limits files (Some (Save name)) (Err v)
save-refused limits None name v h = tt
save-refused limits (Some m) name v h = ap (result_and_then (λ g. Ok (Saved g))) h

-- `watch` and `match` have two files
module _ (made : Graph → List PatternGraph → Accepted) (shape : Shape) (graph patterns : List ℕ) where
  abbrev both : Result Graph Verdict → Result (List PatternGraph) Verdict → Result Accepted Verdict
  both r t = result_and_then (λ g. result_and_then (λ qs. Ok (made g qs)) t) r

  abbrev AreTheFiles : Limits → Type 0
  AreTheFiles limits = (m : Files) → inputs limits m (Some shape) ≡ both (graph_file limits (m graph)) (pattern_file limits (m patterns))

  -- both are accepted
  pub both-judged : (limits : Limits) (files files1 : Option Files) (g : Graph) (qs : List PatternGraph) → AreTheFiles limits → files1 ≡ files
      → FileIs files graph (graph_file limits) (Ok g) → FileIs files1 patterns (pattern_file limits) (Ok qs) → Judged limits files (Some shape) (Ok (made g qs))
  both-judged limits None files1 g qs are same h k = tt
  both-judged limits (Some m) files1 g qs are same h k =
      let p : pattern_file limits (m patterns) ≡ Ok qs = subst (λ (fs : Option Files). FileIs fs patterns (pattern_file limits) (Ok qs)) same k in
      are m ∙ ap (λ r. both r (pattern_file limits (m patterns))) h ∙ ap (both (Ok g)) p

  -- the graph file is refused
  pub graph-judged : (limits : Limits) (files : Option Files) (v : Verdict) → AreTheFiles limits → FileIs files graph (graph_file limits) (Err v) → Judged limits files (Some shape) (Err v)
  graph-judged limits None v are h = tt
  graph-judged limits (Some m) v are h = are m ∙ ap (λ r. both r (pattern_file limits (m patterns))) h

  -- the pattern file is refused
  pub patterns-judged : (limits : Limits) (files files1 : Option Files) (g : Graph) (v : Verdict) → AreTheFiles limits → files1 ≡ files
      → FileIs files graph (graph_file limits) (Ok g) → FileIs files1 patterns (pattern_file limits) (Err v) → Judged limits files (Some shape) (Err v)
  patterns-judged limits None files1 g v are same h k = tt
  patterns-judged limits (Some m) files1 g v are same h k =
      let p : pattern_file limits (m patterns) ≡ Err v = subst (λ (fs : Option Files). FileIs fs patterns (pattern_file limits) (Err v)) same k in
      are m ∙ ap (λ r. both r (pattern_file limits (m patterns))) h ∙ ap (both (Ok g)) p

-- `demo` has no file
pub demo-judged : (limits : Limits) (files : Option Files) (number : ℕ) → Judged limits files (Some (Demo number)) (Ok (Shown number))
demo-judged limits None number = tt
demo-judged limits (Some m) number = refl

-- ---- what is written by then

ending-is : (limits : Limits) (m : Files) (shape : Shape) (s : List ℕ) (r : Result Accepted Verdict) → inputs limits m (Some shape) ≡ r → ending_for limits m (Some shape) s ≡ ends_with (ending_with limits s) r
ending-is limits m shape s r e = ap (ends_with (ending_with limits s)) e

-- the run ends at its files, and nothing was written
pub run-stops : (limits : Limits) (files : Option Files) (shape : Shape) (left put : Option (List ℕ)) (v : Verdict) → Judged limits files (Some shape) (Err v) → RunEndsAs limits files (Some shape) left put put v
run-stops limits None shape left put v h = tt
run-stops limits (Some m) shape left put v h =
    KnownOrSome-any left (λ s. ((ending_for limits m (Some shape) s).verdict ≡ v) × Appends put put (ending_for limits m (Some shape) s).text)
    (λ s.
    let is = ending-is limits m shape s (Err v) h in
    (ap (λ (e : Ending). e.verdict) is, subst (Appends put put) (sym (ap (λ (e : Ending). e.text) is)) (Appends-nil put)))

-- nothing was written yet
pub run-before : (limits : Limits) (files : Option Files) (asked : Option Shape) (left put : Option (List ℕ)) → RunEndsBefore limits files asked left put put
run-before limits None asked left put = tt
run-before limits (Some m) asked left put =
    KnownOrSome-any left (λ s. AppendsFront put put (ending_for limits m asked s).text) (λ s. AppendsFront-nothing put (ending_for limits m asked s).text)

-- the run goes on over its files
pub run-ends : (limits : Limits) (files : Option Files) (shape : Shape) (left p0 p1 : Option (List ℕ)) (a : Accepted) (v : Verdict) → Judged limits files (Some shape) (Ok a)
    → EndsAs left (λ s. ending_with limits s a) p0 p1 v → RunEndsAs limits files (Some shape) left p0 p1 v
run-ends limits None shape left p0 p1 a v h e = tt
run-ends limits (Some m) shape left p0 p1 a v h e =
    KnownOrSome-map left (λ s. ((ending_with limits s a).verdict ≡ v) × Appends p0 p1 (ending_with limits s a).text)
    (λ s. ((ending_for limits m (Some shape) s).verdict ≡ v) × Appends p0 p1 (ending_for limits m (Some shape) s).text)
    (λ s so.
    let is = ending-is limits m shape s (Ok a) h in
    (ap (λ (e : Ending). e.verdict) is ∙ so.0, subst (Appends p0 p1) (sym (ap (λ (e : Ending). e.text) is)) so.1)) e

-- a front part of what is due was written
pub run-ends_before : (limits : Limits) (files : Option Files) (shape : Shape) (left p0 p1 : Option (List ℕ)) (a : Accepted) → Judged limits files (Some shape) (Ok a)
    → EndsBefore left (λ s. ending_with limits s a) p0 p1 → RunEndsBefore limits files (Some shape) left p0 p1
run-ends_before limits None shape left p0 p1 a h e = tt
run-ends_before limits (Some m) shape left p0 p1 a h e =
    KnownOrSome-map left (λ s. AppendsFront p0 p1 (ending_with limits s a).text) (λ s. AppendsFront p0 p1 (ending_for limits m (Some shape) s).text)
    (λ s so. subst (AppendsFront p0 p1) (sym (ap (λ (e : Ending). e.text) (ending-is limits m shape s (Ok a) h))) so) e

-- ---- why a read fails

written-nothing : (limits : Limits) (r : Result Accepted Verdict) → written_of limits r [] ≡ []
written-nothing limits (Ok (Watched g qs)) = ap (blocks_of limits g qs) (whole-nil limits.line_bytes)
written-nothing limits (Ok (Matched g qs)) = refl
written-nothing limits (Ok (Saved g)) = refl
written-nothing limits (Ok (Shown number)) = refl
written-nothing limits (Err v) = refl

-- the shelf's count rose
pub shelf-fails : (limits : Limits) (files : Option Files) (shape : Shape) (f0 f1 r0 r1 : ℕ) (left put : Option (List ℕ)) → ReadsFiles shape → Rose f0 f1
    → ReadFails limits files (Some shape) f0 f1 r0 r1 left left put put
shelf-fails limits files shape f0 f1 r0 r1 left put reads rose = record {
  cause = inl (reads, rose);
  accepted = λ not. absurd (not rose);
  written = by files;
}
  where
    by : (o : Option Files) → IfSome o (λ m. EndsAtFault left left (written_of limits (inputs limits m (Some shape))) put put)
    by None = tt
    by (Some m) = ([], Consumes-nil left, subst (Appends put put) (sym (written-nothing limits (inputs limits m (Some shape)))) (Appends-nil put))

-- that of the updates rose
pub updates-fail : (limits : Limits) (files : Option Files) (shape : Shape) (f0 f1 r0 r1 : ℕ) (l0 l1 p0 p1 : Option (List ℕ)) (a : Accepted) → Judged limits files (Some shape) (Ok a) → ReadsUpdates shape
    → Rose r0 r1 → EndsAtFault l0 l1 (written_before limits a) p0 p1 → ReadFails limits files (Some shape) f0 f1 r0 r1 l0 l1 p0 p1
updates-fail limits files shape f0 f1 r0 r1 l0 l1 p0 p1 a h reads rose fault = record {
  cause = inr (reads, rose);
  accepted = λ not. good files h;
  written = by files h;
}
  where
    good : (o : Option Files) → Judged limits o (Some shape) (Ok a) → IfSome o (λ m. IsOk (inputs limits m (Some shape)))
    good None h = tt
    good (Some m) h = rw h refl

    by : (o : Option Files) → Judged limits o (Some shape) (Ok a) → IfSome o (λ m. EndsAtFault l0 l1 (written_of limits (inputs limits m (Some shape))) p0 p1)
    by None h = tt
    by (Some m) h = (fault.0, fault.1, subst (Appends p0 p1) (sym (ap (λ r. written_of limits r fault.0) h)) fault.2)

-- ---- how the run ends early

-- the same for more that is so of a verdict, of a failed read and of a failed write
StatusWhere-map : (ends ends1 : Verdict → Type 0) (reads reads1 writes writes1 : Type 0) (s : Status) → ((v : Verdict) → ends v → ends1 v) → (reads → reads1) → (writes → writes1)
    → StatusWhere ends reads writes s → StatusWhere ends1 reads1 writes1 s
StatusWhere-map ends ends1 reads reads1 writes writes1 status.Memory e r w so = tt
StatusWhere-map ends ends1 reads reads1 writes writes1 status.ReadFault e r w so = r so
StatusWhere-map ends ends1 reads reads1 writes writes1 status.WriteFault e r w so = w so
StatusWhere-map ends ends1 reads reads1 writes writes1 status.Done e r w so = e verdict.Done so
StatusWhere-map ends ends1 reads reads1 writes writes1 status.Usage e r w so = e verdict.Usage so
StatusWhere-map ends ends1 reads reads1 writes writes1 status.NoFile e r w so = e verdict.NoFile so
StatusWhere-map ends ends1 reads reads1 writes writes1 status.TooMuch e r w so = e verdict.TooMuch so
StatusWhere-map ends ends1 reads reads1 writes writes1 (status.BadGraph line why) e r w so = e (verdict.BadGraph (record { line = line; code = why })) so
StatusWhere-map ends ends1 reads reads1 writes writes1 (status.BadPatterns line why) e r w so = e (verdict.BadPatterns (record { line = line; code = why })) so

-- a file ends it
pub file-ends : (limits : Limits) (files : Option Files) (shape : Shape) → ReadsFiles shape → (f0 f1 f2 r0 r1 : ℕ) (left put : Option (List ℕ)) (refuses : Verdict → Type 0) (writes : Type 0) (file : InputFile) (s : Stop)
    → ((v : Verdict) → refuses v → Judged limits files (Some shape) (Err v)) → f0 ≤ f1
    → StopWhere refuses (refusal_of file) (Rose f1 f2) s
    → StatusWhere (RunEndsAs limits files (Some shape) left put put) (ReadFails limits files (Some shape) f0 f2 r0 r1 left left put put) writes (status_of file s)
file-ends limits files shape reads f0 f1 f2 r0 r1 left put refuses writes file stop.Memory judged le so = tt
file-ends limits files shape reads f0 f1 f2 r0 r1 left put refuses writes file stop.Read judged le so = shelf-fails limits files shape f0 f2 r0 r1 left put reads (omega arith)
file-ends limits files shape reads f0 f1 f2 r0 r1 left put refuses writes file stop.NoFile judged le so = run-stops limits files shape left put verdict.NoFile (judged verdict.NoFile so)
file-ends limits files shape reads f0 f1 f2 r0 r1 left put refuses writes file stop.TooMuch judged le so = run-stops limits files shape left put verdict.TooMuch (judged verdict.TooMuch so)
file-ends limits files shape reads f0 f1 f2 r0 r1 left put refuses writes input.Graph (stop.Bad bad) judged le so = run-stops limits files shape left put (verdict.BadGraph bad) (judged (verdict.BadGraph bad) so)
file-ends limits files shape reads f0 f1 f2 r0 r1 left put refuses writes input.Patterns (stop.Bad bad) judged le so = run-stops limits files shape left put (verdict.BadPatterns bad) (judged (verdict.BadPatterns bad) so)

-- following the updates ends it
pub follow-ends : (limits : Limits) (files : Option Files) (shape : Shape) (f0 f1 r0 r1 w0 w1 : ℕ) (l0 l1 p0 p1 : Option (List ℕ)) (a : Accepted) (s : Status) → Judged limits files (Some shape) (Ok a) → ReadsUpdates shape
    → StatusWhere (EndsAs l0 (λ b. ending_with limits b a) p0 p1) (Rose r0 r1 × EndsAtFault l0 l1 (written_before limits a) p0 p1) (Rose w0 w1) s
    → StatusWhere (RunEndsAs limits files (Some shape) l0 p0 p1) (ReadFails limits files (Some shape) f0 f1 r0 r1 l0 l1 p0 p1) (Rose w0 w1) s
follow-ends limits files shape f0 f1 r0 r1 w0 w1 l0 l1 p0 p1 a s judged reads so =
    StatusWhere-map (EndsAs l0 (λ b. ending_with limits b a) p0 p1) (RunEndsAs limits files (Some shape) l0 p0 p1)
    (Rose r0 r1 × EndsAtFault l0 l1 (written_before limits a) p0 p1) (ReadFails limits files (Some shape) f0 f1 r0 r1 l0 l1 p0 p1) (Rose w0 w1) (Rose w0 w1) s
    (λ v e. run-ends limits files shape l0 p0 p1 a v judged e) (λ e. updates-fail limits files shape f0 f1 r0 r1 l0 l1 p0 p1 a judged reads e.0 e.1) (λ e. e) so

-- putting a text ends it
pub put-ends : (limits : Limits) (files : Option Files) (shape : Shape) (reads : Type 0) (w0 w1 : ℕ) (left p0 p1 : Option (List ℕ)) (s : Status) → StatusWhere (λ v. ⊥) ⊥ (Rose w0 w1) s
    → StatusWhere (RunEndsAs limits files (Some shape) left p0 p1) reads (Rose w0 w1) s
put-ends limits files shape reads w0 w1 left p0 p1 s so =
    StatusWhere-map (λ v. ⊥) (RunEndsAs limits files (Some shape) left p0 p1) ⊥ reads (Rose w0 w1) (Rose w0 w1) s (λ v never. absurd never) (λ never. absurd never) (λ e. e) so

-- words that have a shape are no wrong words
pub early-usage : (s : Status) (asked : Option Shape) (shape : Shape) → IsEarly s → asked ≡ Some shape → (s ≡ status.Usage) ↔ (asked ≡ None)
early-usage s asked shape early is = (λ usage. absurd (subst IsEarly usage early), λ none. cc)

-- a run that ended early is not done
pub early-done : (s : Status) (P : Type 0) → IsEarly s → s ≡ status.Done → P
early-done s P early done = absurd (subst IsEarly done early)

-- so it hands nothing back
pub early-kept : (limits : Limits) (files : Option Files) (asked : Option Shape) (left : Option (List ℕ)) (s : Status) → IsEarly s → HasKept limits files asked left s kept.Nothing
early-kept limits files asked left s early = λ so. absurd (subst IsEarly so.done early)

-- the session of a watch that took all lines
pub session-stands : (limits : Limits) (files : Option Files) (shape : Shape) (left : Option (List ℕ)) (g : Graph) (qs : List PatternGraph) (first : WatchState) (session : SessionState)
    → Judged limits files (Some shape) (Ok (Watched g qs)) → first ≡ first_state limits g qs → session.is_broken ≡ false
    → KnownOrSome left (λ s. watched session ≡ after_bytes limits first s) → IsSessionOf limits files (Some shape) left session
session-stands limits files shape left g qs first session judged is whole after = record { whole = whole; after = by files judged }
  where
    by : (f : Option Files) → Judged limits f (Some shape) (Ok (Watched g qs)) → IfSome f (λ m. KnownOrSome left (λ s. StandsAfter limits (inputs limits m (Some shape)) s (watched session)))
    by None j = tt
    by (Some m) j =
        KnownOrSome-map left (λ s. watched session ≡ after_bytes limits first s) (λ s. StandsAfter limits (inputs limits m (Some shape)) s (watched session))
        (λ s so. subst (λ r. StandsAfter limits r s (watched session)) (sym j) (so ∙ ap (λ f. after_bytes limits f s) is)) after

-- a text that is due whatever the updates are
pub text-put : (left : Option (List ℕ)) (ending : List ℕ → Ending) (text : List ℕ) (p0 p1 : Option (List ℕ)) → ((s : List ℕ) → ending s ≡ record { verdict = verdict.Done; text = text }) → Appends p0 p1 text → EndsAs left ending p0 p1 verdict.Done
text-put left ending text p0 p1 is put =
    KnownOrSome-any left (λ s. ((ending s).verdict ≡ verdict.Done) × Appends p0 p1 (ending s).text)
    (λ s. (ap (λ (e : Ending). e.verdict) (is s), subst (Appends p0 p1) (sym (ap (λ (e : Ending). e.text) (is s))) put))

-- a front part of it was put
pub text-front : (left : Option (List ℕ)) (ending : List ℕ → Ending) (text : List ℕ) (p0 p1 : Option (List ℕ)) → ((s : List ℕ) → ending s ≡ record { verdict = verdict.Done; text = text }) → AppendsFront p0 p1 text → EndsBefore left ending p0 p1
text-front left ending text p0 p1 is front =
    KnownOrSome-any left (λ s. AppendsFront p0 p1 (ending s).text) (λ s. subst (AppendsFront p0 p1) (sym (ap (λ (e : Ending). e.text) (is s))) front)

-- ---- the status

-- a status that tells a verdict
pub status-verdict : (ends : Verdict → Type 0) (reads writes : Type 0) (s : Status) → StatusWhere ends reads writes s → IfSome (verdict_of s) ends
status-verdict ends reads writes status.Memory so = tt
status-verdict ends reads writes status.ReadFault so = tt
status-verdict ends reads writes status.WriteFault so = tt
status-verdict ends reads writes status.Done so = so
status-verdict ends reads writes status.Usage so = so
status-verdict ends reads writes status.NoFile so = so
status-verdict ends reads writes status.TooMuch so = so
status-verdict ends reads writes (status.BadGraph line why) so = so
status-verdict ends reads writes (status.BadPatterns line why) so = so

-- a failed read
pub status-reads : (ends : Verdict → Type 0) (reads writes : Type 0) (s : Status) → StatusWhere ends reads writes s → s ≡ status.ReadFault → reads
status-reads ends reads writes s so is = subst (StatusWhere ends reads writes) is so

-- a failed write
pub status-writes : (ends : Verdict → Type 0) (reads writes : Type 0) (s : Status) → StatusWhere ends reads writes s → s ≡ status.WriteFault → writes
status-writes ends reads writes s so is = subst (StatusWhere ends reads writes) is so

-- where no count rose, the run ended with the verdict or for want of memory
pub status-complete : (limits : Limits) (files : Option Files) (asked : Option Shape) (left p0 p1 : Option (List ℕ)) (reads writes rose : Type 0) (s : Status) → (reads → rose)
    → StatusWhere (RunEndsAs limits files asked left p0 p1) reads writes s
    → IfSome files (λ m. KnownOrSome left (λ b. ¬ rose → ¬ writes → (verdict_of s ≡ Some (ending_for limits m asked b).verdict) ⊎ (s ≡ status.Memory)))
status-complete limits None asked left p0 p1 reads writes rose s cause so = tt
status-complete limits (Some m) asked left p0 p1 reads writes rose s cause so = by s so
  where
    Complete : Status → List ℕ → Type 0
    Complete s b = ¬ rose → ¬ writes → (verdict_of s ≡ Some (ending_for limits m asked b).verdict) ⊎ (s ≡ status.Memory)

    told : (s : Status) (v : Verdict) → verdict_of s ≡ Some v → EndsAs left (ending_for limits m asked) p0 p1 v → KnownOrSome left (Complete s)
    told s v is e =
        KnownOrSome-map left (λ b. ((ending_for limits m asked b).verdict ≡ v) × Appends p0 p1 (ending_for limits m asked b).text) (Complete s) (λ b so not_read not_written. inl (is ∙ ap Some (sym so.0))) e

    by : (s : Status) → StatusWhere (RunEndsAs limits (Some m) asked left p0 p1) reads writes s → KnownOrSome left (Complete s)
    by status.Memory so = KnownOrSome-any left (Complete status.Memory) (λ b not_read not_written. inr refl)
    by status.ReadFault so = KnownOrSome-any left (Complete status.ReadFault) (λ b not_read not_written. absurd (not_read (cause so)))
    by status.WriteFault so = KnownOrSome-any left (Complete status.WriteFault) (λ b not_read not_written. absurd (not_written so))
    by status.Done so = told status.Done verdict.Done refl so
    by status.Usage so = told status.Usage verdict.Usage refl so
    by status.NoFile so = told status.NoFile verdict.NoFile refl so
    by status.TooMuch so = told status.TooMuch verdict.TooMuch refl so
    by (status.BadGraph line why) so = told (status.BadGraph line why) (verdict.BadGraph (record { line = line; code = why })) refl so
    by (status.BadPatterns line why) so = told (status.BadPatterns line why) (verdict.BadPatterns (record { line = line; code = why })) refl so
