-- What a watch without patterns comes to.
use Rattle.std.proofs.Common.{◌≡◌, ◌≢◌, ◌⊎◌, ℕ, Bool, true, false, cond, nat_lt, List, [], ◌∷◌, length, take, Option, None, Some, Result, Ok, Err, refl, sym, ap, ◌∙◌, subst, ◌↔◌, arith, IfSome, MatchOption, inl, inr}
use Rattle.std.proofs.lemmas.Bool.Decides.{nat_tests}
use Rattle.std.proofs.lemmas.Slice.Eq.{bytes_eq-Decides}
use Rattle.std.specs.Option.{option_map}
use Rattle.std.specs.Io.KnownBytes.{Appends}
use Rattle.flux_outside.specs.Causes.{Rose}
use Rattle.flux_outside.proofs.Places.{apart}
use Rattle.flux_model.specs.FileReading.{result_and_then}
use Rattle.flux_model.specs.Graph.{Graph}
use Rattle.flux_model.specs.GraphText.{graph_text}
use Rattle.flux_model.specs.Lines.{whole}
use Rattle.flux_model.specs.Report.{watch_text}
use Rattle.flux_model.specs.Verdict.{Files, Verdict, Watch, Watched, Ending, Accepted, shape_of, graph_file, pattern_file, accepted, blocks_of, ending_for, ending_with, ends_with, verdict, due}
use Rattle.flux_model.specs.Verdict as verdict
use Rattle.flux_model.specs.declared.limits.Limits.{Limits}
use Rattle.flux_model.specs.declared.said.Said.{Said}
use Rattle.flux_model.specs.declared.graph.Update.{Update}
use Rattle.flux_laws.specs.ReportsLaws.{updates_in, graph_after_all}
use Rattle.watch_core.specs.Session.{WatchState, first_state, after_said, after_all}
use Rattle.watch_core.specs.SessionStates.{SessionState, watched}
use Rattle.watch_cli.specs.CommandWords.{ReadsUpdates}
use Rattle.watch_cli.specs.Kept.{StandsAfter, IsSessionOf, IsWatchDone, HasKept}
use Rattle.watch_cli.specs.declared.top.Kept.{Kept}
use Rattle.watch_cli.specs.declared.top.Kept.TheVariants as kept
use Rattle.watch_cli.specs.RunEnds.{KnownOrSome, inputs, verdict_of, OneRose, StatusWhere}
use Rattle.watch_cli.specs.EarlyEnds.{IsEarly}
use Rattle.watch_cli.specs.declared.status.Status.{Status}
use Rattle.watch_cli.specs.declared.status.Status.TheVariants as status
use Rattle.graph_checkpoint.specs.Checkpoint.{checkpoint_over, OfDue}
use Rattle.graph_checkpoint.specs.OneFile.{with_empty}

-- ---- the files

-- a file without bytes has no pattern
no_patterns : (limits : Limits) → pattern_file limits (Some []) ≡ Ok []
no_patterns limits =
    let short : nat_lt limits.input_bytes 0 ≡ false = grind (arith, nat_tests) in
    rw short refl

-- the shelf's own file is empty
is_there : (name : List ℕ) (m : Files) → with_empty name m name ≡ Some []
is_there name m =
    rw ((bytes_eq-Decides name name).1 refl) refl

-- and every other file is as it was
is_other : (name other : List ℕ) (m : Files) → other ≢ name → with_empty name m other ≡ m other
is_other name other m differ =
    rw (apart other name differ) refl

-- so they are accepted where the graph file is
abbrev no_patterns_watched : Result Graph Verdict → Result Accepted Verdict
no_patterns_watched (Ok g) = Ok (Watched g [])
no_patterns_watched (Err v) = Err v

are_accepted : (limits : Limits) (m : Files) (graph patterns : List ℕ) → graph ≢ patterns
    → accepted limits (with_empty patterns m) (Watch graph patterns) ≡ no_patterns_watched (graph_file limits (m graph))
are_accepted limits m graph patterns differ =
    rw (is_other patterns graph m differ, is_there patterns m, no_patterns limits) (by (graph_file limits (m graph)))
  where
    by : (r : Result Graph Verdict) → result_and_then (λ g. result_and_then (λ qs. Ok (Watched g qs)) (Ok [])) r ≡ no_patterns_watched r
    by (Ok g) = refl
    by (Err v) = refl

-- ---- the graph

-- of what is kept between lines, the graph is the graph after the lines
graph_after : (s : WatchState) (saids : List (Said Update)) → (after_all s saids).graph ≡ graph_after_all s.limits s.graph saids
graph_after s [] = refl
graph_after s (said ∷ saids) = graph_after (after_said s said) saids

-- ---- how the watch ends, and how the checkpoint is due to

-- the endings of a watch without patterns and of a checkpoint, by whether the updates are too long
abbrev watch_ending : Limits → List ℕ → Graph → Bool → Ending
watch_ending limits s g long =
    cond long (record { verdict = verdict.TooMuch; text = blocks_of limits g [] (whole limits.line_bytes (take limits.input_bytes s)) })
    (record { verdict = verdict.Done; text = watch_text limits g [] (updates_in limits s) })

abbrev made : List ℕ → Ending
made text = record { verdict = verdict.Done; text = text }

abbrev ended : Verdict → Ending
ended v = record { verdict = v; text = [] }

abbrev graph_ending : Limits → List ℕ → Graph → Bool → Ending
graph_ending limits s g long = cond long (ended verdict.TooMuch) (made (graph_text (graph_after_all limits g (updates_in limits s))))

-- a watch that took all lines stands at the graph that is due
stands_over : (limits : Limits) (s : List ℕ) (r : Result Graph Verdict) (session : SessionState)
    → StandsAfter limits (no_patterns_watched r) s (watched session) → (ends_with (ending_with limits s) (no_patterns_watched r)).verdict ≡ verdict.Done
    → checkpoint_over limits s r ≡ made (graph_text session.graph)
stands_over limits s (Err v) session stands done = absurd stands
stands_over limits s (Ok g) session stands done = by (nat_lt limits.input_bytes (length s)) done
  where
    is : graph_after_all limits g (updates_in limits s) ≡ session.graph
    is = sym (ap (λ (w : WatchState). w.graph) stands ∙ graph_after (first_state limits g []) (updates_in limits s))

    by : (long : Bool) → (watch_ending limits s g long).verdict ≡ verdict.Done → graph_ending limits s g long ≡ made (graph_text session.graph)
    by true e = cc
    by false e = ap (λ h. made (graph_text h)) is

-- one that ended otherwise ends as is due, and then no text is
ends_over : (limits : Limits) (s : List ℕ) (r : Result Graph Verdict) (v : Verdict) → v ≢ verdict.Done
    → (ends_with (ending_with limits s) (no_patterns_watched r)).verdict ≡ v → checkpoint_over limits s r ≡ ended v
ends_over limits s (Err w) v other ends = ap ended ends
ends_over limits s (Ok g) v other ends = by (nat_lt limits.input_bytes (length s)) ends
  where
    by : (long : Bool) → (watch_ending limits s g long).verdict ≡ v → graph_ending limits s g long ≡ ended v
    by true e = ap ended e
    by false e = absurd (other (sym e))

module _ (limits : Limits) (graph patterns : List ℕ) (words : List (List ℕ)) where
  abbrev pub AreTheWords : Type 0
  AreTheWords = shape_of words ≡ Some (Watch graph patterns)

  abbrev pub overlaid : Option Files → Option Files
  overlaid files = option_map (with_empty patterns) files

  -- what a run with these words says of its verdict
  abbrev pub EndsWith : Option Files → (left p0 p1 : Option (List ℕ)) → Verdict → Type 0
  EndsWith files left p0 p1 v =
      IfSome (overlaid files) (λ m. KnownOrSome left (λ s. (verdict limits m words s ≡ v) × Appends p0 p1 (due limits m words s)))

  abbrev pub IsDue : Option Files → Option (List ℕ) → Verdict → List ℕ → Type 0
  IsDue files left v text = OfDue limits files left (Some graph) (λ due. due ≡ record { verdict = v; text = text })

  inputs_are : (m : Files) → AreTheWords → graph ≢ patterns
      → inputs limits (with_empty patterns m) (shape_of words) ≡ no_patterns_watched (graph_file limits (m graph))
  inputs_are m are differ = ap (inputs limits (with_empty patterns m)) are ∙ are_accepted limits m graph patterns differ

  -- the verdict of the run, by the graph file alone
  verdict_is : (m : Files) (s : List ℕ) → AreTheWords → graph ≢ patterns
      → verdict limits (with_empty patterns m) words s ≡ (ends_with (ending_with limits s) (no_patterns_watched (graph_file limits (m graph)))).verdict
  verdict_is m s are differ =
      ap (λ asked. (ending_for limits (with_empty patterns m) asked s).verdict) are
      ∙ ap (λ r. (ends_with (ending_with limits s) r).verdict) (are_accepted limits m graph patterns differ)

  -- a watch that is done stands at the graph that is due
  session_due : (files : Option Files) (left p0 p1 : Option (List ℕ)) (session : SessionState) → AreTheWords → graph ≢ patterns
      → EndsWith files left p0 p1 verdict.Done → IsSessionOf limits (overlaid files) (shape_of words) left session
      → IsDue files left verdict.Done (graph_text session.graph)
  session_due files left p0 p1 session are differ ends of = by files left ends of.after
    where
      by : (f : Option Files) (l : Option (List ℕ)) → EndsWith f l p0 p1 verdict.Done
          → IfSome (overlaid f) (λ m. KnownOrSome l (λ s. StandsAfter limits (inputs limits m (shape_of words)) s (watched session)))
          → IsDue f l verdict.Done (graph_text session.graph)
      by None l e a = tt
      by (Some m) None e a = tt
      by (Some m) (Some s) e a =
          stands_over limits s (graph_file limits (m graph)) session
          (subst (λ r. StandsAfter limits r s (watched session)) (inputs_are m are differ) a) (sym (verdict_is m s are differ) ∙ e.0)

  -- a watch that ended with another verdict ends as is due
  verdict_due : (files : Option Files) (left p0 p1 : Option (List ℕ)) (v : Verdict) → v ≢ verdict.Done → AreTheWords → graph ≢ patterns
      → EndsWith files left p0 p1 v → IsDue files left v []
  verdict_due None left p0 p1 v other are differ ends = tt
  verdict_due (Some m) None p0 p1 v other are differ ends = tt
  verdict_due (Some m) (Some s) p0 p1 v other are differ ends =
      ends_over limits s (graph_file limits (m graph)) v other (sym (verdict_is m s are differ) ∙ ends.0)

  -- what fails where a read does
  cause_of : (f0 f1 r0 r1 : ℕ) → AreTheWords → OneRose (shape_of words) f0 f1 r0 r1 → Rose f0 f1 ⊎ Rose r0 r1
  cause_of f0 f1 r0 r1 are rose = by (subst (λ asked. OneRose asked f0 f1 r0 r1) are rose)
    where
      by : OneRose (Some (Watch graph patterns)) f0 f1 r0 r1 → Rose f0 f1 ⊎ Rose r0 r1
      by (inl shelf) = inl shelf.1
      by (inr updates) = inr updates.1

  -- nothing rises where nothing is counted
  none_rose : (P : Type 0) → Rose 0 0 → P
  none_rose P rose = absurd (omega (arith, rose))

  -- a watch that hands nothing back
  status_due : (files : Option Files) (left p0 p1 : Option (List ℕ)) (f0 f1 r0 r1 : ℕ) (s : Status) → AreTheWords → graph ≢ patterns
      → (s ≢ status.Usage) → (s ≢ status.Done) → IfSome (verdict_of s) (λ v. EndsWith files left p0 p1 v)
      → (s ≡ status.ReadFault → OneRose (shape_of words) f0 f1 r0 r1) → (s ≡ status.WriteFault → Rose 0 0)
      → StatusWhere (λ v. IsDue files left v []) (Rose f0 f1 ⊎ Rose r0 r1) ⊥ s
  status_due files left p0 p1 f0 f1 r0 r1 status.Memory are differ used done ends reads writes = tt
  status_due files left p0 p1 f0 f1 r0 r1 status.ReadFault are differ used done ends reads writes = cause_of f0 f1 r0 r1 are (reads refl)
  status_due files left p0 p1 f0 f1 r0 r1 status.WriteFault are differ used done ends reads writes = none_rose ⊥ (writes refl)
  status_due files left p0 p1 f0 f1 r0 r1 status.Done are differ used done ends reads writes = absurd (done refl)
  status_due files left p0 p1 f0 f1 r0 r1 status.Usage are differ used done ends reads writes = absurd (used refl)
  status_due files left p0 p1 f0 f1 r0 r1 status.NoFile are differ used done ends reads writes = verdict_due files left p0 p1 verdict.NoFile (λ e. cc) are differ ends
  status_due files left p0 p1 f0 f1 r0 r1 status.TooMuch are differ used done ends reads writes = verdict_due files left p0 p1 verdict.TooMuch (λ e. cc) are differ ends
  status_due files left p0 p1 f0 f1 r0 r1 (status.BadGraph line why) are differ used done ends reads writes =
      verdict_due files left p0 p1 (verdict.BadGraph (record { line = line; code = why })) (λ e. cc) are differ ends
  status_due files left p0 p1 f0 f1 r0 r1 (status.BadPatterns line why) are differ used done ends reads writes =
      verdict_due files left p0 p1 (verdict.BadPatterns (record { line = line; code = why })) (λ e. cc) are differ ends

-- a status that is neither of these is early
is_early : (s : Status) → s ≢ status.Usage → s ≢ status.Done → IsEarly s
is_early status.Memory used done = tt
is_early status.ReadFault used done = tt
is_early status.WriteFault used done = tt
is_early status.Done used done = absurd (done refl)
is_early status.Usage used done = absurd (used refl)
is_early status.NoFile used done = tt
is_early status.TooMuch used done = tt
is_early (status.BadGraph line why) used done = tt
is_early (status.BadPatterns line why) used done = tt

module _ (limits : Limits) (files : Option Files) (left : Option (List ℕ)) (graph patterns : List ℕ) (words : List (List ℕ))
    (s : Status) (k : Kept) (are : shape_of words ≡ Some (Watch graph patterns)) (differ : graph ≢ patterns)
    (ends : IfSome (verdict_of s) (λ v. EndsWith limits graph patterns words files left None None v))
    (keeps : HasKept limits (overlaid limits graph patterns words files) (shape_of words) left s k) where
  -- a watch that hands its session back
  pub kept_due : (session : SessionState) → k ≡ kept.Watch session → IsDue limits graph patterns words files left verdict.Done (graph_text session.graph)
  kept_due session is =
      let has : HasKept limits (overlaid limits graph patterns words files) (shape_of words) left s (kept.Watch session) =
      subst (HasKept limits (overlaid limits graph patterns words files) (shape_of words) left s) is keeps in
      session_due limits graph patterns words files left None None session are differ
      (subst (λ t. IfSome (verdict_of t) (λ v. EndsWith limits graph patterns words files left None None v)) has.0.done ends) has.1

  -- a watch that hands nothing back
  not_done : k ≡ kept.Nothing → s ≢ status.Done
  not_done is done =
      let none : ¬ IsWatchDone (shape_of words) s = subst (HasKept limits (overlaid limits graph patterns words files) (shape_of words) left s) is keeps in
      none (record { done = done; watch = subst (λ asked. MatchOption asked ⊥ ReadsUpdates) (sym are) tt })

  pub nothing_due : (f0 f1 r0 r1 : ℕ) → k ≡ kept.Nothing → (s ≡ status.Usage) ↔ (shape_of words ≡ None)
      → (s ≡ status.ReadFault → OneRose (shape_of words) f0 f1 r0 r1) → (s ≡ status.WriteFault → Rose 0 0)
      → StatusWhere (λ v. IsDue limits graph patterns words files left v []) (Rose f0 f1 ⊎ Rose r0 r1) ⊥ s × IsEarly s
  nothing_due f0 f1 r0 r1 is usage reads writes =
      let used : s ≢ status.Usage = λ u. no_shape (usage.0 u) in
      (status_due limits graph patterns words files left None None f0 f1 r0 r1 s are differ used (not_done is) ends reads writes, is_early s used (not_done is))
    where
      no_shape : shape_of words ≡ None → ⊥
      no_shape none = cc
