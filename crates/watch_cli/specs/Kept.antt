-- What a run hands back.
use Rattle.std.specs.Prelude.{◌≡◌, ℕ, false, List, Option, Result, Ok, Err, IfSome, MatchOption}
use Rattle.flux_model.specs.Lines.{lines}
use Rattle.flux_model.specs.Verdict.{Shape, Verdict, Accepted, Watched, Matched, Saved, Shown}
use Rattle.flux_model.specs.declared.limits.Limits.{Limits}
use Rattle.flux_outside.specs.Told.{Files}
use Rattle.watch_core.specs.Session.{WatchState, first_state, said_by, after_all}
use Rattle.watch_core.specs.SessionStates.{SessionState, watched}
use Rattle.watch_cli.specs.CommandWords.{ReadsUpdates}
use Rattle.watch_cli.specs.RunEnds.{KnownOrSome, inputs}
use Rattle.watch_cli.specs.declared.status.Status.{Status}
use Rattle.watch_cli.specs.declared.status.Status.TheVariants.{Done}
use Rattle.watch_cli.specs.declared.top.Kept.{Kept}
use Rattle.watch_cli.specs.declared.top.Kept.TheVariants.{Nothing, Watch}

-- what a session is after all lines of these bytes of the updates
abbrev pub after_bytes : Limits → WatchState → List ℕ → WatchState
after_bytes limits first s = after_all first (said_by (lines limits.line_bytes s))

-- so it stands, where the files are accepted as a graph and patterns to watch
abbrev pub StandsAfter : Limits → Result Accepted Verdict → List ℕ → WatchState → Type 0
StandsAfter limits (Ok (Watched g qs)) s now = now ≡ after_bytes limits (first_state limits g qs) s
StandsAfter limits (Ok (Matched g qs)) s now = ⊥
StandsAfter limits (Ok (Saved g)) s now = ⊥
StandsAfter limits (Ok (Shown number)) s now = ⊥
StandsAfter limits (Err verdict) s now = ⊥

-- the session of the files that the words name, after all lines of the updates
pub record IsSessionOf (limits : Limits) (files : Option Files) (asked : Option Shape) (left : Option (List ℕ)) (session : SessionState) : Type 0 where
  pub whole : session.is_broken ≡ false
  pub after : IfSome files (λ m. KnownOrSome left (λ s. StandsAfter limits (inputs limits m asked) s (watched session)))

-- a watch that took all lines of the updates
pub record IsWatchDone (asked : Option Shape) (status : Status) : Type 0 where
  pub done : status ≡ Done
  pub watch : MatchOption asked ⊥ ReadsUpdates

-- such a run hands back its session, and every other run nothing
abbrev pub HasKept : Limits → Option Files → Option Shape → Option (List ℕ) → Status → Kept → Type 0
HasKept limits files asked left status Nothing = ¬ IsWatchDone asked status
HasKept limits files asked left status (Watch session) = IsWatchDone asked status × IsSessionOf limits files asked left session
