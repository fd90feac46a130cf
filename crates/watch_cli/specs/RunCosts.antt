-- What a run may cost in steps: the starts of its patterns, and then the lines of the updates or the search for the answers.
use Rattle.std.specs.Prelude.{◌≤◌, ℕ, ◌+◌, List, [], ◌∷◌, Option, Result, Ok, Err, IfSome, ⊤}
use Rattle.std.specs.List.{sum_by, zip}
use Rattle.flux_outside.specs.Told.{Files}
use Rattle.flux_model.specs.Costs.{start_cost, line_cost}
use Rattle.flux_model.specs.Graph.{Graph}
use Rattle.flux_model.specs.Lines.{lines}
use Rattle.flux_model.specs.Pattern.{PatternGraph}
use Rattle.flux_model.specs.Report.{next_graph}
use Rattle.flux_model.specs.Tree.{QueryTree}
use Rattle.flux_model.specs.Verdict.{Shape, Verdict, Accepted, Watched, Matched, Saved, Shown}
use Rattle.flux_model.specs.declared.said.Said.{Said}
use Rattle.flux_model.specs.declared.graph.Update.{Update}
use Rattle.flux_model.specs.declared.limits.Limits.{Limits}
use Rattle.pattern_registry.specs.AnswerCosts.{MeetNoDeadEnd, no_dead_end_costs}
use Rattle.pattern_registry.specs.States.{trees_over}
use Rattle.watch_core.specs.Session.{WatchState, said_by}
use Rattle.watch_cli.specs.RunEnds.{KnownOrSome, inputs}

-- lines of the updates, one after another; each pattern with its tree
abbrev pub lines_cost : Limits → List (PatternGraph × QueryTree) → Graph → List (Said Update) → ℕ
lines_cost limits patterns g [] = 0
lines_cost limits patterns g (said ∷ saids) = line_cost limits patterns g said + lines_cost limits patterns (next_graph limits g said) saids

-- the next line of a session, by the trees of its patterns
abbrev pub next_cost : WatchState → List QueryTree → Said Update → ℕ
next_cost s trees said = line_cost s.limits (zip s.patterns trees) s.graph said

-- its next lines
abbrev pub next_costs : WatchState → List QueryTree → List (Said Update) → ℕ
next_costs s trees saids = lines_cost s.limits (zip s.patterns trees) s.graph saids

-- the starts of patterns
abbrev pub starts_cost : Graph → List PatternGraph → ℕ
starts_cost g patterns = sum_by (λ q. start_cost q g) patterns

-- a run over what its files are accepted as, and these bytes of the updates, goes from one number of steps to the other
abbrev pub StaysWithin : Limits → Result Accepted Verdict → List ℕ → (old new : ℕ) → Type 0
StaysWithin limits (Ok (Watched g patterns)) s old new =
    new ≤ old + starts_cost g patterns + lines_cost limits (zip patterns (trees_over g patterns)) g (said_by (lines limits.line_bytes s))
StaysWithin limits (Ok (Matched g patterns)) s old new =
    MeetNoDeadEnd patterns (trees_over g patterns) → new ≤ old + starts_cost g patterns + no_dead_end_costs g patterns (trees_over g patterns)
StaysWithin limits (Ok (Saved g)) s old new = ⊤
StaysWithin limits (Ok (Shown number)) s old new = ⊤
StaysWithin limits (Err verdict) s old new = ⊤

-- the same where the files are told
abbrev pub RunStaysWithin : Limits → Option Files → Option Shape → Option (List ℕ) → (old new : ℕ) → Type 0
RunStaysWithin limits files asked left old new = IfSome files (λ m. KnownOrSome left (λ s. StaysWithin limits (inputs limits m asked) s old new))
