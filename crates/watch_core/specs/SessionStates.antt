-- What a contract sees of a session, and what a session keeps.
use Rattle.std.specs.Prelude.{◌≡◌, ◌≤◌, ℕ, Bool, false}
use Rattle.flux_model.specs.Graph.{Graph}
use Rattle.flux_model.specs.declared.limits.Limits.{Limits}
use Rattle.pattern_registry.specs.States.{PatternStates, AreExact}
use Rattle.watch_core.specs.Session.{WatchState}

-- the graph as it stands, under its limits; the patterns with what is kept of each; how many lines there were, of which so many changed
-- the graph and so many were refused; and whether a line stopped in its midst
pub record SessionState : Type 0 where
  pub limits : Limits
  pub graph : Graph
  pub registry : PatternStates
  pub lines : ℕ
  pub accepted : ℕ
  pub refused : ℕ
  pub is_broken : Bool

abbrev pub session_state : Limits → Graph → PatternStates → ℕ → ℕ → ℕ → Bool → SessionState
session_state limits g registry lines accepted refused broken =
    record { limits = limits; graph = g; registry = registry; lines = lines; accepted = accepted; refused = refused; is_broken = broken }

-- without what is kept of the patterns
abbrev pub watched : SessionState → WatchState
watched s = record { limits = s.limits; graph = s.graph; patterns = s.registry.patterns; lines = s.lines; accepted = s.accepted; refused = s.refused }

-- while the session is not broken, the rows of each pattern are exact over its graph
pub record IsSession (s : SessionState) : Type 0 where
  pub exact : s.is_broken ≡ false → AreExact s.registry s.graph
  pub accepted : s.accepted ≤ s.lines
  pub refused : s.refused ≤ s.lines
