-- What is kept between the lines of the updates.
use Rattle.std.specs.Prelude.{ℕ, ◌+◌, Bool, List, [], ◌∷◌, ◌++◌, map, if◌then◌else◌}
use Rattle.flux_model.specs.Lines.{InputLine}
use Rattle.flux_model.specs.Reading.{update_reading}
use Rattle.flux_model.specs.Graph.{Graph}
use Rattle.flux_model.specs.Pattern.{PatternGraph}
use Rattle.flux_model.specs.Report.{Outcome, outcome, graph_after, is_accepted, is_refused, block, blocks, end_line}
use Rattle.flux_model.specs.declared.said.Said.{Said}
use Rattle.flux_model.specs.declared.graph.Update.{Update}
use Rattle.flux_model.specs.declared.limits.Limits.{Limits}

-- the graph as it stands, under its limits; the patterns; and how many lines there were, of which so many changed the graph and so many
-- were refused
pub record WatchState : Type 0 where
  pub limits : Limits
  pub graph : Graph
  pub patterns : List PatternGraph
  pub lines : ℕ
  pub accepted : ℕ
  pub refused : ℕ

-- before the first line
abbrev pub first_state : Limits → Graph → List PatternGraph → WatchState
first_state limits g patterns = record { limits = limits; graph = g; patterns = patterns; lines = 0; accepted = 0; refused = 0 }

-- what the lines say
abbrev pub said_by : List InputLine → List (Said Update)
said_by lines = map update_reading lines

-- one more, where it is so
abbrev pub counted : Bool → ℕ → ℕ
counted b n = if b then n + 1 else n

-- after a line that came to this
abbrev pub after_outcome : WatchState → Outcome → WatchState
after_outcome s o = record s {
  graph = graph_after s.graph o;
  lines = s.lines + 1;
  accepted = counted (is_accepted o) s.accepted;
  refused = counted (is_refused o) s.refused;
}

-- after a line
abbrev pub after_said : WatchState → Said Update → WatchState
after_said s said = after_outcome s (outcome s.limits s.graph said)

-- after all of them
abbrev pub after_all : WatchState → List (Said Update) → WatchState
after_all s [] = s
after_all s (said ∷ saids) = after_all (after_said s said) saids

-- the block of the next line
abbrev pub next_block : WatchState → Said Update → List ℕ
next_block s said = block s.limits (s.lines + 1) s.patterns s.graph said

-- those of the next lines
abbrev pub next_blocks : WatchState → List (Said Update) → List ℕ
next_blocks s saids = blocks s.limits s.patterns s.graph saids (s.lines + 1)

-- the end line
abbrev pub end_text : WatchState → List ℕ
end_text s = end_line s.lines s.accepted s.refused

-- the blocks of the last lines, and the end line behind them
abbrev pub last_text : WatchState → List (Said Update) → List ℕ
last_text s saids = next_blocks s saids ++ end_text (after_all s saids)
