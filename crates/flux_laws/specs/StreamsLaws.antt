-- Updates that come in two parts.
use Rattle.std.specs.Prelude.{◌≡◌, ℕ, ◌≤◌, List, [], ◌++◌, length, Some, Ok}
use Rattle.flux_model.specs.Lines.{open_end}
use Rattle.flux_model.specs.Graph.{Graph}
use Rattle.flux_model.specs.GraphText.{graph_text}
use Rattle.flux_model.specs.Pattern.{PatternGraph}
use Rattle.flux_model.specs.Verdict.{Watch, Watched, Files, Ending, Done, accepted, ending_of}
use Rattle.flux_model.specs.declared.limits.Limits.{Limits}
use Rattle.flux_laws.specs.ReportsLaws.{updates_in, graph_after_all}
use Rattle.flux_laws.specs.TextsLaws.{longest_line}
use Rattle.flux_laws.specs.ReportText.{BlockLine, Counts, moved, counts_line, sum}

-- a run that is done, and wrote this
abbrev pub done_with : List ℕ → Ending
done_with text = record { verdict = Done; text = text }

-- The report of the whole is that of the first part without its end line, that of the second part with its numbers moved on by the
-- lines of the first part, and an end line of the sums.
pub record IsInParts (whole first second : Ending) : Type 0 where
  pub earlier : List BlockLine
  pub later : List BlockLine
  pub before : Counts
  pub after : Counts
  pub first_part : first ≡ done_with (moved 0 earlier ++ counts_line before)
  pub second_part : second ≡ done_with (moved 0 later ++ counts_line after)
  pub in_parts : whole ≡ done_with (moved 0 earlier ++ (moved before.lines later ++ counts_line (sum before after)))

-- The first part of the updates ends with a line's end, or is empty. The second is watched over the text of the graph after the
-- first, and over the same pattern file.
abbrev pub StreamsInParts : Type 0
StreamsInParts =
    (limits : Limits) (files between : Files) (graph patterns : List ℕ) (g : Graph) (qs : List PatternGraph) (first second : List ℕ) →
    accepted limits files (Watch graph patterns) ≡ Ok (Watched g qs) → open_end first ≡ [] → length (first ++ second) ≤ limits.input_bytes →
    let saved = graph_text (graph_after_all limits g (updates_in limits first)) in
    longest_line ≤ limits.line_bytes → length saved ≤ limits.input_bytes → between graph ≡ Some saved → between patterns ≡ files patterns →
    IsInParts (ending_of limits files (Watch graph patterns) (first ++ second)) (ending_of limits files (Watch graph patterns) first)
    (ending_of limits between (Watch graph patterns) second)
