-- What holds of the texts that a run writes.
use Rattle.std.specs.Prelude.{◌≡◌, ℕ, ◌+◌, Bool, List, [], ◌∷◌, ◌++◌, length, map, take, codes, IsTrue}
use Rattle.std.specs.List.{list_all}
use Rattle.std.specs.Fmt.{decimal}
use Rattle.std.specs.Str.{bytes_eq}
use Rattle.flux_model.specs.Lines.{lines, parts, all_but_last, open_end}
use Rattle.flux_model.specs.Reading.{update_reading}
use Rattle.flux_model.specs.Graph.{Graph}
use Rattle.flux_model.specs.Pattern.{PatternGraph}
use Rattle.flux_model.specs.Report.{blocks, next_graph, match_text}
use Rattle.flux_model.specs.declared.said.Said.{Said}
use Rattle.flux_model.specs.declared.graph.Update.{Update}
use Rattle.flux_model.specs.declared.limits.Limits.{Limits}
use Rattle.flux_laws.specs.LinesLaws.{has_no_end}

-- what the lines of the bytes say
abbrev pub updates_in : Limits → List ℕ → List (Said Update)
updates_in limits bytes = map update_reading (lines limits.line_bytes bytes)

-- the graph after all of the lines
abbrev pub graph_after_all : Limits → Graph → List (Said Update) → Graph
graph_after_all limits g [] = g
graph_after_all limits g (said ∷ saids) = graph_after_all limits (next_graph limits g said) saids

-- the blocks of bytes that are cut after a line's end are those of the two parts
abbrev pub BlocksInParts : Type 0
BlocksInParts =
    (limits : Limits) (patterns : List PatternGraph) (g : Graph) (first second : List ℕ) → open_end first ≡ [] →
    let saids = updates_in limits first in
    blocks limits patterns g (updates_in limits (first ++ second)) 1
    ≡ blocks limits patterns g saids 1
    ++ blocks limits patterns (graph_after_all limits g saids) (updates_in limits second) (length (lines limits.line_bytes first) + 1)

-- the line begins with `m `
abbrev pub is_answer : List ℕ → Bool
is_answer line = bytes_eq (take 2 line) (codes "m ")

-- the lines of the text are answers, and a last one that names their number
pub record IsCounted (text : List ℕ) : Type 0 where
  pub answers : List (List ℕ)
  pub marked : IsTrue (list_all is_answer answers)
  pub lines : all_but_last (parts text) ≡ answers ++ (codes "= " ++ decimal (length answers)) ∷ []
  pub closed : open_end text ≡ []

-- where no pattern's name has a byte 10
abbrev pub EndLineCountsAnswers : Type 0
EndLineCountsAnswers =
    (g : Graph) (patterns : List PatternGraph) → IsTrue (list_all (λ (q : PatternGraph). has_no_end q.name) patterns) → IsCounted (match_text g patterns)
