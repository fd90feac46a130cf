-- The summary of a run over the files of a number.
use Rattle.std.specs.Prelude.{ℕ, Bool, false, ◌&&◌, ◌^◌, nat_le, nat_lt, List, [], ◌∷◌, ◌++◌, length, map, codes, flat_map, count_by, Result, Ok}
use Rattle.std.specs.Fmt.{decimal}
use Rattle.std.specs.Str.{bytes_eq}
use Rattle.std.specs.List.{list_all}
use Rattle.flux_model.specs.Limits.{standard}
use Rattle.flux_model.specs.Lines.{parts, all_but_last, lines}
use Rattle.flux_model.specs.Reading.{words_of, is_digit, digits_value, update_reading}
use Rattle.flux_model.specs.Graph.{Graph}
use Rattle.flux_model.specs.GraphFile.{graph_of}
use Rattle.flux_model.specs.GraphText.{text_line}
use Rattle.flux_model.specs.Pattern.{PatternGraph}
use Rattle.flux_model.specs.PatternFile.{patterns_of}
use Rattle.flux_model.specs.Report.{blocks, outcomes, end_line_of}
use Rattle.flux_model.specs.declared.code.Bad.{Bad}
use Rattle.flux_model.specs.declared.said.Said.{Said}
use Rattle.flux_model.specs.declared.graph.Update.{Update}
use Rattle.flux_model.specs.Generated.{generated}

-- ---- the number in the words of the command line

-- 1 to 20 digits with a value below 2 ^ 64
abbrev pub is_demo_number : List ℕ → Bool
is_demo_number word =
    nat_le 1 (length word) && nat_le (length word) 20 && list_all is_digit word && nat_lt (digits_value word) (2 ^ 64)

-- ---- what is counted of a report

-- whether words are a sign, one more, and a name, with any after them
abbrev pub begin_with : (sign name : List ℕ) → List (List ℕ) → Bool
begin_with sign name (first ∷ number ∷ second ∷ ids) = bytes_eq first sign && bytes_eq second name
begin_with sign name _ = false

-- whether a line of the report has this sign and this name, as `+ 3 name 1 2`
abbrev pub is_map_line : (sign name line : List ℕ) → Bool
is_map_line sign name line = begin_with sign name (words_of line)

-- how many ended lines of a text have this sign and this name
abbrev pub map_lines : (sign name text : List ℕ) → ℕ
map_lines sign name text = count_by (is_map_line sign name) (all_but_last (parts text))

-- `star 3 2`: a pattern's name, and how many maps it gained and lost in the text
abbrev pub counts_line : (text : List ℕ) → PatternGraph → List ℕ
counts_line text q =
    text_line (q.name ∷ decimal (map_lines (codes "+") q.name text) ∷ decimal (map_lines (codes "-") q.name text) ∷ [])

-- ---- the summary

-- the number, the size of the graph before the updates, what each pattern gained and lost, and the report's end line
abbrev pub summary : (number : ℕ) → Graph → List PatternGraph → List (Said Update) → List ℕ
summary number g patterns saids =
    text_line (codes "demo" ∷ decimal number ∷ [])
    ++ text_line (codes "graph" ∷ decimal (length g.vertices) ∷ decimal (length g.triples) ∷ [])
    ++ flat_map (counts_line (blocks standard patterns g saids 1)) patterns
    ++ end_line_of (outcomes standard g saids)

-- nothing where a file is refused
abbrev pub summary_of : (number : ℕ) → Result Graph Bad → Result (List PatternGraph) Bad → (updates : List ℕ) → List ℕ
summary_of number (Ok g) (Ok patterns) updates = summary number g patterns (map update_reading (lines standard.line_bytes updates))
summary_of number _ _ updates = []

-- the files of the number with the standard sizes, under the standard limits
unfoldable pub demo_text : (number : ℕ) → List ℕ
demo_text number =
    let files = generated number 20000 60000 5000 in
    summary_of number (graph_of standard files.graph) (patterns_of standard files.patterns) files.updates
