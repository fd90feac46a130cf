-- Laws of how a run is due to end, and of what it is due to have written.
use Rattle.std.specs.Prelude.{◌≡◌, ℕ, ◌≤◌, List, [], ◌++◌, length, take, map, Some, Ok, Err}
use Rattle.flux_model.specs.Lines.{whole}
use Rattle.flux_model.specs.Reading.{graph_reading, pattern_reading}
use Rattle.flux_model.specs.Graph.{Graph}
use Rattle.flux_model.specs.GraphFile.{read_graph, graph_of}
use Rattle.flux_model.specs.GraphText.{graph_text}
use Rattle.flux_model.specs.PatternFile.{read_patterns, patterns_of}
use Rattle.flux_model.specs.Verdict.{Shape, Watch, Match, Save, Demo, Files, Accepted, graph_file, ending_of, ending_with, written_before}
use Rattle.flux_model.specs.declared.code.Bad.{Bad}
use Rattle.flux_model.specs.declared.limits.Limits.{Limits}
use Rattle.flux_laws.specs.TextsLaws.{longest_line}

-- ---- a graph that was saved

-- `demo` names no file
abbrev pub graph_name : Shape → List ℕ
graph_name (Watch graph patterns) = graph
graph_name (Match graph patterns) = graph
graph_name (Save graph) = graph
graph_name (Demo number) = []

-- The pattern file, where the words name one, is the same among both. Where it is the graph file as well, this says that the
-- file held the text of the graph before.
abbrev pub HaveSamePatterns : Files → Files → Shape → Type 0
HaveSamePatterns files saved (Watch graph patterns) = saved patterns ≡ files patterns
HaveSamePatterns files saved (Match graph patterns) = saved patterns ≡ files patterns
HaveSamePatterns files saved (Save graph) = Unit {0}
HaveSamePatterns files saved (Demo number) = Unit {0}

-- with the text of the graph in the place of the graph file, a run ends as it did and writes what it wrote
abbrev pub SavedGraphWritesTheSame : Type 0
SavedGraphWritesTheSame =
    (limits : Limits) (files saved : Files) (shape : Shape) (g : Graph) (s : List ℕ) →
    graph_file limits (files (graph_name shape)) ≡ Ok g → longest_line ≤ limits.line_bytes → length (graph_text g) ≤ limits.input_bytes →
    saved (graph_name shape) ≡ Some (graph_text g) → HaveSamePatterns files saved shape →
    ending_of limits saved shape s ≡ ending_of limits files shape s

-- ---- a file that is refused in its front

-- a refusal among the whole lines of the first k bytes of a graph file is the refusal of the file
abbrev pub FrontRefusesGraphFile : Type 0
FrontRefusesGraphFile =
    (limits : Limits) (bytes : List ℕ) (k : ℕ) (bad : Bad) →
    read_graph limits (map graph_reading (whole limits.line_bytes (take k bytes))) ≡ Err bad → graph_of limits bytes ≡ Err bad

-- and so it is in a pattern file
abbrev pub FrontRefusesPatternFile : Type 0
FrontRefusesPatternFile =
    (limits : Limits) (bytes : List ℕ) (k : ℕ) (bad : Bad) →
    read_patterns limits (map pattern_reading (whole limits.line_bytes (take k bytes))) ≡ Err bad → patterns_of limits bytes ≡ Err bad

-- ---- a read that fails

-- a part at the front, which may be nothing or all
abbrev pub IsFrontOf : List ℕ → List ℕ → Type 0
IsFrontOf front all = (rest : List ℕ) × (all ≡ front ++ rest)

-- what is written where a read fails after the bytes r of the updates s is a front of what is due
abbrev pub WrittenBeforeIsFront : Type 0
WrittenBeforeIsFront =
    (limits : Limits) (files : Accepted) (r s : List ℕ) → IsFrontOf r s → length r ≤ limits.input_bytes →
    IsFrontOf (written_before limits files r) (ending_with limits s files).text
