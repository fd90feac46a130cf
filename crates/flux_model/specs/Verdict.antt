-- How a run is due to end, and what it is due to have written by then, where nothing fails.
use Rattle.std.specs.Prelude.{ℕ, ◌&&◌, nat_lt, List, [], ◌∷◌, length, take, map, codes, Option, None, Some, Result, Ok, Err, is_ok, if◌then◌else◌}
use Rattle.std.specs.Result.{result_map_both}
use Rattle.std.specs.Str.{bytes_eq}
use Rattle.flux_model.specs.Lines.{InputLine, lines, whole}
use Rattle.flux_model.specs.Reading.{digits_value, graph_reading, update_reading, pattern_reading}
use Rattle.flux_model.specs.FileReading.{result_and_then}
use Rattle.flux_model.specs.Graph.{Graph}
use Rattle.flux_model.specs.GraphFile.{read_graph, graph_of}
use Rattle.flux_model.specs.GraphText.{graph_text}
use Rattle.flux_model.specs.Pattern.{PatternGraph}
use Rattle.flux_model.specs.PatternFile.{read_patterns, patterns_of}
use Rattle.flux_model.specs.Report.{blocks, watch_text, match_text}
use Rattle.flux_model.specs.Demo.{is_demo_number, demo_text}
use Rattle.flux_model.specs.declared.code.Bad.{Bad}
use Rattle.flux_model.specs.declared.limits.Limits.{Limits}

-- ---- what the words of the command line ask for

-- with the names of the files, or the number whose files are made
pub data Shape : Type 0 where
  Watch : (graph patterns : List ℕ) → Shape
  Match : (graph patterns : List ℕ) → Shape
  Save : (graph : List ℕ) → Shape
  Demo : (number : ℕ) → Shape

-- `watch GRAPH PATTERNS`, `match GRAPH PATTERNS`, `save GRAPH` or `demo NUMBER`
abbrev pub shape_of : List (List ℕ) → Option Shape
shape_of (command ∷ graph ∷ patterns ∷ []) =
    if bytes_eq command (codes "watch") then Some (Watch graph patterns)
    else if bytes_eq command (codes "match") then Some (Match graph patterns) else None
shape_of (command ∷ word ∷ []) =
    if bytes_eq command (codes "save") then Some (Save word)
    else if bytes_eq command (codes "demo") && is_demo_number word then Some (Demo (digits_value word)) else None
shape_of words = None

-- ---- what becomes of the files

-- how a run ends
pub data Verdict : Type 0 where
  Done : Verdict
  Usage : Verdict
  NoFile : Verdict
  TooMuch : Verdict
  BadGraph : Bad → Verdict
  BadPatterns : Bad → Verdict

-- the bytes of each name, or None where there is no such file
abbrev pub Files : Type 0
Files = List ℕ → Option (List ℕ)

-- A file has to be there, and to have at most n bytes. Of a longer one the first n bytes are read: it is too long where `front`
-- refuses none of the whole lines among them. What it holds is judged by `all`.
abbrev pub file_as : {S T : Type 0} → ℕ → (front : List ℕ → Result S Bad) → (all : List ℕ → Result T Bad) → (Bad → Verdict) → Option (List ℕ) → Result T Verdict
file_as n front all bad None = Err NoFile
file_as n front all bad (Some bytes) =
    if nat_lt n (length bytes) && is_ok (front (take n bytes)) then Err TooMuch else result_map_both (λ x. x) bad (all bytes)

abbrev pub graph_file : Limits → Option (List ℕ) → Result Graph Verdict
graph_file limits file =
    file_as limits.input_bytes (λ b. read_graph limits (map graph_reading (whole limits.line_bytes b))) (graph_of limits) BadGraph file

abbrev pub pattern_file : Limits → Option (List ℕ) → Result (List PatternGraph) Verdict
pattern_file limits file =
    file_as limits.input_bytes (λ b. read_patterns limits (map pattern_reading (whole limits.line_bytes b))) (patterns_of limits) BadPatterns file

-- what the files are accepted as; the files of a number are made and not read
pub data Accepted : Type 0 where
  Watched : Graph → List PatternGraph → Accepted
  Matched : Graph → List PatternGraph → Accepted
  Saved : Graph → Accepted
  Shown : (number : ℕ) → Accepted

-- first the graph file is judged, and then the pattern file
abbrev pub accepted : Limits → Files → Shape → Result Accepted Verdict
accepted limits files (Watch graph patterns) =
    result_and_then (λ g. result_and_then (λ qs. Ok (Watched g qs)) (pattern_file limits (files patterns))) (graph_file limits (files graph))
accepted limits files (Match graph patterns) =
    result_and_then (λ g. result_and_then (λ qs. Ok (Matched g qs)) (pattern_file limits (files patterns))) (graph_file limits (files graph))
accepted limits files (Save graph) = result_and_then (λ g. Ok (Saved g)) (graph_file limits (files graph))
accepted limits files (Demo number) = Ok (Shown number)

-- ---- what is written

-- the blocks of these lines of the updates
abbrev pub blocks_of : Limits → Graph → List PatternGraph → List InputLine → List ℕ
blocks_of limits g qs ls = blocks limits qs g (map update_reading ls) 1

pub record Ending : Type 0 where
  pub verdict : Verdict
  pub text : List ℕ

-- s are the bytes of the updates; where there are more than the limit, the whole lines among the first of them have their blocks
abbrev pub ending_with : Limits → List ℕ → Accepted → Ending
ending_with limits s (Watched g qs) =
    if nat_lt limits.input_bytes (length s)
    then record { verdict = TooMuch; text = blocks_of limits g qs (whole limits.line_bytes (take limits.input_bytes s)) }
    else record { verdict = Done; text = watch_text limits g qs (map update_reading (lines limits.line_bytes s)) }
ending_with limits s (Matched g qs) = record { verdict = Done; text = match_text g qs }
ending_with limits s (Saved g) = record { verdict = Done; text = graph_text g }
ending_with limits s (Shown number) = record { verdict = Done; text = demo_text number }

-- a run that ends at its words or files writes nothing
abbrev pub ends_with : (Accepted → Ending) → Result Accepted Verdict → Ending
ends_with go_on (Ok files) = go_on files
ends_with go_on (Err verdict) = record { verdict = verdict; text = [] }

abbrev pub ending_of : Limits → Files → Shape → List ℕ → Ending
ending_of limits files shape s = ends_with (ending_with limits s) (accepted limits files shape)

abbrev pub ending_for : Limits → Files → Option Shape → List ℕ → Ending
ending_for limits files None s = record { verdict = Usage; text = [] }
ending_for limits files (Some shape) s = ending_of limits files shape s

-- ---- the verdict, and the text that is due

abbrev pub verdict : Limits → Files → List (List ℕ) → List ℕ → Verdict
verdict limits files words s = (ending_for limits files (shape_of words) s).verdict

abbrev pub due : Limits → Files → List (List ℕ) → List ℕ → List ℕ
due limits files words s = (ending_for limits files (shape_of words) s).text

-- what stands where a read fails after the bytes r of the updates: the blocks of the whole lines among them
abbrev pub written_before : Limits → Accepted → List ℕ → List ℕ
written_before limits (Watched g qs) r = blocks_of limits g qs (whole limits.line_bytes r)
written_before limits (Matched g qs) r = []
written_before limits (Saved g) r = []
written_before limits (Shown number) r = []
