-- The lines of the answers, and their number.
use Rattle.std.specs.Prelude.{ℕ, List, [], ◌∷◌, ◌++◌, length, map, codes, flat_map, sum_by}
use Rattle.std.specs.Fmt.{decimal}
use Rattle.flux_model.specs.GraphText.{text_line}
use Rattle.flux_model.specs.Pattern.{PatternGraph}
use Rattle.flux_model.specs.declared.maps.Delta.{Delta}
use Rattle.delta_report.specs.Block.{name_at}

-- `m name 1 2`
abbrev pub answer_line : List ℕ → List ℕ → List ℕ
answer_line name m = text_line (codes "m" ∷ name ∷ map decimal m)

-- a line for each gained map
abbrev pub gained_lines : List ℕ → Delta → List ℕ
gained_lines name d = flat_map (answer_line name) d.gained

-- the lines of each delta, under the name of its pattern
abbrev pub listing : List PatternGraph → List Delta → List ℕ
listing patterns deltas = flat_map (λ (d : Delta). gained_lines (name_at patterns d.pattern) d) deltas

-- how many maps were gained
abbrev pub answer_count : List Delta → ℕ
answer_count deltas = sum_by (λ (d : Delta). length d.gained) deltas

-- `= 3`
abbrev pub total_line : ℕ → List ℕ
total_line total = text_line (codes "=" ∷ decimal total ∷ [])

-- the lines of what was gained, and the number of these lines
abbrev pub answers_text : List PatternGraph → List Delta → List ℕ
answers_text patterns deltas = listing patterns deltas ++ total_line (answer_count deltas)
