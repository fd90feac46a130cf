-- The lines of deltas.
use Rattle.std.specs.Prelude.{ℕ, ◌<◌, List, [], ◌++◌, codes, flat_map, slice_get}
use Rattle.std.specs.List.{All}
use Rattle.std.specs.Option.{option_map_or}
use Rattle.flux_model.specs.Pattern.{PatternGraph}
use Rattle.flux_model.specs.Report.{map_line}
use Rattle.flux_model.specs.declared.maps.Delta.{Delta}

-- each delta is one of the first `count` patterns
abbrev pub HavePatterns : ℕ → List Delta → Type 0
HavePatterns count deltas = All (λ (d : Delta). d.pattern < count) deltas

-- first what was gained, and then what was lost
abbrev pub delta_lines : ℕ → List ℕ → Delta → List ℕ
delta_lines k name d =
    flat_map (map_line (codes "+") k name) d.gained ++ flat_map (map_line (codes "-") k name) d.lost

-- the name of the pattern at this place, and nothing past the last one
abbrev pub name_at : List PatternGraph → ℕ → List ℕ
name_at patterns i = option_map_or (λ (q : PatternGraph). q.name) (slice_get patterns i) []

-- the lines of each delta, under the name of its pattern
abbrev pub deltas_text : ℕ → List PatternGraph → List Delta → List ℕ
deltas_text k patterns deltas = flat_map (λ (d : Delta). delta_lines k (name_at patterns d.pattern) d) deltas
