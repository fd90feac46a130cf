-- What a line of a file makes of what is kept of the file.
use Rattle.std.specs.Prelude.{ℕ, false, Result, Ok}
use Rattle.flux_model.specs.Lines.{InputLine}
use Rattle.flux_model.specs.Reading.{graph_reading, pattern_reading}
use Rattle.flux_model.specs.FileReading.{result_and_then}
use Rattle.flux_model.specs.Graph.{LimitedGraph}
use Rattle.flux_model.specs.GraphFile.{graph_after_line}
use Rattle.flux_model.specs.PatternFile.{patterns_after_line}
use Rattle.flux_model.specs.declared.code.Bad.{Bad}
use Rattle.pattern_check.specs.Reading.{PatternReading}

-- a graph stays under its limits
abbrev pub after_graph_line : ℕ → LimitedGraph → InputLine → Result LimitedGraph Bad
after_graph_line k kept line =
    result_and_then (λ g. Ok (record kept { graph = g })) (graph_after_line kept.limits k kept.graph (graph_reading line))

-- a reader of patterns that has accepted the line can take the next
abbrev pub after_pattern_line : ℕ → PatternReading → InputLine → Result PatternReading Bad
after_pattern_line k reading line =
    result_and_then (λ draft. Ok (record reading { draft = draft; spent = false }))
    (patterns_after_line reading.limits k reading.draft (pattern_reading line))
