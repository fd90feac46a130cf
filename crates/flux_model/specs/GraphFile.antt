-- What a graph file makes.
use Rattle.std.specs.Prelude.{ℕ, Bool, false, List, map, Result, Ok, Err, if◌then◌else◌}
use Rattle.flux_model.specs.Lines.{lines}
use Rattle.flux_model.specs.Reading.{graph_reading}
use Rattle.flux_model.specs.FileReading.{refused_at, read_from}
use Rattle.flux_model.specs.Graph.{Graph, empty_graph, apply, has_triple}
use Rattle.flux_model.specs.declared.code.Code.{Code}
use Rattle.flux_model.specs.declared.code.Bad.{Bad}
use Rattle.flux_model.specs.declared.said.Said.{Said}
use Rattle.flux_model.specs.declared.said.Said.TheVariants.{Nothing, Says, Refused}
use Rattle.flux_model.specs.declared.graph.Update.{Update}
use Rattle.flux_model.specs.declared.graph.Update.TheVariants.{AddEdge}
use Rattle.flux_model.specs.declared.limits.Limits.{Limits}

-- an edge that is there already
abbrev pub is_repeated_edge : Graph → Update → Bool
is_repeated_edge g (AddEdge t) = has_triple g t
is_repeated_edge g _ = false

-- a change, or its refusal at line k
abbrev pub at_line : ℕ → Result Graph Code → Result Graph Bad
at_line k (Ok h) = Ok h
at_line k (Err code) = refused_at k code

-- the graph after what line k of a graph file says; a repeated edge changes nothing
abbrev pub graph_after_line : Limits → ℕ → Graph → Said Update → Result Graph Bad
graph_after_line limits k g Nothing = Ok g
graph_after_line limits k g (Refused code) = refused_at k code
graph_after_line limits k g (Says update) = if is_repeated_edge g update then Ok g else at_line k (apply limits g update)

-- the graph that the lines make from the empty one, or the first refusal
abbrev pub read_graph : Limits → List (Said Update) → Result Graph Bad
read_graph limits saids = read_from (graph_after_line limits) 1 empty_graph saids

abbrev pub graph_of : Limits → List ℕ → Result Graph Bad
graph_of limits bytes = read_graph limits (map graph_reading (lines limits.line_bytes bytes))
