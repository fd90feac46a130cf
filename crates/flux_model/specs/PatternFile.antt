-- What a pattern file makes.
use Rattle.std.specs.Prelude.{ℕ, ◌==◌, ◌||◌, not, nat_le, Bool, List, [], ◌∷◌, ◌++◌, length, map, Option, Some, None, Result, Ok, if◌then◌else◌}
use Rattle.std.specs.List.{list_any}
use Rattle.std.specs.Str.{bytes_eq}
use Rattle.flux_model.specs.Lines.{lines}
use Rattle.flux_model.specs.Reading.{pattern_reading}
use Rattle.flux_model.specs.FileReading.{refused_at, result_and_then, read_from}
use Rattle.flux_model.specs.Pattern.{PatternGraph, vertex_count, same_edge, is_connected}
use Rattle.flux_model.specs.declared.code.Code.{Code}
use Rattle.flux_model.specs.declared.code.Code.TheVariants as code
use Rattle.flux_model.specs.declared.code.Bad.{Bad}
use Rattle.flux_model.specs.declared.said.Said.{Said}
use Rattle.flux_model.specs.declared.said.Said.TheVariants.{Nothing, Says, Refused}
use Rattle.flux_model.specs.declared.pattern.Mode.{Mode}
use Rattle.flux_model.specs.declared.pattern.PatternEdge.{PatternEdge}
use Rattle.flux_model.specs.declared.pattern.PatternPart.{PatternPart}
use Rattle.flux_model.specs.declared.pattern.PatternPart.TheVariants as part
use Rattle.flux_model.specs.declared.limits.Limits.{Limits}

-- a pattern that may still grow, and the line that began it
pub record OpenPattern : Type 0 where
  pub line : ℕ
  pub pattern : PatternGraph

-- the patterns that are complete, in file order, and the open one
pub record Draft : Type 0 where
  pub complete : List PatternGraph
  pub last : Option OpenPattern

abbrev pub empty_draft : Draft
empty_draft = record { complete = []; last = None }

-- the refusal at this line where the test holds, else what follows
abbrev pub refuse_at : {T : Type 0} → ℕ → Bool → Code → Result T Bad → Result T Bad
refuse_at line test code next = if test then refused_at line code else next

-- the pattern of the open one, which needs a vertex and has to be connected as it ends
abbrev pub close_open : OpenPattern → Result PatternGraph Bad
close_open o =
    refuse_at o.line (vertex_count o.pattern == 0) code.Empty
    (refuse_at o.line (not (is_connected o.pattern)) code.Apart
    (Ok o.pattern))

-- all patterns, the open one closed
abbrev pub close : Draft → Result (List PatternGraph) Bad
close draft = close_last draft.complete draft.last
  where
    close_last : List PatternGraph → Option OpenPattern → Result (List PatternGraph) Bad
    close_last complete None = Ok complete
    close_last complete (Some o) = result_and_then (λ q. Ok (complete ++ q ∷ [])) (close_open o)

abbrev pub new_pattern : List ℕ → Mode → PatternGraph
new_pattern name mode = record { name = name; mode = mode; labels = []; edges = [] }

-- a name line behind complete patterns
abbrev pub begin_pattern : Limits → ℕ → List ℕ → Mode → List PatternGraph → Result Draft Bad
begin_pattern limits line name mode complete =
    refuse_at line (list_any (λ (q : PatternGraph). bytes_eq q.name name) complete) code.Exists
    (refuse_at line (nat_le limits.patterns (length complete)) code.Full
    (Ok (record { complete = complete; last = Some (record { line = line; pattern = new_pattern name mode }) })))

-- the open pattern with one more vertex
abbrev pub add_pattern_vertex : Limits → ℕ → ℕ → List (List ℕ) → PatternGraph → Result PatternGraph Bad
add_pattern_vertex limits line n labels q =
    refuse_at line (not (n == vertex_count q)) code.Order
    (refuse_at line (nat_le limits.pattern_vertices (vertex_count q)) code.Full
    (Ok (record q { labels = q.labels ++ labels ∷ [] })))

-- the open pattern with one more edge
abbrev pub add_pattern_edge : Limits → ℕ → PatternEdge → PatternGraph → Result PatternGraph Bad
add_pattern_edge limits line e q =
    refuse_at line (nat_le (vertex_count q) e.tail || nat_le (vertex_count q) e.head) code.NoVertex
    (refuse_at line (list_any (same_edge e) q.edges) code.Exists
    (refuse_at line (nat_le limits.pattern_edges (length q.edges)) code.Full
    (Ok (record q { edges = q.edges ++ e ∷ [] }))))

-- a change of the open pattern, which must be there
abbrev pub change_last : ℕ → Draft → (PatternGraph → Result PatternGraph Bad) → Result Draft Bad
change_last line draft change = change_open draft.last
  where
    change_open : Option OpenPattern → Result Draft Bad
    change_open None = refused_at line code.NoName
    change_open (Some o) = result_and_then (λ q. Ok (record draft { last = Some (record o { pattern = q }) })) (change o.pattern)

-- a name line closes the pattern before it first
abbrev pub take_part : Limits → ℕ → Draft → PatternPart → Result Draft Bad
take_part limits line draft (part.Name name mode) = result_and_then (begin_pattern limits line name mode) (close draft)
take_part limits line draft (part.Vertex n labels) = change_last line draft (add_pattern_vertex limits line n labels)
take_part limits line draft (part.Edge tail head label) =
    change_last line draft (add_pattern_edge limits line (record { tail = tail; label = label; head = head }))

-- the patterns after what line k of a pattern file says
abbrev pub patterns_after_line : Limits → ℕ → Draft → Said PatternPart → Result Draft Bad
patterns_after_line limits k draft Nothing = Ok draft
patterns_after_line limits k draft (Refused code) = refused_at k code
patterns_after_line limits k draft (Says p) = take_part limits k draft p

-- the patterns so far, with the last one still open, or the first refusal
abbrev pub read_patterns : Limits → List (Said PatternPart) → Result Draft Bad
read_patterns limits saids = read_from (patterns_after_line limits) 1 empty_draft saids

abbrev pub patterns_of : Limits → List ℕ → Result (List PatternGraph) Bad
patterns_of limits bytes = result_and_then close (read_patterns limits (map pattern_reading (lines limits.line_bytes bytes)))
