-- What the lines of an accepted file make.
use Rattle.std.proofs.Common.{◌≡◌, ℕ, Bool, true, false, cond, List, map, Result, Ok, Err, refl, ◌∙◌, ap, subst, arith}
use Rattle.flux_model.specs.Lines.{lines}
use Rattle.flux_model.specs.Reading.{graph_reading}
use Rattle.flux_model.specs.Graph.{Graph, IsGraph, IsWithin, empty_graph, apply}
use Rattle.flux_model.specs.GraphFile.{at_line, is_repeated_edge, graph_after_line, graph_of}
use Rattle.flux_model.specs.declared.code.Code.{Code}
use Rattle.flux_model.specs.declared.said.Said.{Said}
use Rattle.flux_model.specs.declared.said.Said.TheVariants.{Nothing, Says, Refused}
use Rattle.flux_model.specs.declared.graph.Update.{Update}
use Rattle.flux_model.specs.declared.limits.Limits.{Limits}
use Rattle.flux_laws.specs.GraphsLaws.{IsSound}
use Rattle.flux_laws.specs.FilesLaws.{GraphFileMakesGraph, GraphFileKeepsLimits}
use Rattle.flux_laws.proofs.GraphsLemmas.{keeps_graph, keeps_limits}
use Rattle.flux_laws.proofs.ReadingLemmas.{read_keeps, all-map, Saying, graph_line}

-- what each sound change keeps is kept by each line
line_keeps : (limits : Limits) (P : Graph → Type 0) → ((g h : Graph) (update : Update) → IsSound update → P g → apply limits g update ≡ Ok h → P h)
    → (k : ℕ) (g h : Graph) (said : Said Update) → Saying IsSound said → P g → graph_after_line limits k g said ≡ Ok h → P h
line_keeps limits P keep k g h Nothing sound p e = let same : g ≡ h = cc in subst P same p
line_keeps limits P keep k g h (Refused c) sound p e = cc
line_keeps limits P keep k g h (Says update) sound p e = by (is_repeated_edge g update) (apply limits g update) refl e
  where
    by : (b : Bool) (r : Result Graph Code) → apply limits g update ≡ r → cond b (Ok g) (at_line k r) ≡ Ok h → P h
    by true r q f = let same : g ≡ h = cc in subst P same p
    by false (Ok next) q f = let same : next ≡ h = cc in keep g h update sound p (q ∙ ap okay same)
      where
        okay : Graph → Result Graph Code
        okay n = Ok n
    by false (Err c) q f = cc

file_keeps : (limits : Limits) (P : Graph → Type 0) → ((g h : Graph) (update : Update) → IsSound update → P g → apply limits g update ≡ Ok h → P h) → P empty_graph
    → (bytes : List ℕ) (g : Graph) → graph_of limits bytes ≡ Ok g → P g
file_keeps limits P keep start bytes g e =
    read_keeps P (Saying IsSound) (graph_after_line limits) (line_keeps limits P keep) 1 empty_graph g (map graph_reading (lines limits.line_bytes bytes))
    (all-map (Saying IsSound) graph_reading graph_line (lines limits.line_bytes bytes)) start e

-- an accepted graph file makes a graph
pub makes_graph : GraphFileMakesGraph
makes_graph limits bytes g e =
    file_keeps limits IsGraph (λ a b update sound graph f. keeps_graph limits a b update graph sound f)
    (record { ascending_vertices = refl; vertices = tt; ascending_triples = refl; texts = tt; ends = refl }) bytes g e

-- within the limits
pub within_limits : GraphFileKeepsLimits
within_limits limits bytes g e =
    file_keeps limits (IsWithin limits) (λ a b update sound within f. keeps_limits limits a b update within f)
    (record { vertices = omega arith; triples = omega arith; names = omega arith }) bytes g e
