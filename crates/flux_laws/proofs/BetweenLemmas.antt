-- The graph between two parts of the updates, and the file of its text.
use Rattle.std.proofs.Common.{◌≡◌, ℕ, ◌≤◌, List, [], ◌∷◌, length, map, Option, Some, Result, Ok, Err, refl}
use Rattle.std.specs.Prelude.{codes}
use Rattle.std.specs.List.{AllByRecursion}
use Rattle.std.specs.Str.{bytes_eq}
use Rattle.flux_model.specs.Lines.{InputLine, held, long, lines, whole}
use Rattle.flux_model.specs.Reading.{words_of, read_edge, read_id, dropped_edge, read_graph_form, read_update_form, graph_reading, update_reading}
use Rattle.flux_model.specs.Graph.{Graph, IsGraph, IsWithin, apply}
use Rattle.flux_model.specs.GraphFile.{read_graph, graph_of}
use Rattle.flux_model.specs.GraphText.{graph_text}
use Rattle.flux_model.specs.Report.{applied, graph_after, next_graph}
use Rattle.flux_model.specs.Verdict.{BadGraph, graph_file}
use Rattle.flux_model.specs.declared.code.Bad.{Bad}
use Rattle.flux_model.specs.declared.code.Code.{Code}
use Rattle.flux_model.specs.declared.said.Said.{Said}
use Rattle.flux_model.specs.declared.said.Said.TheVariants.{Nothing, Says, Refused}
use Rattle.flux_model.specs.declared.graph.Update.{Update}
use Rattle.flux_model.specs.declared.graph.Update.TheVariants.{DropVertex}
use Rattle.flux_model.specs.declared.limits.Limits.{Limits}
use Rattle.flux_laws.specs.GraphsLaws.{IsSound}
use Rattle.flux_laws.specs.ReportsLaws.{updates_in, graph_after_all}
use Rattle.flux_laws.specs.TextsLaws.{longest_line}
use Rattle.flux_laws.proofs.FilesLemmas.{makes_graph, within_limits}
use Rattle.flux_laws.proofs.GraphsLemmas.{keeps_graph, keeps_limits}
use Rattle.flux_laws.proofs.ReadingLemmas.{all-map, Saying, either_way, number_said, edge_said, words_said, graph_form}
use Rattle.flux_laws.proofs.TextsLemmas.{graph_read_back}
use Rattle.flux_laws.proofs.VerdictsLemmas.{held_accepted, accepted_as}

-- ---- what a line of the updates says may stand in a graph

id_said : (words : List (List ℕ)) → Saying IsSound (read_id DropVertex words)
id_said [] = tt
id_said (id ∷ []) = number_said IsSound id (λ n. Says (DropVertex n)) (λ n small. tt)
id_said (id ∷ more ∷ words) = tt

update_form : (word : List ℕ) (others : List (List ℕ)) → Saying IsSound (read_update_form word others)
update_form word others =
    either_way IsSound (bytes_eq word (codes "-e")) (read_edge dropped_edge others) _
    (λ e. edge_said IsSound dropped_edge (λ s label d text. tt) others)
    (λ e. either_way IsSound (bytes_eq word (codes "-v")) (read_id DropVertex others) (read_graph_form word others) (λ d. id_said others) (λ d. graph_form word others))

update_line : (line : InputLine) → Saying IsSound (update_reading line)
update_line long = tt
update_line (held bytes) = words_said IsSound read_update_form update_form (words_of bytes)

-- ---- what each change keeps, the updates keep

module _ (limits : Limits) (P : Graph → Type 0) (keep : (g h : Graph) (update : Update) → IsSound update → P g → apply limits g update ≡ Ok h → P h) where
  next_keeps : (g : Graph) (said : Said Update) → Saying IsSound said → P g → P (next_graph limits g said)
  next_keeps g Nothing sound p = p
  next_keeps g (Refused c) sound p = p
  next_keeps g (Says update) sound p = by (apply limits g update) refl
    where
      by : (r : Result Graph Code) → apply limits g update ≡ r → P (graph_after g (applied r))
      by (Ok h) e = keep g h update sound p e
      by (Err c) e = p

  saids_keep : (g : Graph) (saids : List (Said Update)) → AllByRecursion (Saying IsSound) saids → P g → P (graph_after_all limits g saids)
  saids_keep g [] all p = p
  saids_keep g (said ∷ saids) all p = saids_keep (next_graph limits g said) saids all.1 (next_keeps g said all.0 p)

  updates_keep : (g : Graph) (bytes : List ℕ) → P g → P (graph_after_all limits g (updates_in limits bytes))
  updates_keep g bytes p = saids_keep g (updates_in limits bytes) (all-map (Saying IsSound) update_reading update_line (lines limits.line_bytes bytes)) p

-- ---- files

-- the text of the graph after updates is accepted as that graph
pub between_file : (limits : Limits) (file : Option (List ℕ)) (g : Graph) (bytes : List ℕ) → graph_file limits file ≡ Ok g → longest_line ≤ limits.line_bytes
    → let h = graph_after_all limits g (updates_in limits bytes) in length (graph_text h) ≤ limits.input_bytes → graph_file limits (Some (graph_text h)) ≡ Ok h
between_file limits file g bytes e room few =
    let h : Graph = graph_after_all limits g (updates_in limits bytes) in
    let front : List ℕ → Result Graph Bad = λ b. read_graph limits (map graph_reading (whole limits.line_bytes b)) in
    let was = held_accepted limits.input_bytes front (graph_of limits) BadGraph file g e in
    let graph : IsGraph h = updates_keep limits IsGraph (λ a b update sound is f. keeps_graph limits a b update is sound f) g bytes (makes_graph limits was.0 g was.1) in
    let within : IsWithin limits h = updates_keep limits (IsWithin limits) (λ a b update sound is f. keeps_limits limits a b update is f) g bytes (within_limits limits was.0 g was.1) in
    accepted_as limits.input_bytes front (graph_of limits) BadGraph (graph_text h) h few (graph_read_back limits h graph within room)
