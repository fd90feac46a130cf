-- The code of a session's value.
use Rattle.std.specs.Prelude.{ℕ, Bool, List, refl}
use Rattle.std.specs.Coded.{Coded, code_by, coded×, coded_ℕ, coded_bool, coded_list}
use Rattle.flux_model.specs.Graph.{Graph}
use Rattle.flux_model.specs.declared.graph.Triple.{Triple}
use Rattle.flux_model.specs.declared.graph.Vertex.{Vertex}
use Rattle.flux_model.specs.declared.limits.Limits.{Limits}
use Rattle.pattern_registry.specs.States.{PatternStates}
use Rattle.pattern_registry.specs.Codes.{text_code, pattern_states_code}
use Rattle.watch_core.specs.SessionStates.{SessionState}

abbrev vertex_code : Coded Vertex
vertex_code = code_by (ℕ × List (List ℕ)) (coded× coded_ℕ (coded_list text_code)) (λ v. (v.id, v.labels)) (λ p. record { id = p.0; labels = p.1 }) (λ _. refl)

abbrev triple_code : Coded Triple
triple_code =
    code_by (ℕ × (List ℕ × ℕ)) (coded× coded_ℕ (coded× text_code coded_ℕ)) (λ t. (t.src, (t.label, t.dst))) (λ p. record { src = p.0; label = p.1.0; dst = p.1.1 }) (λ _. refl)

abbrev graph_code : Coded Graph
graph_code =
    code_by (List Vertex × List Triple) (coded× (coded_list vertex_code) (coded_list triple_code)) (λ g. (g.vertices, g.triples)) (λ p. record { vertices = p.0; triples = p.1 }) (λ _. refl)

abbrev Eight : Type 0
Eight = ℕ × (ℕ × (ℕ × (ℕ × (ℕ × (ℕ × (ℕ × ℕ))))))

abbrev limits_code : Coded Limits
limits_code =
    code_by Eight (coded× coded_ℕ (coded× coded_ℕ (coded× coded_ℕ (coded× coded_ℕ (coded× coded_ℕ (coded× coded_ℕ (coded× coded_ℕ coded_ℕ)))))))
    (λ l. (l.line_bytes, (l.input_bytes, (l.vertices, (l.edges, (l.labels, (l.patterns, (l.pattern_vertices, l.pattern_edges))))))))
    (λ p. record { line_bytes = p.0; input_bytes = p.1.0; vertices = p.1.1.0; edges = p.1.1.1.0; labels = p.1.1.1.1.0; patterns = p.1.1.1.1.1.0; pattern_vertices = p.1.1.1.1.1.1.0; pattern_edges = p.1.1.1.1.1.1.1 })
    (λ _. refl)

abbrev pub session_state_code : Coded SessionState
session_state_code =
    code_by (Limits × (Graph × (PatternStates × (ℕ × (ℕ × (ℕ × Bool))))))
    (coded× limits_code (coded× graph_code (coded× pattern_states_code (coded× coded_ℕ (coded× coded_ℕ (coded× coded_ℕ coded_bool))))))
    (λ s. (s.limits, (s.graph, (s.registry, (s.lines, (s.accepted, (s.refused, s.is_broken)))))))
    (λ p. record { limits = p.0; graph = p.1.0; registry = p.1.1.0; lines = p.1.1.1.0; accepted = p.1.1.1.1.0; refused = p.1.1.1.1.1.0; is_broken = p.1.1.1.1.1.1 }) (λ _. refl)
