use Rattle.std.proofs.Common.{◌≡◌, drop}
use Rattle.std.specs.List.{list_all}
use Rattle.flux_model.specs.Graph.{has_triple}
use Rattle.flux_model.specs.Embedding.{image}
use Rattle.flux_model.specs.declared.pattern.PatternEdge.{PatternEdge}
use Rattle.plain_match.proofs.search.keeps_edges.Given as goal

-- what is left decides
abbrev pub invariant-loop-i : goal.invariant-loop-i
invariant-loop-i l =
    list_all (λ (e : PatternEdge). has_triple l.graph.graph (image l.m e)) (drop l.i l.pattern.edges) ≡ list_all (λ (e : PatternEdge). has_triple l.graph.graph (image l.m e)) l.pattern.edges
