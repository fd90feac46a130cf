use Rattle.std.proofs.Common.{Bool, sym, ◌∙◌, ap, ◌&&◌, drop, ◌+◌}
use Rattle.std.specs.List.{list_all}
use Rattle.flux_model.specs.Graph.{has_triple}
use Rattle.flux_model.specs.Embedding.{image}
use Rattle.flux_model.specs.declared.pattern.PatternEdge.{PatternEdge}
use Rattle.plain_match.proofs.SearchLemmas.{all_step}
use Rattle.plain_match.proofs.search.keeps_edges.Goals as goal

pub returns-then-not-has_edge : goal.returns-then-not-has_edge
returns-then-not-has_edge c =
    let edges = c.args.pattern.now.edges in
    let keeps : PatternEdge → Bool = λ e. has_triple c.args.graph.now.graph (image c.args.m.now e) in
    sym (sym c.loop-i.invariant ∙ all_step keeps edges c.loop-i.i c.edge-e.result.now c.edge-e.ensures.edge
    ∙ ap (λ b. b && list_all keeps (drop (c.loop-i.i + 1) edges)) (sym c.has_edge.ensures ∙ c.if-not-has_edge.true))

pub loop-i-preserved : goal.loop-i-preserved
loop-i-preserved c =
    let edges = c.args.pattern.now.edges in
    let keeps : PatternEdge → Bool = λ e. has_triple c.args.graph.now.graph (image c.args.m.now e) in
    sym (all_step keeps edges c.loop-i.i c.edge-e.result.now c.edge-e.ensures.edge
    ∙ ap (λ b. b && list_all keeps (drop (c.loop-i.i + 1) edges)) (sym c.has_edge.ensures ∙ c.if-not-has_edge.false))
    ∙ c.loop-i.invariant
