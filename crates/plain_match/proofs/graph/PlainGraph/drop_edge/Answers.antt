use Rattle.std.proofs.Common.{List, sym, subst}
use Rattle.flux_model.specs.Graph.{Graph}
use Rattle.flux_model.specs.declared.graph.Triple.{Triple}
use Rattle.plain_match.specs.Limited.{KeepsLimits}
use Rattle.flux_laws.proofs.LimitLemmas.{without_triple_within}
use Rattle.flux_laws.proofs.OneMoreLemmas.{without_triple_graph}
use Rattle.plain_match.proofs.graph.PlainGraph.drop_edge.Goals as goal

-- the graph before
abbrev before : goal.After-remove_triple → Graph
before c = record { vertices = c.self.inside.vertices.items; triples = c.self.inside.triples.items }

is_kept : (c : goal.After-remove_triple) → KeepsLimits (record { limits = c.self.inside.limits; graph = record { vertices = c.self.inside.vertices.items; triples = c.remove_triple.new.triples.items } })
is_kept c =
    subst (λ (ts : List Triple). KeepsLimits (record { limits = c.self.inside.limits; graph = record { vertices = c.self.inside.vertices.items; triples = ts } })) (sym c.remove_triple.ensures)
    (record {
      graph = without_triple_graph (before c) c.args.t.now c.self.invariant.graph;
      within = without_triple_within c.self.inside.limits (before c) c.args.t.now c.self.invariant.within;
    })

pub invariant_of-self : goal.invariant_of-self
invariant_of-self c = is_kept c

pub returns-clause-kept : goal.returns-clause-kept
returns-clause-kept c = is_kept c
