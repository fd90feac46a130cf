use Rattle.std.proofs.Common.{◌≡◌, List, false, sym, ◌∙◌, ap, subst}
use Rattle.flux_model.specs.Graph.{Graph, has_incident_triple}
use Rattle.flux_model.specs.declared.graph.Vertex.{Vertex}
use Rattle.flux_model.specs.declared.graph.Triple.{Triple}
use Rattle.plain_match.specs.Limited.{KeepsLimits}
use Rattle.flux_laws.proofs.LimitLemmas.{without_vertex_within}
use Rattle.flux_laws.proofs.OneMoreLemmas.{without_vertex_graph}
use Rattle.plain_match.proofs.graph.PlainGraph.drop_vertex.Goals as goal

-- the graph before
abbrev before : goal.After-remove_vertex → Graph
before c = record { vertices = c.self.inside.vertices.items; triples = c.self.inside.triples.items }

free : (c : goal.After-remove_vertex) → has_incident_triple (before c) c.args.id ≡ false
free c =
    ap (λ (ts : List Triple). has_incident_triple (record { vertices = c.self.inside.vertices.items; triples = ts }) c.args.id) (sym c.as_slice-2.ensures.value)
    ∙ sym c.has_incident_triple.ensures ∙ c.if-has_incident_triple.false

is_kept : (c : goal.After-remove_vertex) → KeepsLimits (record { limits = c.self.inside.limits; graph = record { vertices = c.remove_vertex.new.vertices.items; triples = c.self.inside.triples.items } })
is_kept c =
    subst (λ (vs : List Vertex). KeepsLimits (record { limits = c.self.inside.limits; graph = record { vertices = vs; triples = c.self.inside.triples.items } })) (sym c.remove_vertex.ensures)
    (record {
      graph = without_vertex_graph (before c) c.args.id c.self.invariant.graph (free c);
      within = without_vertex_within c.self.inside.limits (before c) c.args.id c.self.invariant.within;
    })

pub invariant_of-self : goal.invariant_of-self
invariant_of-self c = is_kept c

pub returns-clause-kept : goal.returns-clause-kept
returns-clause-kept c = is_kept c
