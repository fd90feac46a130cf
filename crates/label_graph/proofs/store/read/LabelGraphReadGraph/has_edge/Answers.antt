use Rattle.std.proofs.Common.{map, sym, ◌∙◌}
use Rattle.std.specs.Map.{keys_of}
use Rattle.std.proofs.lemmas.Map.Made.{is_some-lookup}
use Rattle.label_graph.specs.Places.{vertex_of, link_eq}
use Rattle.label_graph.proofs.StoreLemmas.{has_triple_found, has_triple_unknown}
use Rattle.label_graph.proofs.store.read.LabelGraphReadGraph.has_edge.Goals as goal

pub returns-in-Some-clause-value : goal.returns-in-Some-clause-value
returns-in-Some-clause-value g c =
    c.contains_key.ensures
    ∙ (is_some-lookup (link_eq (record { src = c.args.src; label = c.in-Some.label; dst = c.args.dst })) c.args.self.now.places.entries
    ∙ sym (has_triple_found c.args.self.now.names (map vertex_of c.args.self.now.nodes.entries) (keys_of c.args.self.now.places.entries) c.args.self.now.named c.in-Some.ensures.table
    (record { src = c.args.src; label = c.in-Some.label; dst = c.args.dst }) c.args.label.now c.in-Some.ensures.found))

pub returns-in-None-clause-value : goal.returns-in-None-clause-value
returns-in-None-clause-value g c =
    sym (has_triple_unknown c.args.self.now.names (map vertex_of c.args.self.now.nodes.entries) (keys_of c.args.self.now.places.entries) c.args.self.now.named
    (record { src = c.args.src; label = c.args.label.now; dst = c.args.dst }) c.in-None.ensures.found)
