use Rattle.std.proofs.Common.{map, ◌∙◌}
use Rattle.std.specs.Map.{keys_of}
use Rattle.std.proofs.lemmas.Map.Made.{is_some-lookup}
use Rattle.label_graph.specs.Places.{vertex_of, link_eq}
use Rattle.label_graph.proofs.NumberLemmas.{stands_by}
use Rattle.label_graph.proofs.store.read.LabelGraphReadGraph.has_edge_by.Goals as goal

pub returns-clause-value : goal.returns-clause-value
returns-clause-value g c =
    c.contains_key.ensures
    ∙ (is_some-lookup (link_eq (record { src = c.args.src; label = c.args.number; dst = c.args.dst })) c.args.self.now.places.entries
    ∙ stands_by c.args.self.now.names (map vertex_of c.args.self.now.nodes.entries) (keys_of c.args.self.now.places.entries) c.args.self.now.named
    (record { src = c.args.src; label = c.args.number; dst = c.args.dst }) c.len-names.ensures.table)
