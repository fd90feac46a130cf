use Rattle.std.proofs.Common.{sym, ◌∙◌}
use Rattle.std.specs.Map.{keys_of}
use Rattle.label_graph.proofs.StoreLemmas.{has_vertex_of}
use Rattle.label_graph.proofs.store.read.LabelGraphReadGraph.has_vertex.Goals as goal

pub returns-clause-value : goal.returns-clause-value
returns-clause-value g c = c.contains_key.ensures ∙ sym (has_vertex_of c.args.self.now.names c.args.self.now.nodes.entries (keys_of c.args.self.now.places.entries) c.args.v)
