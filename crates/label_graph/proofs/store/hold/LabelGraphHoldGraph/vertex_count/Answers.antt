use Rattle.std.proofs.Common.{◌∙◌}
use Rattle.std.specs.Map.{keys_of}
use Rattle.label_graph.proofs.ReadLemmas.{ids_listed, vertices_counted}
use Rattle.label_graph.proofs.store.hold.LabelGraphHoldGraph.vertex_count.Goals as goal

pub returns-clause-count : goal.returns-clause-count
returns-clause-count c =
    c.len.ensures.len
    ∙ vertices_counted c.args.self.now.names c.args.self.now.nodes.entries (keys_of c.args.self.now.places.entries) c.args.self.now.named c.len.ensures.unique

pub returns-clause-listed : goal.returns-clause-listed
returns-clause-listed c = ids_listed c.args.self.now.names c.args.self.now.nodes.entries (keys_of c.args.self.now.places.entries) c.args.self.now.named c.len.ensures.unique
