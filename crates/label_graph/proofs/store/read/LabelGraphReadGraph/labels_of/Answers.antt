use Rattle.std.specs.Map.{keys_of}
use Rattle.label_graph.proofs.ReadLemmas.{labels_found}
use Rattle.label_graph.proofs.store.read.LabelGraphReadGraph.labels_of.Goals as goal

pub returns-clause-labels : goal.returns-clause-labels
returns-clause-labels g c = labels_found c.args.self.now.names c.args.self.now.nodes.entries (keys_of c.args.self.now.places.entries) c.args.self.now.named c.args.v c.node.result.now c.node.ensures
