use Rattle.std.proofs.Common.{map}
use Rattle.std.specs.Map.{keys_of}
use Rattle.label_graph.specs.Places.{vertex_of}
use Rattle.label_graph.proofs.NumberLemmas.{lacks_where_none}
use Rattle.label_graph.proofs.store.hold.LabelGraphHoldGraph.label_number.Goals as goal

pub returns-clause-absent : goal.returns-clause-absent
returns-clause-absent c =
    lacks_where_none c.args.self.now.names (map vertex_of c.args.self.now.nodes.entries) (keys_of c.args.self.now.places.entries) c.args.self.now.named c.args.label.now c.find.result c.find.ensures.found
