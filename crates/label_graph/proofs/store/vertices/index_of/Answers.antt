use Rattle.std.proofs.Common.{sym}
use Rattle.std.specs.Map.{keys_of}
use Rattle.label_graph.proofs.NodeLemmas.{at_position}
use Rattle.label_graph.proofs.store.vertices.index_of.Goals as goal

pub returns-clause-at : goal.returns-clause-at
returns-clause-at g c = at_position (keys_of c.args.nodes.now.entries) c.args.v c.get_index_of.result c.get_index_of.ensures.index

pub returns-clause-stands : goal.returns-clause-stands
returns-clause-stands g c = sym c.get_index_of.ensures.found
