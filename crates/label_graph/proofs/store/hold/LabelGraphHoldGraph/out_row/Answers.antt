use Rattle.label_graph.proofs.RowLemmas.{out_row_is}
use Rattle.label_graph.proofs.store.hold.LabelGraphHoldGraph.out_row.Goals as goal

pub returns-clause-all : goal.returns-clause-all
returns-clause-all c =
    out_row_is c.args.self.now.names c.args.self.now.nodes.entries c.args.self.now.places.entries c.args.self.now.placed c.args.self.now.named c.len-names.ensures.table c.args.v
