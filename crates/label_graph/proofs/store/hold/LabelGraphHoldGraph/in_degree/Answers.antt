use Rattle.std.proofs.Common.{ap, length, sym, ◌∙◌}
use Rattle.label_graph.specs.Places.{ins_of}
use Rattle.label_graph.proofs.RowLemmas.{in_degree_is}
use Rattle.label_graph.proofs.store.hold.LabelGraphHoldGraph.in_degree.Goals as goal

pub returns : goal.returns
returns c =
    ap length c.as_slice.ensures.value
    ∙ (sym (ap (λ o. length (ins_of o)) c.node.ensures)
    ∙ in_degree_is c.args.self.now.names c.args.self.now.nodes.entries c.args.self.now.places.entries c.args.self.now.placed c.args.self.now.named c.len-names.ensures.table c.args.v)
