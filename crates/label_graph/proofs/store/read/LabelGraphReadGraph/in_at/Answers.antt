use Rattle.label_graph.proofs.RowLemmas.{in_entry, in_known, in_end}
use Rattle.label_graph.proofs.store.read.LabelGraphReadGraph.in_at.Goals as goal

pub text-requires : goal.text-requires
text-requires g c =
    in_known c.args.self.now.names c.args.self.now.nodes.entries c.args.self.now.places.entries c.args.self.now.placed c.args.self.now.named c.args.v _ c.in_ok-entry.entry.now
    (in_entry c.args.self.now.nodes.entries c.args.v c.node_at.result.now c.node_at.ensures c.deref.result.now _ c.in_ok-entry.entry.now
    c.in_ok-entry.ensures.lookup.3.0 c.in_ok-entry.ensures.lookup.1 c.deref.ensures.value)

pub returns-clause-end : goal.returns-clause-end
returns-clause-end g c =
    in_end c.args.self.now.names c.args.self.now.nodes.entries c.args.self.now.places.entries c.args.self.now.placed c.args.self.now.named c.args.v _ c.in_ok-entry.entry.now
    (in_entry c.args.self.now.nodes.entries c.args.v c.node_at.result.now c.node_at.ensures c.deref.result.now _ c.in_ok-entry.entry.now
    c.in_ok-entry.ensures.lookup.3.0 c.in_ok-entry.ensures.lookup.1 c.deref.ensures.value)
