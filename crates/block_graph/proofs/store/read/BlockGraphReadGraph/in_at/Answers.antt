use Rattle.std.proofs.Common.{true}
use Rattle.block_graph.proofs.SideRowLemmas.{among_row, label_named, end_vertex}
use Rattle.block_graph.proofs.store.read.BlockGraphReadGraph.in_at.Goals as goal

pub text-requires : goal.text-requires
text-requires g c = label_named c.args.self.now.nodes.entries c.args.self.now.blocks.slots c.args.self.now.places.entries c.args.self.now.placed c.args.self.now.names c.args.self.now.named (true, c.args.v) c.in_ok-step.step.entry (among_row c.args.self.now.nodes.entries c.args.self.now.blocks.slots c.args.self.now.places.entries c.args.self.now.placed (true, c.args.v) c.in_ok-step.step.entry c.in_ok-step.ensures.among)

pub returns-clause-end : goal.returns-clause-end
returns-clause-end g c = end_vertex c.args.self.now.nodes.entries c.args.self.now.blocks.slots c.args.self.now.places.entries c.args.self.now.placed c.args.self.now.names c.args.self.now.named (true, c.args.v) c.in_ok-step.step.entry (among_row c.args.self.now.nodes.entries c.args.self.now.blocks.slots c.args.self.now.places.entries c.args.self.now.placed (true, c.args.v) c.in_ok-step.step.entry c.in_ok-step.ensures.among)
