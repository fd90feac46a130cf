use Rattle.std.proofs.Common.{arith}
use Rattle.block_graph.proofs.StepLemmas.{step_fits, step_here, step_among, step_last, next_stands, step_over, over_place}
use Rattle.block_graph.proofs.store.BlockGraph.step_at.Goals as goal

pub offset_bounds-block-number : goal.offset_bounds-block-number
offset_bounds-block-number c = let some = c.if-at-eq0.false in let l = step_fits c.args.self.now.nodes.entries c.args.self.now.blocks.slots c.args.self.now.placed.rows (c.args._incoming, c.args._v) c.args.at.node c.args.at.place c.requires (omega (arith, some)) c.index-block.result.now c.index-block.ensures in omega (arith, l)

pub returns-then-number-gt0-clause-entry : goal.returns-then-number-gt0-clause-entry
returns-then-number-gt0-clause-entry c = let some = c.if-at-eq0.false in step_here c.args.self.now.nodes.entries c.args.self.now.blocks.slots c.args.self.now.placed.rows (c.args._incoming, c.args._v) c.args.at.node c.args.at.place c.requires (omega (arith, some)) c.index-block.result.now c.index-block.ensures (record { label = 0; other = 0 })

pub returns-then-number-gt0-clause-among : goal.returns-then-number-gt0-clause-among
returns-then-number-gt0-clause-among c = let some = c.if-at-eq0.false in step_among c.args.self.now.nodes.entries c.args.self.now.blocks.slots c.args.self.now.placed.rows (c.args._incoming, c.args._v) c.args.at.node c.args.at.place c.requires (omega (arith, some)) c.index-block.result.now c.index-block.ensures (record { label = 0; other = 0 })

pub returns-then-not-block-clause-entry : goal.returns-then-not-block-clause-entry
returns-then-not-block-clause-entry c = let some = c.if-at-eq0.false in step_here c.args.self.now.nodes.entries c.args.self.now.blocks.slots c.args.self.now.placed.rows (c.args._incoming, c.args._v) c.args.at.node c.args.at.place c.requires (omega (arith, some)) c.index-block.result.now c.index-block.ensures (record { label = 0; other = 0 })

pub returns-then-not-block-clause-among : goal.returns-then-not-block-clause-among
returns-then-not-block-clause-among c = let some = c.if-at-eq0.false in step_among c.args.self.now.nodes.entries c.args.self.now.blocks.slots c.args.self.now.placed.rows (c.args._incoming, c.args._v) c.args.at.node c.args.at.place c.requires (omega (arith, some)) c.index-block.result.now c.index-block.ensures (record { label = 0; other = 0 })

pub returns-then-not-block-clause-next : goal.returns-then-not-block-clause-next
returns-then-not-block-clause-next c = let some = c.if-at-eq0.false in step_last c.args.self.now.nodes.entries c.args.self.now.blocks.slots c.args.self.now.placed.rows (c.args._incoming, c.args._v) c.args.at.node c.args.at.place c.requires (omega (arith, some)) c.index-block.result.now c.index-block.ensures c.if-number-gt0.false c.if-not-block.true

pub index-behind-requires : goal.index-behind-requires
index-behind-requires c = let some = c.if-at-eq0.false in next_stands c.args.self.now.nodes.entries c.args.self.now.blocks.slots c.args.self.now.placed.rows (c.args._incoming, c.args._v) c.args.at.node c.args.at.place c.requires (omega (arith, some)) c.index-block.result.now c.index-block.ensures c.if-not-block.false

pub returns-clause-entry : goal.returns-clause-entry
returns-clause-entry c = let some = c.if-at-eq0.false in step_over c.args.self.now.nodes.entries c.args.self.now.blocks.slots c.args.self.now.placed.rows (c.args._incoming, c.args._v) c.args.at.node c.args.at.place c.requires (omega (arith, some)) c.index-block.result.now c.index-block.ensures c.if-not-block.false c.index-behind.result.now c.index-behind.ensures c.if-number-gt0.false (record { label = 0; other = 0 })

pub returns-clause-next : goal.returns-clause-next
returns-clause-next c = let some = c.if-at-eq0.false in over_place c.args.self.now.nodes.entries c.args.self.now.blocks.slots c.args.self.now.placed.rows (c.args._incoming, c.args._v) c.args.at.node c.args.at.place c.requires (omega (arith, some)) c.index-block.result.now c.index-block.ensures c.if-not-block.false c.index-behind.result.now c.index-behind.ensures

pub returns-clause-among : goal.returns-clause-among
returns-clause-among c = let some = c.if-at-eq0.false in step_among c.args.self.now.nodes.entries c.args.self.now.blocks.slots c.args.self.now.placed.rows (c.args._incoming, c.args._v) c.args.at.node c.args.at.place c.requires (omega (arith, some)) c.index-block.result.now c.index-block.ensures (record { label = 0; other = 0 })
