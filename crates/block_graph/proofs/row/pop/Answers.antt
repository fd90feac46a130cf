use Rattle.std.proofs.Common.{refl}
use Rattle.block_graph.proofs.PushLemmas.{first_stands}
use Rattle.block_graph.proofs.PullLemmas.{shortened_rows, closed_rows}
use Rattle.block_graph.proofs.RowsLemmas.{chains_others}
use Rattle.block_graph.proofs.row.pop.Goals as goal

pub index-block-requires : goal.index-block-requires
index-block-requires c = first_stands c.args.nodes.now.entries c.args.blocks.now.slots (c.args.incoming, c.args.v.id) c.args.chain c.requires.rows c.requires.begins c.requires.some

pub returns-then-block-gt1-clause-rows : goal.returns-then-block-gt1-clause-rows
returns-then-block-gt1-clause-rows c =
    shortened_rows c.args.nodes.now.entries c.args.nodes.now.entries c.args.blocks.now.slots c.shorten.new.blocks.slots (c.args.incoming, c.args.v.id) c.args.chain c.requires.rows c.requires.begins c.requires.some
    c.index-block.result.now c.index-block.ensures c.shorten.ensures.others c.if-block-gt1.true c.shorten.ensures.here

pub returns-clause-rows : goal.returns-clause-rows
returns-clause-rows c =
    closed_rows c.args.nodes.now.entries c.set_chain.new.nodes.entries c.args.blocks.now.slots c.remove.new.self.slots (c.args.incoming, c.args.v.id) c.args.chain c.requires.rows c.requires.begins c.requires.some
    c.index-block.result.now c.index-block.ensures c.remove.ensures.updates.others c.if-block-gt1.false c.remove.ensures.updates.changed _ refl refl
    (chains_others c.args.nodes.now.entries c.set_chain.new.nodes.entries c.args.incoming c.args.v.id c.set_chain.ensures.side c.set_chain.ensures.others) c.set_chain.ensures.here
