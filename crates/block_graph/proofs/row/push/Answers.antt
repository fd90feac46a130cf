use Rattle.std.proofs.Common.{refl, sym, ◌∙◌, arith}
use Rattle.block_graph.proofs.PushLemmas.{first_stands, space_stands, pushed_rows, pushed_here, pushed_others, grown_rows}
use Rattle.block_graph.proofs.RowsLemmas.{chains_others}
use Rattle.block_graph.proofs.row.push.Goals as goal

pub has_space-requires : goal.has_space-requires
has_space-requires c = first_stands c.args.nodes.now.entries c.args.blocks.now.slots (c.args.incoming, c.args.v.id) c.chain_of_member-chain.result c.requires.rows c.chain_of_member-chain.ensures

pub append-number-requires-clause-stands : goal.append-number-requires-clause-stands
append-number-requires-clause-stands c =
    space_stands c.args.nodes.now.entries c.args.blocks.now.slots (c.args.incoming, c.args.v.id) c.chain_of_member-chain.result c.requires.rows c.chain_of_member-chain.ensures
    c.args.blocks.now.slots c.args.entry (sym c.has_space.ensures ∙ c.if-has_space.true)

pub returns-then-has_space-clause-rows : goal.returns-then-has_space-clause-rows
returns-then-has_space-clause-rows c =
    pushed_rows c.args.nodes.now.entries c.args.blocks.now.slots (c.args.incoming, c.args.v.id) c.chain_of_member-chain.result c.requires.rows c.chain_of_member-chain.ensures
    c.append-number.new.blocks.slots c.args.entry (sym c.has_space.ensures ∙ c.if-has_space.true) c.append-number.ensures.here c.append-number.ensures.others

pub returns-then-has_space-clause-here : goal.returns-then-has_space-clause-here
returns-then-has_space-clause-here c =
    pushed_here c.args.nodes.now.entries c.args.blocks.now.slots (c.args.incoming, c.args.v.id) c.chain_of_member-chain.result c.requires.rows c.chain_of_member-chain.ensures
    c.append-number.new.blocks.slots c.args.entry (sym c.has_space.ensures ∙ c.if-has_space.true) c.append-number.ensures.here c.append-number.ensures.others
    c.append-number.result c.append-number.ensures.number

pub returns-then-has_space-clause-others : goal.returns-then-has_space-clause-others
returns-then-has_space-clause-others c =
    pushed_others c.args.nodes.now.entries c.args.blocks.now.slots (c.args.incoming, c.args.v.id) c.chain_of_member-chain.result c.requires.rows c.chain_of_member-chain.ensures
    c.append-number.new.blocks.slots c.args.entry (sym c.has_space.ensures ∙ c.if-has_space.true) c.append-number.ensures.here c.append-number.ensures.others
    c.append-number.result c.append-number.ensures.number

pub returns-then-has_space-clause-keeps : goal.returns-then-has_space-clause-keeps
returns-then-has_space-clause-keeps c = λ m h. c.append-number.ensures.keeps m (omega (arith, h))

pub returns-clause-rows : goal.returns-clause-rows
returns-clause-rows c =
    grown_rows c.args.nodes.now.entries c.args.blocks.now.slots (c.args.incoming, c.args.v.id) c.chain_of_member-chain.result c.requires.rows c.chain_of_member-chain.ensures
    c.set_chain.new.nodes.entries c.start-block.new.blocks.slots c.start-block.result _ c.args.entry (sym c.has_space.ensures ∙ c.if-has_space.false)
    c.start-block.ensures.free c.start-block.ensures.here c.start-block.ensures.others
    (chains_others c.args.nodes.now.entries c.set_chain.new.nodes.entries c.args.incoming c.args.v.id c.set_chain.ensures.side c.set_chain.ensures.others) c.set_chain.ensures.here
    refl refl refl refl refl
