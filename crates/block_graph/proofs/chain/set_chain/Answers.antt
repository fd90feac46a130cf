use Rattle.std.proofs.Common.{Some, sym, ap, ◌∙◌}
use Rattle.std.specs.Option.{option_copied_mut}
use Rattle.label_graph.specs.declared.link.Node.{Node}
use Rattle.label_graph.proofs.NodeLemmas.{here, same, other, keys, vertices}
use Rattle.block_graph.specs.declared.chain.Chain.{Chain}
use Rattle.block_graph.specs.Chains.{chain_of}
use Rattle.block_graph.proofs.ChainLemmas.{chain_written, chain_beside}
use Rattle.block_graph.proofs.chain.set_chain.Goals as goal

pub returns-clause-here : goal.returns-clause-here
returns-clause-here c =
    let was = sym c.get_index_mut.ensures.value ∙ ap option_copied_mut c.unwrap-node.ensures in
    ap (chain_of c.args.incoming) (here c.args.nodes.now c.args.v c.unwrap-node.result.now c.put_chain.new.node c.get_index_mut.ensures.unique c.requires was)
    ∙ (ap (λ (p : Node Chain). chain_of c.args.incoming (Some p)) c.put_chain.ensures ∙ chain_written c.args.incoming c.args.chain c.unwrap-node.result.now)

pub returns-clause-side : goal.returns-clause-side
returns-clause-side c =
    let was = sym c.get_index_mut.ensures.value ∙ ap option_copied_mut c.unwrap-node.ensures in
    λ s n. same c.args.nodes.now c.args.v c.unwrap-node.result.now c.put_chain.new.node c.get_index_mut.ensures.unique c.requires was (chain_of s)
    (ap (λ (p : Node Chain). chain_of s (Some p)) c.put_chain.ensures ∙ chain_beside s c.args.incoming c.args.chain c.unwrap-node.result.now n) c.args.v.id

pub returns-clause-others : goal.returns-clause-others
returns-clause-others c =
    let was = sym c.get_index_mut.ensures.value ∙ ap option_copied_mut c.unwrap-node.ensures in
    λ s. other c.args.nodes.now c.args.v c.unwrap-node.result.now c.put_chain.new.node c.get_index_mut.ensures.unique c.requires was (chain_of s)

pub returns-clause-vertices : goal.returns-clause-vertices
returns-clause-vertices c =
    let was = sym c.get_index_mut.ensures.value ∙ ap option_copied_mut c.unwrap-node.ensures in
    vertices c.args.nodes.now c.args.v c.unwrap-node.result.now c.put_chain.new.node c.get_index_mut.ensures.unique c.requires was (ap (λ (p : Node Chain). p.labels) c.put_chain.ensures)

pub returns-clause-keys : goal.returns-clause-keys
returns-clause-keys c =
    let was = sym c.get_index_mut.ensures.value ∙ ap option_copied_mut c.unwrap-node.ensures in
    keys c.args.nodes.now c.args.v c.unwrap-node.result.now c.put_chain.new.node c.get_index_mut.ensures.unique c.requires was
