use Rattle.std.proofs.Common.{◌≡◌, ℕ, refl, sym, ap, ◌∙◌}
use Rattle.block_graph.specs.Blocks.{seen_at}
use Rattle.block_graph.specs.Rows.{at, row_of, last_of}
use Rattle.block_graph.proofs.PushLemmas.{first_stands}
use Rattle.block_graph.proofs.PullLemmas.{chain_some, first_fits, last_seen, last_at, place_stands, place_within, replaced_rows, replaced}
use Rattle.block_graph.proofs.row.pull.Goals as goal

pub pop-requires-clause-some : goal.pop-requires-clause-some
pop-requires-clause-some c = chain_some c.args.nodes.now.entries c.args.blocks.now.slots c.requires.rows (at c.args.place) c.args.incoming c.args._k c.requires.seen (c.args.incoming, c.args.v.id) c.requires.end c.chain_of_member-chain.result c.chain_of_member-chain.ensures

pub last-requires-clause-stands : goal.last-requires-clause-stands
last-requires-clause-stands c = first_stands c.args.nodes.now.entries c.args.blocks.now.slots (c.args.incoming, c.args.v.id) c.chain_of_member-chain.result c.requires.rows c.chain_of_member-chain.ensures
    (chain_some c.args.nodes.now.entries c.args.blocks.now.slots c.requires.rows (at c.args.place) c.args.incoming c.args._k c.requires.seen (c.args.incoming, c.args.v.id) c.requires.end c.chain_of_member-chain.result c.chain_of_member-chain.ensures)

pub last-requires-clause-some : goal.last-requires-clause-some
last-requires-clause-some c = (first_fits c.args.nodes.now.entries c.args.nodes.now.entries c.args.blocks.now.slots c.args.blocks.now.slots (c.args.incoming, c.args.v.id) c.chain_of_member-chain.result c.requires.rows c.chain_of_member-chain.ensures
    (chain_some c.args.nodes.now.entries c.args.blocks.now.slots c.requires.rows (at c.args.place) c.args.incoming c.args._k c.requires.seen (c.args.incoming, c.args.v.id) c.requires.end c.chain_of_member-chain.result c.chain_of_member-chain.ensures)).0

pub last-requires-clause-fits : goal.last-requires-clause-fits
last-requires-clause-fits c = (first_fits c.args.nodes.now.entries c.args.nodes.now.entries c.args.blocks.now.slots c.args.blocks.now.slots (c.args.incoming, c.args.v.id) c.chain_of_member-chain.result c.requires.rows c.chain_of_member-chain.ensures
    (chain_some c.args.nodes.now.entries c.args.blocks.now.slots c.requires.rows (at c.args.place) c.args.incoming c.args._k c.requires.seen (c.args.incoming, c.args.v.id) c.requires.end c.chain_of_member-chain.result c.chain_of_member-chain.ensures)).1

pub write-requires-clause-stands : goal.write-requires-clause-stands
write-requires-clause-stands c =
    let same = last_at c.args.nodes.now.entries c.args.blocks.now.slots (c.args.incoming, c.args.v.id) (c.args.incoming, c.args.v.id) c.chain_of_member-chain.result c.last.result.0.block c.last.result.0.number c.chain_of_member-chain.ensures refl c.last.ensures.block c.last.ensures.number in
    place_stands c.pop.new.nodes.entries c.args.blocks.now.slots c.pop.new.blocks.slots (at c.args.place) (last_of c.args.nodes.now.entries c.args.blocks.now.slots (c.args.incoming, c.args.v.id)) c.args.incoming c.args._k c.requires.seen
    (λ e. c.if-same_place.ensures.apart (e ∙ sym same)) c.pop.ensures.rows c.pop.ensures.gone c.pop.ensures.others

pub write-requires-clause-within : goal.write-requires-clause-within
write-requires-clause-within c =
    let same = last_at c.args.nodes.now.entries c.args.blocks.now.slots (c.args.incoming, c.args.v.id) (c.args.incoming, c.args.v.id) c.chain_of_member-chain.result c.last.result.0.block c.last.result.0.number c.chain_of_member-chain.ensures refl c.last.ensures.block c.last.ensures.number in
    place_within c.pop.new.nodes.entries c.args.blocks.now.slots c.pop.new.blocks.slots (at c.args.place) (last_of c.args.nodes.now.entries c.args.blocks.now.slots (c.args.incoming, c.args.v.id)) c.args.incoming c.args._k c.requires.seen
    (λ e. c.if-same_place.ensures.apart (e ∙ sym same)) c.pop.ensures.rows c.pop.ensures.gone c.pop.ensures.others

pub returns-clause-rows : goal.returns-clause-rows
returns-clause-rows c =
    let same = last_at c.args.nodes.now.entries c.args.blocks.now.slots (c.args.incoming, c.args.v.id) (c.args.incoming, c.args.v.id) c.chain_of_member-chain.result c.last.result.0.block c.last.result.0.number c.chain_of_member-chain.ensures refl c.last.ensures.block c.last.ensures.number in
    replaced_rows c.pop.new.nodes.entries c.args.blocks.now.slots c.pop.new.blocks.slots (at c.args.place) (last_of c.args.nodes.now.entries c.args.blocks.now.slots (c.args.incoming, c.args.v.id)) c.args.incoming c.args._k c.requires.seen
    (λ e. c.if-same_place.ensures.apart (e ∙ sym same)) c.pop.ensures.rows c.pop.ensures.gone c.pop.ensures.others c.write.new.blocks.slots c.last.result.1 c.write.ensures.here c.write.ensures.others

pub returns-clause-pulled : goal.returns-clause-pulled
returns-clause-pulled c =
    let same = last_at c.args.nodes.now.entries c.args.blocks.now.slots (c.args.incoming, c.args.v.id) (row_of c.args.incoming c.args._k) c.chain_of_member-chain.result c.last.result.0.block c.last.result.0.number c.chain_of_member-chain.ensures c.requires.end c.last.ensures.block c.last.ensures.number in
    let near = last_at c.args.nodes.now.entries c.args.blocks.now.slots (c.args.incoming, c.args.v.id) (c.args.incoming, c.args.v.id) c.chain_of_member-chain.result c.last.result.0.block c.last.result.0.number c.chain_of_member-chain.ensures refl c.last.ensures.block c.last.ensures.number in
    let lasts : last_of c.args.nodes.now.entries c.args.blocks.now.slots (c.args.incoming, c.args.v.id) ≡ last_of c.args.nodes.now.entries c.args.blocks.now.slots (row_of c.args.incoming c.args._k) = sym near ∙ same in
    let gone = sym (ap (λ (a : ℕ × ℕ). seen_at c.pop.new.blocks.slots a) lasts) ∙ c.pop.ensures.gone in
    replaced c.pop.new.nodes.entries c.args.blocks.now.slots c.pop.new.blocks.slots (at c.args.place) (last_of c.args.nodes.now.entries c.args.blocks.now.slots (row_of c.args.incoming c.args._k)) c.args.incoming c.args._k c.requires.seen
    (λ e. c.if-same_place.ensures.apart (e ∙ sym same)) c.pop.ensures.rows gone (λ a n. c.pop.ensures.others a (λ e. n (e ∙ lasts))) c.write.new.blocks.slots c.last.result.1 c.write.ensures.here c.write.ensures.others
    (last_seen c.args.nodes.now.entries c.args.blocks.now.slots c.requires.rows (at c.args.place) c.args.incoming c.args._k c.requires.seen (c.args.incoming, c.args.v.id) c.requires.end c.chain_of_member-chain.result c.chain_of_member-chain.ensures
    (at c.last.result.0) near c.last.result.1 c.last.ensures.entry)

pub returns-clause-moved : goal.returns-clause-moved
returns-clause-moved c =
    let same = last_at c.args.nodes.now.entries c.args.blocks.now.slots (c.args.incoming, c.args.v.id) (row_of c.args.incoming c.args._k) c.chain_of_member-chain.result c.last.result.0.block c.last.result.0.number c.chain_of_member-chain.ensures c.requires.end c.last.ensures.block c.last.ensures.number in
    let near = last_at c.args.nodes.now.entries c.args.blocks.now.slots (c.args.incoming, c.args.v.id) (c.args.incoming, c.args.v.id) c.chain_of_member-chain.result c.last.result.0.block c.last.result.0.number c.chain_of_member-chain.ensures refl c.last.ensures.block c.last.ensures.number in (
      (λ e. c.if-same_place.ensures.apart (e ∙ sym same)),
      last_seen c.args.nodes.now.entries c.args.blocks.now.slots c.requires.rows (at c.args.place) c.args.incoming c.args._k c.requires.seen (c.args.incoming, c.args.v.id) c.requires.end c.chain_of_member-chain.result c.chain_of_member-chain.ensures
          (at c.last.result.0) near c.last.result.1 c.last.ensures.entry,
    )
