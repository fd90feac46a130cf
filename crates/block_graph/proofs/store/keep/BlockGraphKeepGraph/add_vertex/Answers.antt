use Rattle.std.proofs.Common.{◌≡◌, ◌||◌, ℕ, length, false, List, map, sym, subst, ◌∙◌}
use Rattle.std.specs.Prelude.{nat_le, nat_lt}
use Rattle.std.specs.Map.{keys_of}
use Rattle.flux_model.specs.Graph.{Graph, name_count}
use Rattle.label_graph.specs.declared.link.Node.{Node}
use Rattle.graph_traits.specs.WithinLimits.{IsWithinLimits}
use Rattle.label_graph.specs.Places.{vertex_of}
use Rattle.block_graph.specs.declared.chain.Chain.{Chain}
use Rattle.block_graph.specs.Places.{ArePlaced}
use Rattle.block_graph.proofs.VertexLemmas.{chains_more, placed_kept}
use Rattle.label_graph.specs.Store.{kept_graph}
use Rattle.label_graph.proofs.StoreLemmas.{has_vertex_of}
use Rattle.label_graph.proofs.VertexCountLemmas.{room_is}
use Rattle.label_graph.proofs.VertexStoreLemmas.{add_vertex_stands, add_vertex_full, added_named, added_vertex, added_held, kept_named, kept_same}
use Rattle.block_graph.proofs.store.keep.BlockGraphKeepGraph.add_vertex.Goals as goal

pub returns-then-contains_key-clause-refused : goal.returns-then-contains_key-clause-refused
returns-then-contains_key-clause-refused c =
    add_vertex_stands c.args.self.now.limits (kept_graph c.args.self.now.names (map vertex_of c.args.self.now.nodes.entries) (keys_of c.args.self.now.places.entries)) (record { id = c.args.id; labels = c.args.labels.now })
    (has_vertex_of c.args.self.now.names c.args.self.now.nodes.entries (keys_of c.args.self.now.places.entries) c.args.id ∙ (sym c.contains_key.ensures ∙ c.if-contains_key.true))

pub returns-then-lacks_room-clause-refused : goal.returns-then-lacks_room-clause-refused
returns-then-lacks_room-clause-refused c =
    add_vertex_full c.args.self.now.limits (kept_graph c.args.self.now.names (map vertex_of c.args.self.now.nodes.entries) (keys_of c.args.self.now.places.entries)) (record { id = c.args.id; labels = c.args.labels.now })
    (has_vertex_of c.args.self.now.names c.args.self.now.nodes.entries (keys_of c.args.self.now.places.entries) c.args.id ∙ (sym c.contains_key.ensures ∙ c.if-contains_key.false))
    (room_is c.args.self.now.limits c.args.self.now.names c.args.self.now.nodes.entries (keys_of c.args.self.now.places.entries) c.args.labels.now c.len-2.result c.len-3.result c.count_unknown-unknown.result
    c.args.self.now.named c.len-3.ensures.table c.len.ensures.set.ascending c.len-2.ensures.unique c.len-2.ensures.len c.len-3.ensures.value c.count_unknown-unknown.ensures
    ∙ (sym c.lacks_room.ensures ∙ c.if-lacks_room.true))

pub invariant_of-self-in-Break-branch-3 : goal.invariant_of-self-in-Break-branch-3
invariant_of-self-in-Break-branch-3 c =
    let P : List (ℕ × Node Chain) → Type 0 = λ nodes. ArePlaced nodes c.args.self.now.blocks.slots c.args.self.now.places.entries in
    let Q : Graph → Type 0 = λ g. IsWithinLimits c.args.self.now.limits g in
    record {
      placed = subst P (sym c.reserve.ensures.entries) c.args.self.now.placed;
      named = kept_named c.args.self.now.names c.raise_all.new.self c.args.self.now.nodes.entries c.reserve.new.self.entries (keys_of c.args.self.now.places.entries) c.in_err-raise_all.ensures.same c.reserve.ensures.entries c.args.self.now.named;
      held = subst Q (sym (kept_same c.args.self.now.names c.raise_all.new.self c.args.self.now.nodes.entries c.reserve.new.self.entries (keys_of c.args.self.now.places.entries) c.in_err-raise_all.ensures.same c.reserve.ensures.entries)) c.args.self.now.held;
    }

pub invariant_of-self-2 : goal.invariant_of-self-2
invariant_of-self-2 c =
    let room : nat_le c.args.self.now.limits.vertices (length (kept_graph c.args.self.now.names (map vertex_of c.args.self.now.nodes.entries) (keys_of c.args.self.now.places.entries)).vertices)
    || nat_lt c.args.self.now.limits.labels (name_count (kept_graph c.args.self.now.names (map vertex_of c.args.self.now.nodes.entries) (keys_of c.args.self.now.places.entries)) c.args.labels.now) ≡ false =
    room_is c.args.self.now.limits c.args.self.now.names c.args.self.now.nodes.entries (keys_of c.args.self.now.places.entries) c.args.labels.now c.len-2.result c.len-3.result c.count_unknown-unknown.result
    c.args.self.now.named c.len-3.ensures.table c.len.ensures.set.ascending c.len-2.ensures.unique c.len-2.ensures.len c.len-3.ensures.value c.count_unknown-unknown.ensures
    ∙ (sym c.lacks_room.ensures ∙ c.if-lacks_room.false) in
    record {
      placed = placed_kept c.args.self.now.nodes.entries c.put_node.new.nodes.entries c.args.self.now.blocks.slots (chains_more c.args.id c.args.self.now.nodes.entries c.put_node.new.nodes.entries c.reserve.new.self.entries c.in_ok-node.node c.reserve.ensures.entries c.put_node.ensures.found
          (sym c.contains_key.ensures ∙ c.if-contains_key.false) c.in_ok-node.ensures.outs c.in_ok-node.ensures.ins) c.args.self.now.places.entries c.args.self.now.placed;
      named = added_named c.args.self.now.limits c.args.self.now.names c.raise_all.new.self c.args.self.now.nodes.entries c.reserve.new.self.entries c.put_node.new.nodes.entries (keys_of c.args.self.now.places.entries) c.args.id c.in_ok-node.node c.args.labels.now
          c.args.self.now.named (sym c.contains_key.ensures ∙ c.if-contains_key.false) room
          c.in_ok-node.ensures.labels c.reserve.ensures.entries c.put_node.ensures.entries c.in_ok-raise_all.ensures.raised;
      held = added_held c.args.self.now.limits c.args.self.now.names c.raise_all.new.self c.args.self.now.nodes.entries c.reserve.new.self.entries c.put_node.new.nodes.entries (keys_of c.args.self.now.places.entries) c.args.id c.in_ok-node.node c.args.labels.now
          c.args.self.now.named (sym c.contains_key.ensures ∙ c.if-contains_key.false) room
          c.in_ok-node.ensures.labels c.reserve.ensures.entries c.put_node.ensures.entries c.in_ok-raise_all.ensures.raised
          c.ranges.id.fits c.len.ensures.set c.args.self.now.held;
    }

pub returns-clause-ok : goal.returns-clause-ok
returns-clause-ok c =
    let room : nat_le c.args.self.now.limits.vertices (length (kept_graph c.args.self.now.names (map vertex_of c.args.self.now.nodes.entries) (keys_of c.args.self.now.places.entries)).vertices)
    || nat_lt c.args.self.now.limits.labels (name_count (kept_graph c.args.self.now.names (map vertex_of c.args.self.now.nodes.entries) (keys_of c.args.self.now.places.entries)) c.args.labels.now) ≡ false =
    room_is c.args.self.now.limits c.args.self.now.names c.args.self.now.nodes.entries (keys_of c.args.self.now.places.entries) c.args.labels.now c.len-2.result c.len-3.result c.count_unknown-unknown.result
    c.args.self.now.named c.len-3.ensures.table c.len.ensures.set.ascending c.len-2.ensures.unique c.len-2.ensures.len c.len-3.ensures.value c.count_unknown-unknown.ensures
    ∙ (sym c.lacks_room.ensures ∙ c.if-lacks_room.false) in
    added_vertex c.args.self.now.limits c.args.self.now.names c.raise_all.new.self c.args.self.now.nodes.entries c.reserve.new.self.entries c.put_node.new.nodes.entries (keys_of c.args.self.now.places.entries) c.args.id c.in_ok-node.node c.args.labels.now
    c.args.self.now.named (sym c.contains_key.ensures ∙ c.if-contains_key.false) room
    c.in_ok-node.ensures.labels c.reserve.ensures.entries c.put_node.ensures.entries c.in_ok-raise_all.ensures.raised
