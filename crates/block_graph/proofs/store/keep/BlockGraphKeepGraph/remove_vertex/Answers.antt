use Rattle.std.proofs.Common.{◌≡◌, Some, map, sym, ◌∙◌}
use Rattle.std.specs.Prelude.{nat_eq}
use Rattle.std.specs.Map.{lookup, keys_of}
use Rattle.label_graph.specs.Places.{vertex_of}
use Rattle.label_graph.specs.Store.{kept_graph}
use Rattle.label_graph.proofs.StoreLemmas.{has_vertex_of}
use Rattle.block_graph.proofs.VertexLemmas.{incident_is, chains_left, placed_kept}
use Rattle.label_graph.proofs.VertexStoreLemmas.{drop_vertex_unknown, drop_vertex_busy, dropped_named, dropped, dropped_held}
use Rattle.block_graph.proofs.store.keep.BlockGraphKeepGraph.remove_vertex.Goals as goal

pub returns-then-not-contains_key-clause-refused : goal.returns-then-not-contains_key-clause-refused
returns-then-not-contains_key-clause-refused c =
    drop_vertex_unknown (kept_graph c.args.self.now.names (map vertex_of c.args.self.now.nodes.entries) (keys_of c.args.self.now.places.entries)) c.args.id
    (has_vertex_of c.args.self.now.names c.args.self.now.nodes.entries (keys_of c.args.self.now.places.entries) c.args.id ∙ (sym c.contains_key.ensures ∙ c.if-not-contains_key.true))

pub returns-then-has_entries-clause-refused : goal.returns-then-has_entries-clause-refused
returns-then-has_entries-clause-refused c =
    drop_vertex_busy (kept_graph c.args.self.now.names (map vertex_of c.args.self.now.nodes.entries) (keys_of c.args.self.now.places.entries)) c.args.id
    (has_vertex_of c.args.self.now.names c.args.self.now.nodes.entries (keys_of c.args.self.now.places.entries) c.args.id ∙ (sym c.contains_key.ensures ∙ c.if-not-contains_key.false))
    (incident_is c.args.self.now.nodes.entries c.args.self.now.blocks.slots c.args.self.now.places.entries c.args.self.now.placed c.args.id c.args.self.now.names (map vertex_of c.args.self.now.nodes.entries)
    ∙ (sym c.has_entries.ensures ∙ c.if-has_entries.true))

pub invariant_of-self : goal.invariant_of-self
invariant_of-self c =
    let found : lookup (nat_eq c.args.id) c.args.self.now.nodes.entries ≡ Some c.unwrap-node.result = sym c.swap_remove.ensures.value ∙ c.unwrap-node.ensures in
    record {
      placed = placed_kept c.args.self.now.nodes.entries c.swap_remove.new.self.entries c.args.self.now.blocks.slots (chains_left c.args.id c.args.self.now.nodes.entries c.swap_remove.new.self.entries c.swap_remove.ensures.updates.0 (sym c.has_entries.ensures ∙ c.if-has_entries.false)) c.args.self.now.places.entries c.args.self.now.placed;
      named = dropped_named c.args.self.now.names c.lower_all.new.self c.args.self.now.nodes.entries c.swap_remove.new.self.entries (keys_of c.args.self.now.places.entries) c.args.id c.unwrap-node.result
          c.args.self.now.named found (incident_is c.args.self.now.nodes.entries c.args.self.now.blocks.slots c.args.self.now.places.entries c.args.self.now.placed c.args.id c.args.self.now.names (map vertex_of c.args.self.now.nodes.entries) ∙ (sym c.has_entries.ensures ∙ c.if-has_entries.false)) c.swap_remove.ensures.entries c.swap_remove.ensures.updates.0 c.lower_all.ensures;
      held = dropped_held c.args.self.now.names c.lower_all.new.self c.args.self.now.nodes.entries c.swap_remove.new.self.entries (keys_of c.args.self.now.places.entries) c.args.id c.unwrap-node.result
          c.args.self.now.named found (incident_is c.args.self.now.nodes.entries c.args.self.now.blocks.slots c.args.self.now.places.entries c.args.self.now.placed c.args.id c.args.self.now.names (map vertex_of c.args.self.now.nodes.entries) ∙ (sym c.has_entries.ensures ∙ c.if-has_entries.false)) c.swap_remove.ensures.entries c.swap_remove.ensures.updates.0 c.lower_all.ensures
          c.args.self.now.limits c.args.self.now.held;
    }

pub returns-clause-ok : goal.returns-clause-ok
returns-clause-ok c =
    let found : lookup (nat_eq c.args.id) c.args.self.now.nodes.entries ≡ Some c.unwrap-node.result = sym c.swap_remove.ensures.value ∙ c.unwrap-node.ensures in
    dropped c.args.self.now.names c.lower_all.new.self c.args.self.now.nodes.entries c.swap_remove.new.self.entries (keys_of c.args.self.now.places.entries) c.args.id c.unwrap-node.result
    c.args.self.now.named found (incident_is c.args.self.now.nodes.entries c.args.self.now.blocks.slots c.args.self.now.places.entries c.args.self.now.placed c.args.id c.args.self.now.names (map vertex_of c.args.self.now.nodes.entries) ∙ (sym c.has_entries.ensures ∙ c.if-has_entries.false)) c.swap_remove.ensures.entries c.swap_remove.ensures.updates.0 c.lower_all.ensures
