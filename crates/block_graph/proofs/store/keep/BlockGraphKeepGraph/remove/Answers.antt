use Rattle.std.proofs.Common.{map, sym, ◌∙◌}
use Rattle.std.specs.Map.{keys_of}
use Rattle.std.proofs.lemmas.Map.Made.{is_some-lookup}
use Rattle.flux_model.specs.declared.graph.Update.TheVariants.{DropEdge}
use Rattle.label_graph.specs.declared.link.Link.{Link}
use Rattle.label_graph.specs.Places.{vertex_of, link_eq}
use Rattle.label_graph.specs.Store.{kept_graph}
use Rattle.block_graph.specs.Meaning.{graph_in}
use Rattle.label_graph.proofs.HeldLemmas.{held_after}
use Rattle.label_graph.proofs.EdgeLemmas.{edge_removed}
use Rattle.label_graph.proofs.StoreLemmas.{has_triple_found, has_triple_unknown, drop_edge_apart, drop_edge_absent, no_src, no_dst, both_ends, removed_named}
use Rattle.block_graph.proofs.store.keep.BlockGraphKeepGraph.remove.Goals as goal

pub returns-in_default-clause-refused : goal.returns-in_default-clause-refused
returns-in_default-clause-refused c =
    (drop_edge_apart (kept_graph c.args.self.now.names (map vertex_of c.args.self.now.nodes.entries) (keys_of c.args.self.now.places.entries)) c.args.triple.now
    (no_src c.args.self.now.names c.args.self.now.nodes.entries (keys_of c.args.self.now.places.entries) c.args.triple.now c.in_default.ensures.stands))

pub returns-in_default-index_of-clause-refused : goal.returns-in_default-index_of-clause-refused
returns-in_default-index_of-clause-refused c =
    (drop_edge_apart (kept_graph c.args.self.now.names (map vertex_of c.args.self.now.nodes.entries) (keys_of c.args.self.now.places.entries)) c.args.triple.now
    (no_dst c.args.self.now.names c.args.self.now.nodes.entries (keys_of c.args.self.now.places.entries) c.args.triple.now c.in_default-index_of.ensures.stands))

pub returns-in_default-find-clause-refused : goal.returns-in_default-find-clause-refused
returns-in_default-find-clause-refused c =
    (drop_edge_absent (kept_graph c.args.self.now.names (map vertex_of c.args.self.now.nodes.entries) (keys_of c.args.self.now.places.entries)) c.args.triple.now
    (both_ends c.args.self.now.names c.args.self.now.nodes.entries (keys_of c.args.self.now.places.entries) c.args.triple.now c.in-Some.ensures.stands c.in-Some-index_of.ensures.stands)
    (has_triple_unknown c.args.self.now.names (map vertex_of c.args.self.now.nodes.entries) (keys_of c.args.self.now.places.entries) c.args.self.now.named c.args.triple.now c.in_default-find.ensures.found))

pub returns-then-not-part-clause-refused : goal.returns-then-not-part-clause-refused
returns-then-not-part-clause-refused c =
    let k : Link = record { src = c.args.triple.now.src; label = c.in-Some-find.label; dst = c.args.triple.now.dst } in
    (drop_edge_absent (kept_graph c.args.self.now.names (map vertex_of c.args.self.now.nodes.entries) (keys_of c.args.self.now.places.entries)) c.args.triple.now
    (both_ends c.args.self.now.names c.args.self.now.nodes.entries (keys_of c.args.self.now.places.entries) c.args.triple.now c.in-Some.ensures.stands c.in-Some-index_of.ensures.stands)
    (has_triple_found c.args.self.now.names (map vertex_of c.args.self.now.nodes.entries) (keys_of c.args.self.now.places.entries) c.args.self.now.named c.in-Some-find.ensures.table k c.args.triple.now.label c.in-Some-find.ensures.found
    ∙ (sym (is_some-lookup (link_eq k) c.args.self.now.places.entries) ∙ (sym c.part.ensures.stood ∙ c.if-not-part.true))))

pub invariant_of-self-2 : goal.invariant_of-self-2
invariant_of-self-2 c =
    let k : Link = record { src = c.args.triple.now.src; label = c.in-Some-find.label; dst = c.args.triple.now.dst } in
    record {
      placed = c.part.ensures.placed;
      named =
          removed_named c.args.self.now.names c.lower.new.self (map vertex_of c.args.self.now.nodes.entries) (map vertex_of c.part.new.nodes.entries) (keys_of c.args.self.now.places.entries) (keys_of c.part.new.places.entries) k c.args.triple.now.label
          c.args.self.now.named c.in-Some-find.ensures.table c.in-Some-find.ensures.found c.if-not-part.ensures.parted c.if-not-part.ensures.gone c.lower.ensures.here c.lower.ensures.others c.part.ensures.vertices;
      held = held_after c.args.self.now.limits (graph_in c.args.self.now) (kept_graph c.lower.new.self (map vertex_of c.part.new.nodes.entries) (keys_of c.part.new.places.entries)) (DropEdge c.args.triple.now) c.args.self.now.held tt
          (edge_removed c.args.self.now.names c.args.self.now.nodes.entries c.args.self.now.places.entries c.args.triple.now c.in-Some-find.label c.args.self.now.named c.in-Some-find.ensures.table
          c.in-Some.ensures.stands c.in-Some-index_of.ensures.stands
          c.lower.new.self (map vertex_of c.part.new.nodes.entries) (keys_of c.part.new.places.entries) c.lower.ensures.others c.part.ensures.vertices
          c.in-Some-find.ensures.found (sym c.part.ensures.stood ∙ c.if-not-part.false) c.if-not-part.ensures.parted c.if-not-part.ensures.gone c.lower.ensures.here);
    }

pub returns-clause-ok : goal.returns-clause-ok
returns-clause-ok c =
    edge_removed c.args.self.now.names c.args.self.now.nodes.entries c.args.self.now.places.entries c.args.triple.now c.in-Some-find.label c.args.self.now.named c.in-Some-find.ensures.table
    c.in-Some.ensures.stands c.in-Some-index_of.ensures.stands
    c.lower.new.self (map vertex_of c.part.new.nodes.entries) (keys_of c.part.new.places.entries) c.lower.ensures.others c.part.ensures.vertices
    c.in-Some-find.ensures.found (sym c.part.ensures.stood ∙ c.if-not-part.false) c.if-not-part.ensures.parted c.if-not-part.ensures.gone c.lower.ensures.here
