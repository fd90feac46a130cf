use Rattle.std.proofs.Common.{true, false, ◌+◌, ◌||◌, Bool, List, map, sym, ap, ◌∙◌, subst}
use Rattle.std.specs.Prelude.{nat_le, nat_lt, if◌then◌else◌}
use Rattle.std.proofs.lemmas.Map.Entries.{length-keys_of}
use Rattle.std.specs.Map.{keys_of}
use Rattle.flux_model.specs.Graph.{Graph}
use Rattle.flux_model.specs.declared.graph.Vertex.{Vertex}
use Rattle.flux_model.specs.declared.graph.Update.TheVariants.{AddEdge}
use Rattle.label_graph.specs.declared.link.Link.{Link}
use Rattle.graph_traits.specs.WithinLimits.{IsWithinLimits}
use Rattle.label_graph.specs.Places.{vertex_of}
use Rattle.block_graph.proofs.VertexLemmas.{same_rows}
use Rattle.label_graph.specs.Store.{kept_graph, IsNamed}
use Rattle.block_graph.specs.Meaning.{graph_in}
use Rattle.label_graph.proofs.StoreLemmas.{no_src, no_dst, both_ends, named_added, back_same, same_named, same_graph_of}
use Rattle.label_graph.proofs.FullLemmas.{add_edge_apart, add_edge_stands, add_edge_full, known_triple, absent_link, full_is}
use Rattle.label_graph.proofs.EdgeLemmas.{edge_added}
use Rattle.label_graph.proofs.HeldLemmas.{held_after}
use Rattle.block_graph.proofs.store.keep.BlockGraphKeepGraph.insert.Goals as goal

pub returns-in_default-clause-refused : goal.returns-in_default-clause-refused
returns-in_default-clause-refused c =
    add_edge_apart c.args.self.now.limits (graph_in c.args.self.now) c.args.triple.now
    (no_src c.args.self.now.names c.args.self.now.nodes.entries (keys_of c.args.self.now.places.entries) c.args.triple.now c.in_default.ensures.stands)

pub returns-in_default-index_of-clause-refused : goal.returns-in_default-index_of-clause-refused
returns-in_default-index_of-clause-refused c =
    add_edge_apart c.args.self.now.limits (graph_in c.args.self.now) c.args.triple.now
    (no_dst c.args.self.now.names c.args.self.now.nodes.entries (keys_of c.args.self.now.places.entries) c.args.triple.now c.in_default-index_of.ensures.stands)

pub returns-then-stands-clause-refused : goal.returns-then-stands-clause-refused
returns-then-stands-clause-refused c =
    add_edge_stands c.args.self.now.limits (graph_in c.args.self.now) c.args.triple.now
    (both_ends c.args.self.now.names c.args.self.now.nodes.entries (keys_of c.args.self.now.places.entries) c.args.triple.now c.in-Some.ensures.stands c.in-Some-index_of.ensures.stands)
    (known_triple c.args.self.now.names (map vertex_of c.args.self.now.nodes.entries) c.args.self.now.places.entries c.args.triple.now c.find-known.result c.args.self.now.named c.find-known.ensures.table c.find-known.ensures.found
    ∙ (sym c.stands.ensures ∙ c.if-stands.true))

pub returns-then-is_full-clause-refused : goal.returns-then-is_full-clause-refused
returns-then-is_full-clause-refused c =
    add_edge_full c.args.self.now.limits (graph_in c.args.self.now) c.args.triple.now
    (both_ends c.args.self.now.names c.args.self.now.nodes.entries (keys_of c.args.self.now.places.entries) c.args.triple.now c.in-Some.ensures.stands c.in-Some-index_of.ensures.stands)
    (known_triple c.args.self.now.names (map vertex_of c.args.self.now.nodes.entries) c.args.self.now.places.entries c.args.triple.now c.find-known.result c.args.self.now.named c.find-known.ensures.table c.find-known.ensures.found ∙ (sym c.stands.ensures ∙ c.if-stands.false))
    (full_is c.args.self.now.limits c.args.self.now.names (map vertex_of c.args.self.now.nodes.entries) (keys_of c.args.self.now.places.entries) c.args.triple.now.label c.find-known.result c.len.result c.len-2.result
    c.args.self.now.named c.find-known.ensures.table c.len.ensures.unique c.find-known.ensures.found (c.len.ensures.len ∙ sym (length-keys_of c.args.self.now.places.entries)) c.len-2.ensures.value
    ∙ (ap (λ (b : Bool). nat_le c.args.self.now.limits.edges c.len.result || nat_lt c.args.self.now.limits.labels (c.len-2.result + (if b then 0 else 1))) (sym c.is_some.ensures) ∙ (sym c.is_full.ensures ∙ c.if-is_full.true)))

pub join-requires-clause-absent : goal.join-requires-clause-absent
join-requires-clause-absent c =
    let k : Link = record { src = c.args.triple.now.src; label = c.in_ok-label.label; dst = c.args.triple.now.dst } in
    absent_link c.args.self.now.names (map vertex_of c.args.self.now.nodes.entries) c.args.self.now.places.entries k c.args.triple.now.label c.args.self.now.named c.find-known.ensures.table c.in_ok-label.ensures.was
    (known_triple c.args.self.now.names (map vertex_of c.args.self.now.nodes.entries) c.args.self.now.places.entries c.args.triple.now c.find-known.result c.args.self.now.named c.find-known.ensures.table c.find-known.ensures.found
    ∙ (sym c.stands.ensures ∙ c.if-stands.false))

pub invariant_of-self-in-Ok : goal.invariant_of-self-in-Ok
invariant_of-self-in-Ok c =
    let k : Link = record { src = c.args.triple.now.src; label = c.in_ok-label.label; dst = c.args.triple.now.dst } in
    let P : List Vertex → Type 0 = λ vs. IsNamed c.raise_found.new.self vs (keys_of c.join.new.places.entries) in
    record {
      placed = c.join.ensures.placed;
      named = subst P (sym c.join.ensures.vertices) (named_added c.args.self.now.names c.raise_found.new.self (map vertex_of c.args.self.now.nodes.entries) (keys_of c.args.self.now.places.entries) (keys_of c.join.new.places.entries) k c.args.triple.now.label
          c.args.self.now.named c.find-known.ensures.table c.in_ok-label.ensures.was c.in_ok-label.ensures.here c.in_ok-label.ensures.others c.in-Ok.ensures.joined);
      held = held_after c.args.self.now.limits (graph_in c.args.self.now) (kept_graph c.raise_found.new.self (map vertex_of c.join.new.nodes.entries) (keys_of c.join.new.places.entries)) (AddEdge c.args.triple.now) c.args.self.now.held c.bytes.ensures.text
          (edge_added c.args.self.now.names c.args.self.now.nodes.entries c.args.self.now.places.entries c.args.triple.now c.in_ok-label.label c.args.self.now.named c.find-known.ensures.table
          c.in-Some.ensures.stands c.in-Some-index_of.ensures.stands
          c.raise_found.new.self (map vertex_of c.join.new.nodes.entries) (keys_of c.join.new.places.entries) c.in_ok-label.ensures.others c.join.ensures.vertices c.args.self.now.limits
          (known_triple c.args.self.now.names (map vertex_of c.args.self.now.nodes.entries) c.args.self.now.places.entries c.args.triple.now c.find-known.result c.args.self.now.named c.find-known.ensures.table c.find-known.ensures.found ∙ (sym c.stands.ensures ∙ c.if-stands.false))
          (full_is c.args.self.now.limits c.args.self.now.names (map vertex_of c.args.self.now.nodes.entries) (keys_of c.args.self.now.places.entries) c.args.triple.now.label c.find-known.result c.len.result c.len-2.result
          c.args.self.now.named c.find-known.ensures.table c.len.ensures.unique c.find-known.ensures.found (c.len.ensures.len ∙ sym (length-keys_of c.args.self.now.places.entries)) c.len-2.ensures.value
          ∙ (ap (λ (b : Bool). nat_le c.args.self.now.limits.edges c.len.result || nat_lt c.args.self.now.limits.labels (c.len-2.result + (if b then 0 else 1))) (sym c.is_some.ensures) ∙ (sym c.is_full.ensures ∙ c.if-is_full.false)))
          c.in_ok-label.ensures.was c.in_ok-label.ensures.here c.in-Ok.ensures.joined);
    }

pub returns-in-Ok-clause-ok : goal.returns-in-Ok-clause-ok
returns-in-Ok-clause-ok c =
    edge_added c.args.self.now.names c.args.self.now.nodes.entries c.args.self.now.places.entries c.args.triple.now c.in_ok-label.label c.args.self.now.named c.find-known.ensures.table
    c.in-Some.ensures.stands c.in-Some-index_of.ensures.stands
    c.raise_found.new.self (map vertex_of c.join.new.nodes.entries) (keys_of c.join.new.places.entries) c.in_ok-label.ensures.others c.join.ensures.vertices c.args.self.now.limits
    (known_triple c.args.self.now.names (map vertex_of c.args.self.now.nodes.entries) c.args.self.now.places.entries c.args.triple.now c.find-known.result c.args.self.now.named c.find-known.ensures.table c.find-known.ensures.found ∙ (sym c.stands.ensures ∙ c.if-stands.false))
    (full_is c.args.self.now.limits c.args.self.now.names (map vertex_of c.args.self.now.nodes.entries) (keys_of c.args.self.now.places.entries) c.args.triple.now.label c.find-known.result c.len.result c.len-2.result
    c.args.self.now.named c.find-known.ensures.table c.len.ensures.unique c.find-known.ensures.found (c.len.ensures.len ∙ sym (length-keys_of c.args.self.now.places.entries)) c.len-2.ensures.value
    ∙ (ap (λ (b : Bool). nat_le c.args.self.now.limits.edges c.len.result || nat_lt c.args.self.now.limits.labels (c.len-2.result + (if b then 0 else 1))) (sym c.is_some.ensures) ∙ (sym c.is_full.ensures ∙ c.if-is_full.false)))
    c.in_ok-label.ensures.was c.in_ok-label.ensures.here c.in-Ok.ensures.joined

pub invariant_of-self-in-Err : goal.invariant_of-self-in-Err
invariant_of-self-in-Err c =
    let slots = (back_same c.args.self.now.names c.raise_found.new.self c.lower.new.self c.in_ok-label.label c.args.triple.now.label c.find-known.ensures.table c.in_ok-label.ensures.was c.in_ok-label.ensures.here c.in_ok-label.ensures.others c.lower.ensures.here c.lower.ensures.others) in
    let same = same_graph_of c.args.self.now.names c.lower.new.self (map vertex_of c.args.self.now.nodes.entries) (map vertex_of c.join.new.nodes.entries) (keys_of c.args.self.now.places.entries) (keys_of c.join.new.places.entries) slots c.join.ensures.vertices c.in-Err.ensures.same in
    let P : Graph → Type 0 = λ g. IsWithinLimits c.args.self.now.limits g in
    record {
      placed = c.join.ensures.placed;
      named = same_named c.args.self.now.names c.lower.new.self (map vertex_of c.args.self.now.nodes.entries) (map vertex_of c.join.new.nodes.entries) (keys_of c.args.self.now.places.entries) (keys_of c.join.new.places.entries) slots c.join.ensures.vertices c.in-Err.ensures.same c.args.self.now.named;
      held = subst P (sym same) c.args.self.now.held;
    }

pub returns-in-Err-clause-unchanged : goal.returns-in-Err-clause-unchanged
returns-in-Err-clause-unchanged c =
    same_graph_of c.args.self.now.names c.lower.new.self (map vertex_of c.args.self.now.nodes.entries) (map vertex_of c.join.new.nodes.entries) (keys_of c.args.self.now.places.entries) (keys_of c.join.new.places.entries)
    (back_same c.args.self.now.names c.raise_found.new.self c.lower.new.self c.in_ok-label.label c.args.triple.now.label c.find-known.ensures.table c.in_ok-label.ensures.was c.in_ok-label.ensures.here c.in_ok-label.ensures.others c.lower.ensures.here c.lower.ensures.others) c.join.ensures.vertices c.in-Err.ensures.same

pub returns-in-Err-clause-outs : goal.returns-in-Err-clause-outs
returns-in-Err-clause-outs c = λ v at.
    same_rows c.args.self.now.names c.lower.new.self c.args.self.now.nodes.entries c.join.new.nodes.entries c.args.self.now.blocks.slots c.join.new.blocks.slots
    (back_same c.args.self.now.names c.raise_found.new.self c.lower.new.self c.in_ok-label.label c.args.triple.now.label c.find-known.ensures.table c.in_ok-label.ensures.was c.in_ok-label.ensures.here c.in_ok-label.ensures.others c.lower.ensures.here c.lower.ensures.others)
    c.in-Err.ensures.nodes c.in-Err.ensures.blocks (false, v) at.node at.place

pub returns-in-Err-clause-ins : goal.returns-in-Err-clause-ins
returns-in-Err-clause-ins c = λ v at.
    same_rows c.args.self.now.names c.lower.new.self c.args.self.now.nodes.entries c.join.new.nodes.entries c.args.self.now.blocks.slots c.join.new.blocks.slots
    (back_same c.args.self.now.names c.raise_found.new.self c.lower.new.self c.in_ok-label.label c.args.triple.now.label c.find-known.ensures.table c.in_ok-label.ensures.was c.in_ok-label.ensures.here c.in_ok-label.ensures.others c.lower.ensures.here c.lower.ensures.others)
    c.in-Err.ensures.nodes c.in-Err.ensures.blocks (true, v) at.node at.place
