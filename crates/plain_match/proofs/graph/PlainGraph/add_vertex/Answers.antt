use Rattle.std.proofs.Common.{◌≡◌, List, ℕ, false, ◌||◌, nat_le, nat_lt, length, sym, ◌∙◌, ap, subst, arith}
use Rattle.std.specs.List.{insert}
use Rattle.flux_model.specs.Ordered.{put}
use Rattle.flux_model.specs.Graph.{Graph, vertex_cmp, name_count}
use Rattle.flux_model.specs.declared.graph.Vertex.{Vertex}
use Rattle.flux_model.specs.declared.graph.Triple.{Triple}
use Rattle.plain_match.specs.Limited.{KeepsLimits}
use Rattle.flux_laws.proofs.OneMoreLemmas.{with_vertex_graph}
use Rattle.flux_laws.proofs.LimitLemmas.{with_vertex_within}
use Rattle.plain_match.proofs.graph.PlainGraph.add_vertex.Goals as goal

-- the graph before, and the new vertex
abbrev before : goal.In_ok-insert-in-Err → Graph
before c = record { vertices = c.self.inside.vertices.items; triples = c.self.inside.triples.items }

abbrev added : goal.In_ok-insert-in-Err → Vertex
added c = record { id = c.args.id; labels = c.args.labels.now }

made : (c : goal.In_ok-insert-in-Err) → c.insert.new.self.items ≡ put vertex_cmp (added c) c.self.inside.vertices.items
made c =
    c.in_ok-insert-in-Err.ensures.items
    ∙ ap (λ (l : List (List ℕ)). insert c.self.inside.vertices.items c.in-Err.at (record { id = c.args.id; labels = l })) c.in_ok-labels-in-Err.ensures
    ∙ ap (λ (vs : List Vertex). insert vs c.in-Err.at (added c)) (sym c.as_slice.ensures.value)
    ∙ c.in-Err.ensures.put c.args.labels.now ∙ ap (put vertex_cmp (added c)) c.as_slice.ensures.value

room : (c : goal.In_ok-insert-in-Err) → (nat_le c.self.inside.limits.vertices (length c.self.inside.vertices.items) || nat_lt c.self.inside.limits.labels (name_count (before c) c.args.labels.now)) ≡ false
room c =
    let len : c.len.result ≡ length c.self.inside.vertices.items = c.len.ensures ∙ c.self.inside.vertices.ok.0 in
    let count : c.in_ok-count-in-Err.count ≡ name_count (before c) c.args.labels.now =
    c.in_ok-count-in-Err.ensures
    ∙ ap (λ (vs : List Vertex). name_count (record { vertices = vs; triples = c.as_slice-in-Err-2.result.now }) c.args.labels.now) c.as_slice-in-Err.ensures.value
    ∙ ap (λ (ts : List Triple). name_count (record { vertices = c.self.inside.vertices.items; triples = ts }) c.args.labels.now) c.as_slice-in-Err-2.ensures.value in
    (λ i. nat_le c.self.inside.limits.vertices (sym len i) || nat_lt c.self.inside.limits.labels (sym count i)) ∙ sym c.is_full.ensures ∙ c.if-is_full.false

is_kept : (c : goal.In_ok-insert-in-Err) → KeepsLimits (record { limits = c.self.inside.limits; graph = record { vertices = c.insert.new.self.items; triples = c.self.inside.triples.items } })
is_kept c =
    subst (λ (vs : List Vertex). KeepsLimits (record { limits = c.self.inside.limits; graph = record { vertices = vs; triples = c.self.inside.triples.items } })) (sym (made c))
    (record {
      graph = with_vertex_graph (before c) (added c) c.self.invariant.graph (record { id = omega (arith, c.ranges.id); labels = c.len-in-Err.ensures.set });
      within = with_vertex_within c.self.inside.limits (before c) (added c) c.self.invariant.within (room c);
    })

pub invariant_of-self-in-Err : goal.invariant_of-self-in-Err
invariant_of-self-in-Err c = is_kept c

pub returns-in_ok-insert-in-Err-clause-kept : goal.returns-in_ok-insert-in-Err-clause-kept
returns-in_ok-insert-in-Err-clause-kept c = is_kept c
