use Rattle.std.proofs.Common.{◌≡◌, List, true, false, sym, ◌∙◌, ap, subst, Ok, Result, ◌||◌, nat_le, nat_lt, length, ◌∷◌, []}
use Rattle.std.specs.List.{insert}
use Rattle.flux_model.specs.Ordered.{put, is_in}
use Rattle.flux_model.specs.Graph.{Graph, triple_cmp, has_both_ends, has_triple, name_count}
use Rattle.flux_model.specs.declared.code.Code.{Code}
use Rattle.flux_model.specs.declared.graph.Vertex.{Vertex}
use Rattle.flux_model.specs.declared.graph.Triple.{Triple}
use Rattle.plain_match.specs.Limited.{KeepsLimits}
use Rattle.flux_laws.proofs.LimitLemmas.{with_triple_within}
use Rattle.flux_laws.proofs.OneMoreLemmas.{with_triple_graph, add_edge_ok}
use Rattle.plain_match.proofs.graph.PlainGraph.add_edge.Goals as goal

abbrev okay : Graph → Result Graph Code
okay g = Ok g

-- the graph before
abbrev before : goal.In_ok-insert-in-Err → Graph
before c = record { vertices = c.self.inside.vertices.items; triples = c.self.inside.triples.items }

made : (c : goal.In_ok-insert-in-Err) → c.insert.new.self.items ≡ put triple_cmp c.args.t.now c.self.inside.triples.items
made c =
    c.in_ok-insert-in-Err.ensures.items
    ∙ ap (insert c.self.inside.triples.items c.in-Err.at) c.in_ok-t-in-Err.ensures
    ∙ ap (λ (ts : List Triple). insert ts c.in-Err.at c.args.t.now) (sym c.as_slice-2.ensures.value)
    ∙ c.in-Err.ensures.put ∙ ap (put triple_cmp c.args.t.now) c.as_slice-2.ensures.value

ends : (c : goal.In_ok-insert-in-Err) → has_both_ends (before c) c.args.t.now ≡ true
ends c =
    ap (λ (vs : List Vertex). has_both_ends (record { vertices = vs; triples = c.self.inside.triples.items }) c.args.t.now) (sym c.as_slice.ensures.value)
    ∙ sym c.has_both_ends.ensures ∙ c.if-not-has_both_ends.false

absent : (c : goal.In_ok-insert-in-Err) → has_triple (before c) c.args.t.now ≡ false
absent c = ap (is_in triple_cmp c.args.t.now) (sym c.as_slice-2.ensures.value) ∙ c.in-Err.ensures.absent

room : (c : goal.In_ok-insert-in-Err) → (nat_le c.self.inside.limits.edges (length c.self.inside.triples.items) || nat_lt c.self.inside.limits.labels (name_count (before c) (c.args.t.now.label ∷ []))) ≡ false
room c =
    let len : c.len.result ≡ length c.self.inside.triples.items = c.len.ensures ∙ c.self.inside.triples.ok.0 in
    let count : c.in_ok-count-in-Err.count ≡ name_count (before c) (c.args.t.now.label ∷ []) =
    c.in_ok-count-in-Err.ensures
    ∙ ap (λ (vs : List Vertex). name_count (record { vertices = vs; triples = c.as_slice-in-Err-2.result.now }) (c.args.t.now.label ∷ [])) c.as_slice-in-Err.ensures.value
    ∙ ap (λ (ts : List Triple). name_count (record { vertices = c.self.inside.vertices.items; triples = ts }) (c.args.t.now.label ∷ [])) c.as_slice-in-Err-2.ensures.value in
    (λ i. nat_le c.self.inside.limits.edges (sym len i) || nat_lt c.self.inside.limits.labels (sym count i)) ∙ sym c.is_full.ensures ∙ c.if-is_full.false

is_kept : (c : goal.In_ok-insert-in-Err) → KeepsLimits (record { limits = c.self.inside.limits; graph = record { vertices = c.self.inside.vertices.items; triples = c.insert.new.self.items } })
is_kept c =
    subst (λ (ts : List Triple). KeepsLimits (record { limits = c.self.inside.limits; graph = record { vertices = c.self.inside.vertices.items; triples = ts } })) (sym (made c))
    (record {
      graph = with_triple_graph (before c) c.args.t.now c.self.invariant.graph c.bytes.ensures.text (ends c);
      within = with_triple_within c.self.inside.limits (before c) c.args.t.now c.self.invariant.within (room c);
    })

pub invariant_of-self-in-Err : goal.invariant_of-self-in-Err
invariant_of-self-in-Err c = is_kept c

pub returns-in_ok-insert-in-Err-clause-kept : goal.returns-in_ok-insert-in-Err-clause-kept
returns-in_ok-insert-in-Err-clause-kept c = is_kept c

pub returns-in_ok-insert-in-Err-clause-ok : goal.returns-in_ok-insert-in-Err-clause-ok
returns-in_ok-insert-in-Err-clause-ok c =
    rw (← c.self.view_is) (add_edge_ok c.self.inside.limits (before c) c.args.t.now (ends c) (absent c) (room c)
    ∙ ap (λ (ts : List Triple). okay (record { vertices = c.self.inside.vertices.items; triples = ts })) (sym (made c)))
