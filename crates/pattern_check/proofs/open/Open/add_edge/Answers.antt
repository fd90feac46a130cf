use Rattle.std.proofs.Common.{◌≡◌, ◌<◌, ◌∙◌, ◌||◌, List, false, nat_le, length, arith, ap, subst, sym}
use Rattle.std.specs.List.{list_any}
use Rattle.flux_model.specs.Pattern.{PatternGraph, vertex_count, same_edge}
use Rattle.flux_model.specs.declared.pattern.PatternEdge.{PatternEdge}
use Rattle.pattern_check.specs.Reading.{IsOpen}
use Rattle.pattern_check.proofs.OpenLemmas.{with_edge}
use Rattle.pattern_check.proofs.open.Open.add_edge.Goals as goal

pub invariant_of-self-2 : goal.invariant_of-self-2
invariant_of-self-2 c =
    let before : PatternGraph = record { name = c.self.inside.name; mode = c.self.inside.mode; labels = c.self.inside.labels.items; edges = c.self.inside.edges.items } in
    let e : PatternEdge = c.args.edge in
    let count : length before.labels ≡ c.len.result = sym (c.len.ensures ∙ c.self.inside.labels.ok.0) in
    let ends : (nat_le (vertex_count before) e.tail || nat_le (vertex_count before) e.head) ≡ false =
    ap (λ n. nat_le n e.tail || nat_le n e.head) count ∙ sym c.lacks_end.ensures ∙ c.if-lacks_end.false in
    let new : list_any (same_edge e) before.edges ≡ false =
    ap (list_any (same_edge e)) (sym c.deref.ensures.value) ∙ sym c.has_edge.ensures ∙ c.if-has_edge.false in
    let few : length before.edges < 64 = omega (arith, c.len-2.ensures, c.self.inside.edges.ok.0) in
    subst (λ (edges : List PatternEdge). IsOpen (record before { edges = edges })) (sym c.in_ok-push.ensures.items)
    (with_edge before e c.self.invariant c.bytes.ensures.text ends new few)
