-- An open pattern with one more vertex or edge.
use Rattle.std.proofs.Common.{◌≡◌, ℕ, ◌<◌, ◌+◌, false, ◌&&◌, ◌||◌, nat_le, List, [], ◌∷◌, ◌++◌, length, length-append, refl, arith, ◌∙◌}
use Rattle.std.proofs.lemmas.Bool.Decides.{nat_tests}
use Rattle.std.specs.List.{list_any}
use Rattle.std.specs.Cmp.{nat_eq_equiv}
use Rattle.std.specs.Cmp.Lexicographic.{nat_list_eq_equiv}
use Rattle.flux_model.specs.Text.{IsText}
use Rattle.flux_model.specs.Labels.{IsLabelSet}
use Rattle.flux_model.specs.Pattern.{PatternGraph, vertex_count, same_edge, HasEnds}
use Rattle.flux_model.specs.declared.pattern.PatternEdge.{PatternEdge}
use Rattle.pattern_check.specs.Reading.{IsOpen}
use Rattle.pattern_check.proofs.ListLemmas.{neither, AllByRecursion-push, AllByRecursion-weaker, distinct_push}

-- one vertex more, where there is room for it
pub with_vertex : (q : PatternGraph) (labels : List (List ℕ)) → IsOpen q → IsLabelSet labels → vertex_count q < 32 → IsOpen (record q { labels = q.labels ++ labels ∷ [] })
with_vertex q labels before set few = record {
  name = before.name;
  labels = AllByRecursion-push IsLabelSet q.labels labels before.labels set;
  texts = before.texts;
  few_vertices = omega (arith, more);
  few_edges = before.few_edges;
  ends = AllByRecursion-weaker (HasEnds (length q.labels)) (HasEnds (length (q.labels ++ labels ∷ []))) (λ e h. (omega (arith, more, h.0), omega (arith, more, h.1))) q.edges before.ends;
  distinct = before.distinct;
}
  where
    more : length (q.labels ++ labels ∷ []) ≡ length q.labels + 1
    more = length-append q.labels (labels ∷ [])

same_edge_symm : (e f : PatternEdge) → same_edge e f ≡ same_edge f e
same_edge_symm e f =
    λ i. nat_eq_equiv.symm e.tail f.tail i && nat_list_eq_equiv.symm e.label f.label i && nat_eq_equiv.symm e.head f.head i

any_same : (e : PatternEdge) (fs : List PatternEdge) → list_any (λ f. same_edge f e) fs ≡ list_any (same_edge e) fs
any_same e [] = refl
any_same e (f ∷ fs) = (λ i. same_edge_symm f e i || any_same e fs i)

within : (n k : ℕ) → nat_le n k ≡ false → k < n
within n k h = grind (arith, nat_tests)

-- one edge more, with both ends, that is not there yet, where there is room for it
pub with_edge : (q : PatternGraph) (e : PatternEdge) → IsOpen q → IsText e.label → (nat_le (vertex_count q) e.tail || nat_le (vertex_count q) e.head) ≡ false → list_any (same_edge e) q.edges ≡ false → length q.edges < 64 → IsOpen (record q { edges = q.edges ++ e ∷ [] })
with_edge q e before text ends new few = record {
  name = before.name;
  labels = before.labels;
  texts = AllByRecursion-push (λ (f : PatternEdge). IsText f.label) q.edges e before.texts text;
  few_vertices = before.few_vertices;
  few_edges = omega (arith, length-append q.edges (e ∷ []));
  ends = AllByRecursion-push (HasEnds (vertex_count q)) q.edges e before.ends (within (vertex_count q) e.tail two.0, within (vertex_count q) e.head two.1);
  distinct = distinct_push same_edge q.edges e before.distinct (any_same e q.edges ∙ new);
}
  where
    two : (nat_le (vertex_count q) e.tail ≡ false) × (nat_le (vertex_count q) e.head ≡ false)
    two = neither (nat_le (vertex_count q) e.tail) (nat_le (vertex_count q) e.head) ends
