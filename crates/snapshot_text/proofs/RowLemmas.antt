-- The edges of a row in the order of the graph's triples.
use Rattle.std.proofs.Common.{◌≡◌, ℕ, ◌+◌, ◌<◌, ◌==◌, List, [], ◌∷◌, ◌++◌, length, map, get_or, sym, ap, ◌∙◌, arith, subst, Some}
use Rattle.std.specs.declared.cmp.Ordering.{Ordering}
use Rattle.std.specs.Ordering.{nat_cmp, ordering_then}
use Rattle.std.specs.List.{slice_get}
use Rattle.std.specs.List.Sorted.{IsSorted, IsPermutation}
use Rattle.std.specs.Option.{option_map}
use Rattle.std.proofs.lemmas.Cmp.{nat_cmp_total, tied_itself}
use Rattle.std.proofs.lemmas.List.{append-nil, get_or-map, length-map}
use Rattle.std.proofs.lemmas.List.Kept.{IsStrictlySortedBy-filter}
use Rattle.std.proofs.lemmas.List.Sorted.{IsPermutation-map}
use Rattle.std.proofs.lemmas.Option.{slice_get-map, slice_get-get_or}
use Rattle.flux_model.specs.Text.{text_cmp}
use Rattle.flux_model.specs.Graph.{Graph, IsGraph, triple_cmp}
use Rattle.flux_model.specs.declared.graph.Triple.{Triple}
use Rattle.graph_traits.specs.Rows.{triples_from}
use Rattle.snapshot_text.specs.Row.{edge_triple}
use Rattle.snapshot_text.specs.declared.row.RowEdge.{RowEdge}
use Rattle.graph_traits.proofs.NumberLemmas.{triple_exact}
use Rattle.snapshot_text.proofs.OrderLemmas.{triple_total}
use Rattle.flux_model.proofs.SortedLemmas.{strict_from_ascending, sorted_from_strict, sorted_form_unique}

-- by label, and then by the other end
abbrev edge_cmp : RowEdge → RowEdge → Ordering
edge_cmp e f = ordering_then (text_cmp e.label.now f.label.now) (nat_cmp e.other f.other)

-- edges of one source are ordered as their triples
triples-sorted : (src : ℕ) (edges : List RowEdge) → IsSorted edge_cmp edges → IsSorted triple_cmp (map (edge_triple src) edges)
triples-sorted src [] s k d low high = absurd (omega arith)
triples-sorted src (first ∷ others) s k d low high =
    let edges : List RowEdge = first ∷ others in
    let within : k + 1 < length edges = omega (arith, length-map edges (edge_triple src)) in
    let here : get_or (map (edge_triple src) edges) k d ≡ edge_triple src (get_or edges k first) = get_or-map (edge_triple src) edges k first d (omega arith) in
    let next : get_or (map (edge_triple src) edges) (k + 1) d ≡ edge_triple src (get_or edges (k + 1) first) = get_or-map (edge_triple src) edges (k + 1) first d within in
    rw (here, next, tied_itself nat_cmp_total src) (s k first (omega arith) within)

-- what was read, once it is sorted
pub row_sorted : (g : Graph) (src : ℕ) (found sorted : List RowEdge) (outs left : List Triple) → IsGraph g → IsPermutation outs (triples_from g src)
    → map (edge_triple src) found ++ left ≡ outs → left ≡ [] → IsPermutation found sorted → IsSorted edge_cmp sorted → map (edge_triple src) sorted ≡ triples_from g src
row_sorted g src found sorted outs left is p read end q s =
    let all : map (edge_triple src) found ≡ outs = sym (append-nil (map (edge_triple src) found)) ∙ ap (λ l. map (edge_triple src) found ++ l) (sym end) ∙ read in
    let moved : IsPermutation outs (map (edge_triple src) sorted) = subst (λ l. IsPermutation l (map (edge_triple src) sorted)) all (IsPermutation-map (edge_triple src) found sorted q) in
    sorted_form_unique triple_cmp triple_total triple_exact outs (map (edge_triple src) sorted) (triples_from g src) moved p
    (triples-sorted src sorted s)
    (sorted_from_strict triple_cmp triple_total (triples_from g src)
    (IsStrictlySortedBy-filter triple_cmp (λ t. t.src == src) g.triples (strict_from_ascending triple_cmp triple_total g.triples is.ascending_triples)))

-- the triple of the edge at a place
pub triple_at : (src : ℕ) (edges : List RowEdge) (i : ℕ) (edge : RowEdge) → i < length edges → edge ≡ get_or edges i edge → slice_get (map (edge_triple src) edges) i ≡ Some (edge_triple src edge)
triple_at src edges i edge l e =
    slice_get-map (edge_triple src) edges i
    ∙ ap (option_map (edge_triple src)) (slice_get-get_or edges i edge l ∙ ap Some (sym e))
