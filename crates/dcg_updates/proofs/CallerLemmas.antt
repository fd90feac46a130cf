-- What a change of a store gives for the calls that follow it with the rows.
use Rattle.std.proofs.Common.{◌≡◌, ℕ, true, false, not, ◌||◌, ◌==◌, List, [], ◌∷◌, refl, sym, ap, subst, ◌∙◌}
use Rattle.std.specs.Prelude.{Ok}
use Rattle.std.specs.List.{list_any, list_all}
use Rattle.std.proofs.lemmas.Bool.{and_parts, or_from, ne_eqb, both_ways}
use Rattle.std.proofs.lemmas.Cmp.{tied_itself}
use Rattle.flux_model.specs.Exact.{StateRows, IsExact, IsExactOver}
use Rattle.flux_model.specs.Graph.{Graph, IsGraph, triple_cmp, has_vertex, has_both_ends, has_triple, with_triple, without_triple, apply}
use Rattle.flux_model.specs.Pattern.{PatternGraph}
use Rattle.flux_model.specs.States.{Joined}
use Rattle.flux_model.specs.Tree.{QueryTree, BelongsTo}
use Rattle.flux_model.specs.declared.graph.Triple.{Triple}
use Rattle.flux_model.specs.declared.graph.Update.TheVariants.{AddVertex, DropVertex, AddEdge, DropEdge}
use Rattle.flux_model.specs.declared.limits.Limits.{Limits}
use Rattle.flux_laws.specs.JointsLaws.{has_edge_labelled}
use Rattle.flux_laws.proofs.AscendingLemmas.{in-put}
use Rattle.flux_laws.proofs.GraphsLemmas.{vertex_added, vertex_dropped, edge_added, edge_dropped, triple_exact}
use Rattle.flux_laws.proofs.JointsLemmas.{added_stands, dropped_gone, added_fits_others, dropped_fits_others, added_triple_joined, dropped_triple_joined}
use Rattle.flux_laws.proofs.SetsLemmas.{triple_total}
use Rattle.flux_laws.proofs.UndoLemmas.{put_out, put_back, absent_after}
use Rattle.dcg_updates.specs.VertexApart.{IsVertexApart}

-- ---- triples

-- the graph h has the triple, and is g without it
pub record IsAddedTo (g h : Graph) (e : Triple) : Type 0 where
  pub ends : has_both_ends h e ≡ true
  pub stands : has_triple h e ≡ true
  pub was : without_triple h e ≡ g

-- the graph h does not have the triple, and is g with it
pub record IsTakenFrom (g h : Graph) (e : Triple) : Type 0 where
  pub ends : has_both_ends h e ≡ true
  pub gone : has_triple h e ≡ false
  pub was : with_triple h e ≡ g

-- an insertion that was accepted
pub added : (limits : Limits) (g h : Graph) (e : Triple) → apply limits g (AddEdge e) ≡ Ok h → IsAddedTo g h e
added limits g h e ok =
    let a = edge_added limits g h e ok in
    let P : Graph → Type 0 = λ k. IsAddedTo g k e in
    subst P a.is (record {
      ends = a.ends;
      stands = in-put triple_cmp triple_total e e g.triples (tied_itself triple_total e);
      was = ap (λ ts. record g { triples = ts }) (put_out triple_cmp triple_total e g.triples a.absent);
    })

-- a removal that was accepted
pub taken : (limits : Limits) (g h : Graph) (e : Triple) → IsGraph g → apply limits g (DropEdge e) ≡ Ok h → IsTakenFrom g h e
taken limits g h e graph ok =
    let a = edge_dropped limits g h e ok in
    let P : Graph → Type 0 = λ k. IsTakenFrom g k e in
    subst P a.is (record {
      ends = a.ends;
      gone = absent_after triple_cmp triple_total e g.triples;
      was = ap (λ ts. record g { triples = ts }) (put_back triple_cmp triple_total triple_exact e g.triples graph.ascending_triples a.there);
    })

-- rows that were exact before an insertion are what `after_insert` asks
pub was_added : (q : PatternGraph) (t : QueryTree) (g h : Graph) (e : Triple) (d : StateRows) → IsAddedTo g h e → IsExact q t g d → IsExact q t (without_triple h e) d
was_added q t g h e d a exact = let P : Graph → Type 0 = λ k. IsExact q t k d in subst P (sym a.was) exact

-- and those before a removal what `after_delete` asks
pub was_taken : (q : PatternGraph) (t : QueryTree) (g h : Graph) (e : Triple) (d : StateRows) → IsTakenFrom g h e → IsExact q t g d → IsExact q t (with_triple h e) d
was_taken q t g h e d a exact = let P : Graph → Type 0 = λ k. IsExact q t k d in subst P (sym a.was) exact

-- ---- vertices

-- no triple ends at what is no vertex
free_id : (g : Graph) (id : ℕ) (ts : List Triple) → has_vertex g id ≡ false → list_all (has_both_ends g) ts ≡ true → list_any (λ (t : Triple). t.src == id || t.dst == id) ts ≡ false
free_id g id [] absent all = refl
free_id g id (t ∷ ts) absent all =
    let two = and_parts (has_both_ends g t) (list_all (has_both_ends g) ts) all in
    let ends = and_parts (has_vertex g t.src) (has_vertex g t.dst) two.0 in
    or_from (t.src == id || t.dst == id) (list_any (λ (s : Triple). s.src == id || s.dst == id) ts) (or_from (t.src == id) (t.dst == id) (other t.src ends.0) (other t.dst ends.1)) (free_id g id ts absent two.1)
  where
    other : (i : ℕ) → has_vertex g i ≡ true → (i == id) ≡ false
    other i there = ne_eqb i id (λ same. both_ways (has_vertex g id) absent (ap (has_vertex g) (sym same) ∙ there))

-- a vertex that came has no triples
pub vertex_came : (limits : Limits) (g h : Graph) (id : ℕ) (labels : List (List ℕ)) → IsGraph g → apply limits g (AddVertex id labels) ≡ Ok h → IsVertexApart id g h
vertex_came limits g h id labels graph ok =
    let a = vertex_added limits g h id labels ok in
    let P : Graph → Type 0 = λ k. IsVertexApart id g k in
    subst P a.is (record {
      triples = refl;
      free = free_id g id g.triples a.absent graph.ends;
      moved = a.absent ∙ sym (ap not (added_stands g (record { id = id; labels = labels })));
      others = added_fits_others g (record { id = id; labels = labels });
    })

-- nor had one that went
pub vertex_went : (limits : Limits) (g h : Graph) (id : ℕ) → apply limits g (DropVertex id) ≡ Ok h → IsVertexApart id g h
vertex_went limits g h id ok =
    let a = vertex_dropped limits g h id ok in
    let P : Graph → Type 0 = λ k. IsVertexApart id g k in
    subst P a.is (record { triples = refl; free = a.free; moved = a.there ∙ sym (ap not (dropped_gone g id)); others = dropped_fits_others g id })

-- ---- a triple whose label no edge has

-- exact rows stay exact where it comes
pub unnamed_added : (q : PatternGraph) (t : QueryTree) (g : Graph) (e : Triple) (d : StateRows) → BelongsTo q t → has_edge_labelled q e.label ≡ false → IsExact q t g d → IsExact q t (with_triple g e) d
unnamed_added q t g e d belongs unnamed exact =
    let P : Joined → Type 0 = λ j. IsExactOver j d in
    subst P (sym (added_triple_joined q t g e belongs unnamed)) exact

-- and where it goes
pub unnamed_taken : (q : PatternGraph) (t : QueryTree) (g : Graph) (e : Triple) (d : StateRows) → BelongsTo q t → has_edge_labelled q e.label ≡ false → IsExact q t g d → IsExact q t (without_triple g e) d
unnamed_taken q t g e d belongs unnamed exact =
    let P : Joined → Type 0 = λ j. IsExactOver j d in
    subst P (sym (dropped_triple_joined q t g e belongs unnamed)) exact
