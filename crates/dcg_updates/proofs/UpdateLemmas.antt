-- What a view is at the start of an update, and what is left at its end.
use Rattle.std.proofs.Common.{◌≡◌, ℕ, zero, suc, ◌+◌, ◌*◌, ◌<◌, ◌≤◌, Bool, true, false, not, cond, ◌==◌, List, [], ◌∷◌, length, inl, inr, refl, sym, ap, subst, ◌∙◌, arith}
use Rattle.std.specs.Prelude.{◌⊎◌, Option, None, Some, map, IsPermutation, slice_index}
use Rattle.std.specs.List.{filter_map, cons_option, range_with_len, list_any}
use Rattle.std.specs.Ordering.{is_eq}
use Rattle.std.proofs.lemmas.Bool.{cases_lt, and_parts, both_ways}
use Rattle.std.proofs.lemmas.List.{length-map}
use Rattle.std.proofs.lemmas.List.FromFn.{length-map-range_with_len, get_or-map-range_with_len}
use Rattle.flux_model.specs.Costs.{degree, move_cost}
use Rattle.flux_model.specs.Exact.{StateRows, row_at, IsExact, IsExactOver}
use Rattle.flux_model.specs.Graph.{Graph, IsGraph, ids, triple_cmp, without_triple}
use Rattle.flux_model.specs.Ordered.{put}
use Rattle.flux_model.specs.Pattern.{PatternGraph, vertex_count}
use Rattle.flux_model.specs.States.{Joined, joint_of, joined, joined_by, reaches, reaches_within}
use Rattle.flux_model.specs.Tree.{QueryTree, children, IsTree, BelongsTo}
use Rattle.flux_model.specs.declared.graph.Triple.{Triple}
use Rattle.flux_model.specs.declared.limits.Limits.{Limits}
use Rattle.flux_laws.proofs.AscendingLemmas.{length-filter-le}
use Rattle.flux_laws.proofs.GraphsLemmas.{triple_exact}
use Rattle.flux_laws.proofs.LimitLemmas.{length-put}
use Rattle.flux_laws.proofs.SetsLemmas.{triple_total}
use Rattle.flux_laws.proofs.UndoLemmas.{put_back, absent_after}
use Rattle.graph_traits.specs.WithinLimits.{IsWithinLimits}
use Rattle.dcg_moves.specs.Sound.{IsSound, IsWide, KeptWithin, HasIds}
use Rattle.dcg_moves.specs.Weight.{weight}
use Rattle.dcg_moves.specs.Between.{layers, seen_by}
use Rattle.dcg_moves.specs.Layers.{layers_of}
use Rattle.dcg_moves.specs.Layers as shown
use Rattle.dcg_moves.specs.Local.{IsLocal}
use Rattle.dcg_moves.specs.Store.{IsStoreOf, SameStore}
use Rattle.dcg_moves.specs.Shape.{IsShapeOf}
use Rattle.dcg_moves.specs.Update.{Update, view, nothing, everything, edges_cost}
use Rattle.dcg_moves.proofs.UpdateCostLemmas.{any_id, update_spent}
use Rattle.dcg_moves.proofs.JoinedLemmas.{JoinsFitting, children_same, local-from_exact, exact-from_local}
use Rattle.dcg_moves.proofs.ShapeLemmas.{joins_fitting, shape_of}
use Rattle.dcg_moves.proofs.TouchedLemmas.{kept_of_exact, weight_touched}
use Rattle.dcg_updates.specs.Changed.{small_of, large_of, update_of, IsChangeOf}
use Rattle.dcg_updates.specs.EdgesLabelled.{edges_labelled}
use Rattle.dcg_updates.specs.Sights.{done_of}
use Rattle.dcg_updates.specs.declared.sight.Change.{Change}
use Rattle.dcg_updates.specs.declared.sight.Change.TheVariants.{Added, Taken}
use Rattle.dcg_updates.proofs.PermutationLemmas.{perm-put}
use Rattle.dcg_updates.proofs.DoneLemmas.{turned_past}
use Rattle.dcg_updates.proofs.LabelCostLemmas.{labels_few}

-- ---- the triples

-- the larger graph has the triple beside the others
pub one_more : (q : PatternGraph) (t : QueryTree) (g : Graph) (e : Triple) (change : Change) → IsChangeOf q t g e change → IsGraph g → IsPermutation (large_of change g e).triples (e ∷ (small_of change g e).triples)
one_more q t g e Added is graph =
    let rest = (without_triple g e).triples in
    let back : put triple_cmp e rest ≡ g.triples = put_back triple_cmp triple_total triple_exact e g.triples graph.ascending_triples is.stands in
    let P : List Triple → Type 0 = λ ts. IsPermutation ts (e ∷ (without_triple g e).triples) in
    subst P back (perm-put triple_cmp e rest (absent_after triple_cmp triple_total e g.triples))
one_more q t g e Taken is graph = perm-put triple_cmp e g.triples is.stands

-- ---- the shape

length-filter_map : {X Y : Type 0} (f : X → Option Y) (xs : List X) → length (filter_map f xs) ≤ length xs
length-filter_map f [] = omega arith
length-filter_map {X} {Y} f (x ∷ xs) = by (f x) (length-filter_map f xs)
  where
    by : (o : Option Y) → length (filter_map f xs) ≤ length xs → length (cons_option o (filter_map f xs)) ≤ length (x ∷ xs)
    by None rest = omega arith
    by (Some y) rest = omega arith

seen_few : (change : Change) (g : Graph) (e : Triple) (b : Bool) → length (cond b (large_of change g e).triples (small_of change g e).triples) ≤ length g.triples + 1
seen_few Added g e true = omega arith
seen_few Added g e false = omega (arith, length-filter-le (λ (s : Triple). not (is_eq (triple_cmp s e))) g.triples)
seen_few Taken g e true = length-put triple_cmp e g.triples
seen_few Taken g e false = omega arith

-- the layers are those of the tree, whatever tree edges are done
pub shape : (q : PatternGraph) (t : QueryTree) (g : Graph) (e : Triple) (change : Change) (limits : Limits) → IsChangeOf q t g e change → IsWithinLimits limits g → (done : ℕ → Bool) → IsShapeOf (view (update_of q t g e change) done) t
shape q t g e change limits is held done =
    let small = small_of change g e in
    let large = large_of change g e in
    shape_of (joined_by q t (large_of change g e) (seen_by (small_of change g e) (large_of change g e) done)) is.belongs.tree (joins_fitting q t (large_of change g e) is.belongs (seen_by (small_of change g e) (large_of change g e) done)) (λ u.
    let few = seen_few change g e (done u) in
    let joints = length-filter_map (joint_of q t (large_of change g e) u) (cond (done u) (large_of change g e).triples (small_of change g e).triples) in
    let most : length g.triples ≤ 4194304 = omega (arith, held.within.triples, held.fair.edges.1) in
    omega (arith, few, joints, most))

-- ---- which tree edges are done at first

-- where a triple came, none
pub none_done : (t : QueryTree) → done_of t Added 0 ≡ nothing
none_done t = λ i z. turned_past t 0 z (omega arith) i

-- where it went, all
pub all_done : (t : QueryTree) → done_of t Taken 0 ≡ everything
all_done t = λ i z. not (turned_past t 0 z (omega arith) i)

-- ---- the rows

reached_fits : (j : Joined) (k u v : ℕ) → reaches_within k j u v ≡ true → j.fits u v ≡ true
reached_fits j zero u v h = absurd (let bad : false ≡ true = h in cc)
reached_fits j (suc k) u v h = (and_parts (j.fits u v) _ h).0

module _ (j : Joined) (is : IsTree j.tree) (fitting : JoinsFitting j) (d : StateRows) (exact : IsExactOver j d) where
  store_of : IsStoreOf (layers_of j) d
  store_of = record {
    whole = exact.whole;
    each = ap length exact.children ∙ length-map-range_with_len (λ u. length (children j.tree u)) 0 (length j.tree.links);
    widths = λ u lt.
        ap (λ cs. slice_index cs u) exact.children
        ∙ get_or-map-range_with_len (λ k. length (children j.tree k)) 0 (length j.tree.links) u u 0 lt (omega arith)
        ∙ sym (ap length (children_same j is fitting u));
  }

  sound_of : (members : List ℕ) → ((u v : ℕ) → j.fits u v ≡ true → list_any (λ z. z == v) members ≡ true) → IsSound (layers_of j) members (row_at d)
  sound_of members each = record { kept = local.kept; wide = wide; within = within }
    where
      local : IsLocal (layers_of j) (row_at d)
      local = local-from_exact j is fitting d exact

      wide : IsWide (layers_of j) (row_at d)
      wide u v row here = by (cases_lt u (length j.tree.links))
        where
          by : (u < length j.tree.links) ⊎ (length j.tree.links ≤ u) → length row.outs ≡ length (shown.children (layers_of j) u)
          by (inl low) = ap length (local.outs u low v row here) ∙ length-map (shown.children (layers_of j) u) _
          by (inr high) = absurd (let bad : None ≡ Some row = sym (local.none u v high) ∙ here in cc)

      within : KeptWithin (layers_of j) members (row_at d)
      within u v kept =
          let reached : reaches j u v ≡ true = sym (kept_of_exact j is d exact u v) ∙ kept in
          let fit = reached_fits j (length j.tree.links) u v reached in
          (by fit (cases_lt u (length j.tree.links)), each u v fit)
        where
          by : j.fits u v ≡ true → (u < length j.tree.links) ⊎ (length j.tree.links ≤ u) → u < length j.tree.links
          by fit (inl low) = low
          by fit (inr high) = absurd (both_ways (j.fits u v) (fitting.inside u v high) fit)

-- rows that agree with their neighbours are exact
pub exact_after : (q : PatternGraph) (t : QueryTree) (g : Graph) (d d' : StateRows) → BelongsTo q t → d.is_broken ≡ false → d.children ≡ map (λ u. length (children t u)) (range_with_len 0 (length t.links)) → SameStore d d' → IsLocal (layers q t g) (row_at d') → IsExact q t g d'
exact_after q t g d d' belongs whole counts same agrees = record {
  whole = same.whole ∙ whole;
  children = same.children ∙ counts;
  rows = exact-from_local (joined q t g) belongs.tree (joins_fitting q t g belongs (λ _. g.triples)) (row_at d') agrees;
}

-- ---- over one graph

module _ (q : PatternGraph) (t : QueryTree) (belongs : BelongsTo q t) (g : Graph) (d : StateRows) (exact : IsExact q t g d) where
  fitting : JoinsFitting (joined q t g)
  fitting = joins_fitting q t g belongs (λ _. g.triples)

  local_of : IsLocal (layers q t g) (row_at d)
  local_of = local-from_exact (joined q t g) belongs.tree fitting d exact

  sound_in : IsSound (layers q t g) (ids g) (row_at d)
  sound_in = sound_of (joined q t g) belongs.tree fitting d exact (ids g) (λ u v member. any_id q u g v member)

  store_in : IsStoreOf (layers q t g) d
  store_in = store_of (joined q t g) belongs.tree fitting d exact

-- ---- an update at its start

module _ (q : PatternGraph) (t : QueryTree) (g : Graph) (e : Triple) (belongs : BelongsTo q t) (d : StateRows) where
  -- members are vertices of the graph
  pub has_ids : (change : Change) → HasIds (view (update_of q t g e change) nothing) (ids g)
  has_ids change = λ u v member. any_id q u (large_of change g e) v member

  -- before an insertion
  pub local_added : IsExact q t (small_of Added g e) d → IsLocal (view (update_of q t g e Added) nothing) (row_at d)
  local_added exact = local_of q t belongs (small_of Added g e) d exact

  -- the rows are sound
  pub sound_added : IsExact q t (small_of Added g e) d → IsSound (view (update_of q t g e Added) nothing) (ids g) (row_at d)
  sound_added exact = sound_in q t belongs (small_of Added g e) d exact

  -- and of the right widths
  pub store_added : IsExact q t (small_of Added g e) d → IsStoreOf (view (update_of q t g e Added) nothing) d
  store_added exact = store_in q t belongs (small_of Added g e) d exact

  -- before a removal
  pub local_taken : IsExact q t (large_of Taken g e) d → IsLocal (view (update_of q t g e Taken) everything) (row_at d)
  local_taken exact = local_of q t belongs (large_of Taken g e) d exact

  -- the rows are sound
  pub sound_taken : IsExact q t (large_of Taken g e) d → IsSound (view (update_of q t g e Taken) nothing) (ids g) (row_at d)
  sound_taken exact =
      let sound = sound_in q t belongs (large_of Taken g e) d exact in
      record { kept = sound.kept; wide = sound.wide; within = sound.within }

  -- and of the right widths
  pub store_taken : IsExact q t (large_of Taken g e) d → IsStoreOf (view (update_of q t g e Taken) nothing) d
  store_taken exact =
      let store = store_in q t belongs (large_of Taken g e) d exact in
      record { whole = store.whole; each = store.each; widths = store.widths }

-- ---- the steps

module _ (q : PatternGraph) (t : QueryTree) (g : Graph) (e : Triple) (change : Change) (is : IsChangeOf q t g e change) (graph : IsGraph g) (d d' : StateRows) (exact : IsExact q t (small_of change g e) d) (exact' : IsExact q t (large_of change g e) d') (s0 s1 : ℕ) where
  abbrev up : Update
  up = update_of q t g e change

  abbrev spent : StateRows → ℕ
  spent rows = weight (view (update_of q t g e change) nothing) (ids g) (degree (large_of change g e)) (row_at rows)

  -- the steps of all tree edges, by the pairs that the triple touches
  pub whole_cost : s1 + spent d ≤ s0 + spent d' + edges_cost (update_of q t g e change) (view (update_of q t g e change) nothing).count → s1 ≤ s0 + move_cost q t (small_of change g e) (large_of change g e) e + 2 * edges_labelled q e.label
  whole_cost h =
      let same = ap (edges_cost (update_of q t g e change)) is.belongs.vertices in
      let grown = weight_touched q t (small_of change g e) (large_of change g e) e d d' is.belongs exact exact' in
      let all = update_spent (update_of q t g e change) s0 s1 (spent d) (spent d') is.belongs (one_more q t g e change is graph) (omega (arith, h, same)) grown in
      omega (arith, all, labels_few q t is.belongs (update_of q t g e change) (vertex_count q) refl refl)
