-- What the functions of the search ask for: the edge to an anchor, and what the index tells.
use Rattle.std.proofs.Common.{◌≡◌, ℕ, ◌+◌, map, ◌<◌, ◌≤◌, zero, suc, Bool, true, false, ◌&&◌, List, [], ◌∷◌, length, take, slice_index, Option, Some, refl, sym, ap, ◌∙◌, arith}
use Rattle.std.specs.Option.{unwrap_or}
use Rattle.std.proofs.lemmas.List.{length-map}
use Rattle.std.proofs.lemmas.List.FromFn.{length-range_with_len}
use Rattle.std.specs.List.{range_with_len}
use Rattle.flux_model.specs.Exact.{StateRows, row_at, live_counts, IsExact}
use Rattle.std.specs.Prelude.{count_by}
use Rattle.flux_model.specs.Graph.{Graph, IsGraph, ids}
use Rattle.flux_model.specs.Order.{SearchOrder, are_neighbours}
use Rattle.flux_model.specs.Partial.{id_of}
use Rattle.flux_model.specs.Pattern.{PatternGraph, vertex_count}
use Rattle.flux_model.specs.States.{joined, reaches, extends, is_explicit, state_for}
use Rattle.flux_model.specs.Tree.{QueryTree, children, BelongsTo}
use Rattle.flux_model.specs.declared.state.State.{State}
use Rattle.flux_model.specs.declared.state.State.TheVariants.{Null, Implicit, Explicit}
use Rattle.dcg_store.specs.Counters.{state_of_row}
use Rattle.dcg_store.specs.SoundRows.{live_count}
use Rattle.dcg_store.proofs.CallerLemmas.{HasDepths, state_of_exact, live_of_exact}
use Rattle.match_order.specs.Whole.{vertices}
use Rattle.match_order.proofs.CallerLemmas.{vertex_within, anchor_before, anchor_near}
use Rattle.query_tree.specs.Depth.{depth}
use Rattle.query_tree.proofs.CallerLemmas.{depth-below, depth-small}
use Rattle.tree_search.specs.Given.{IsReady, IsGiven, nth_vertex, nth_anchor}
use Rattle.tree_search.specs.Members.{ids_of}
use Rattle.graph_rows.proofs.SumLemmas.{distinct_ids}

-- the front of an array, where it has the ids
pub front_is : (n : ℕ) (ids : List ℕ) (p : List (Option ℕ)) → n ≡ length p → n ≤ length ids → ((j : ℕ) → j < n → slice_index ids j ≡ unwrap_or (id_of p j) 0) → take n ids ≡ ids_of p
front_is zero ids [] size h each = refl
front_is zero ids (o ∷ p) size h each = absurd (omega (arith, size))
front_is (suc n) ids [] size h each = absurd (omega (arith, size))
front_is (suc n) [] (o ∷ p) size h each = absurd (omega (arith, h))
front_is (suc n) (x ∷ ids) (o ∷ p) size h each =
    let first : x ≡ unwrap_or o 0 = each 0 (omega arith) in
    let rest : take n ids ≡ ids_of p = front_is n ids p (omega (arith, size)) (omega (arith, h)) (λ j l. each (suc j) (omega (arith, l))) in
    λ i. first i ∷ rest i

-- the front of an array, where it has the values of the numbers from a on
pub values_front : (f : ℕ → ℕ) (a n : ℕ) (xs : List ℕ) → n ≤ length xs → ((j : ℕ) → j < n → slice_index xs j ≡ f (a + j)) → take n xs ≡ map f (range_with_len a n)
values_front f a zero xs h each = refl
values_front f a (suc n) [] h each = absurd (omega (arith, h))
values_front f a (suc n) (x ∷ xs) h each =
    let same : a + 0 ≡ a = omega arith in
    let first : x ≡ f a = each 0 (omega arith) ∙ ap f same in
    let rest : take n xs ≡ map f (range_with_len (a + 1) n) = values_front f (a + 1) n xs (omega (arith, h)) (λ j l.
    (let next : a + suc j ≡ a + 1 + j = omega arith in
    each (suc j) (omega (arith, l)) ∙ ap f next)) in
    λ i. first i ∷ rest i

-- the index keeps a layer for each vertex of the pattern
pub children_sized : (q : PatternGraph) (t : QueryTree) (d : StateRows) (g : Graph) → BelongsTo q t → IsExact q t g d → length d.children ≡ vertex_count q
children_sized q t d g belongs exact =
    ap (λ l. length l) exact.children
    ∙ length-map (range_with_len 0 (length t.links)) (λ u. length (children t u))
    ∙ length-range_with_len 0 (length t.links)
    ∙ belongs.vertices

module _ (q : PatternGraph) (t : QueryTree) (d : StateRows) (g : Graph) (belongs : BelongsTo q t) (exact : IsExact q t g d) where
  -- the same, for an index that is exact
  pub children_count : length d.children ≡ vertex_count q
  children_count = children_sized q t d g belongs exact

  deep : HasDepths t (depth t)
  deep = record { deeper = depth-below t belongs.tree; shallow = depth-small t belongs.tree }

  -- the state that the row tells is explicit exactly where the pair is
  told : (u v : ℕ) → state_of_row (row_at d u v) ≡ state_for (reaches (joined q t g) u v) (extends (joined q t g) u v)
  told u v = state_of_exact (joined q t g) (depth t) belongs.tree deep d exact u v

  -- a state that is told as explicit is
  pub explicit_told : (u v : ℕ) (s : State) → s ≡ state_of_row (row_at d u v) → s ≡ Explicit → true ≡ is_explicit (joined q t g) u v
  explicit_told u v s is same = by (reaches (joined q t g) u v) (extends (joined q t g) u v) (sym (told u v) ∙ sym is ∙ same)
    where
      by : (a b : Bool) → state_for a b ≡ Explicit → true ≡ a && b
      by true true e = refl
      by true false e = absurd (let clash : Implicit ≡ Explicit = e in cc)
      by false b e = absurd (let clash : Null ≡ Explicit = e in cc)

  -- a state that is told otherwise is not explicit
  pub other_told : (u v : ℕ) (s : State) → s ≡ state_of_row (row_at d u v) → (s ≡ Explicit → ⊥) → false ≡ is_explicit (joined q t g) u v
  other_told u v s is other = by (reaches (joined q t g) u v) (extends (joined q t g) u v) (λ e. other (is ∙ told u v ∙ e))
    where
      by : (a b : Bool) → (state_for a b ≡ Explicit → ⊥) → false ≡ a && b
      by true true e = absurd (e refl)
      by true false e = refl
      by false b e = refl

  -- the counts that the index tells are those of the explicit pairs
  pub live_of : IsGraph g → (u : ℕ) → live_count d u ≡ count_by (is_explicit (joined q t g) u) (ids g)
  live_of is = live_of_exact q t g (depth t) d belongs.tree deep (distinct_ids g is) exact

  -- so the counts of all vertices are those by which the order is chosen
  pub live_told : IsGraph g → map (live_count d) (range_with_len 0 (vertex_count q)) ≡ live_counts g (joined q t g)
  live_told is =
      ap (λ n. map (live_count d) (range_with_len 0 n)) (sym belongs.vertices)
      ∙ (λ i. map (λ u. live_of is u i) (range_with_len 0 (length t.links)))

module _ (q : PatternGraph) (t : QueryTree) (d : StateRows) (g : Graph) (o : SearchOrder) (ready : IsReady q t d g o) where
  -- ---- the anchor at place k

  module _ (k : ℕ) (some : 1 ≤ k) (few : k < length (vertices o)) where
    -- the anchor is a vertex of the tree
    pub anchor_inside : nth_anchor o k < length t.links
    anchor_inside =
        let b = anchor_before t o ready.order k some few in
        omega (arith, vertex_within t o ready.order b.0 (omega (arith, b.1, few)), b.2)

    -- it is a neighbour of its vertex
    pub anchor_beside : are_neighbours t (nth_vertex o k) (nth_anchor o k) ≡ true
    anchor_beside = anchor_near t o ready.order k some few

    -- it has an id
    pub anchor_given : (p : _) → IsGiven q t g o k p → (v : ℕ) × (id_of p (nth_anchor o k) ≡ Some v)
    anchor_given p known =
        let b = anchor_before t o ready.order k some few in
        let v = known.given b.0 b.1 in
        (v.0, ap (id_of p) (sym b.2) ∙ v.1)
