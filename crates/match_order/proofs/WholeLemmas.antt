-- The order of a search has every vertex of the tree once.
use Rattle.std.proofs.Common.{◌≡◌, ◌≢◌, ℕ, zero, suc, ◌+◌, ◌<◌, ◌≤◌, Bool, true, false, not, ◌||◌, ◌&&◌, ◌==◌, eqb, cond, List, [], ◌∷◌, ◌++◌, reverse, take, length, get_or, Option, Some, None, slice_index, refl, sym, ap, subst, ◌∙◌, inl, inr, arith}
use Rattle.std.specs.Prelude.{◌⊎◌, find, All, AllPairs, Contains}
use Rattle.std.specs.Option.{option_map, unwrap_or}
use Rattle.std.specs.List.{list_any, range_with_len}
use Rattle.std.proofs.lemmas.Bool.{cases_lt, eqb-true, eq-eqb}
use Rattle.std.proofs.lemmas.Bool.Decides.{Decides-eqb}
use Rattle.std.proofs.lemmas.Cmp.{nat_eq_equiv}
use Rattle.std.proofs.lemmas.List.{length-append, length-map, reverse-reverse, get_or_append_left, take-append-le}
use Rattle.std.proofs.lemmas.List.Elements.{All-push, All-contains, Contains-append_left, Contains-get_or}
use Rattle.std.proofs.lemmas.List.Folds.{list_any_at, Any-from_list_any}
use Rattle.std.proofs.lemmas.List.FromFn.{length-range_with_len, get_or-range_with_len}
use Rattle.std.proofs.lemmas.List.Quantifiers.{all_pairs_push}
use Rattle.std.proofs.lemmas.List.Sorted.{Contains-permutation, IsPermutation-reverse}
use Rattle.std.proofs.lemmas.Map.Made.{length-le_from_is_member, IsDistinct-from_AllPairs}
use Rattle.std.proofs.lemmas.Map.Steps.{length-le_from_distinct_below}
use Rattle.std.proofs.lemmas.Map.Views.{Contains-from_any, list_any-from_Contains}
use Rattle.std.proofs.Math.Seq.{get_or-append_seam, take-append_seam}
use Rattle.flux_model.specs.Tree.{QueryTree, IsTree, least}
use Rattle.flux_model.specs.Order.{Place, SearchOrder, are_neighbours, open_vertices, place_of, search_order}
use Rattle.query_tree.proofs.LeastLemmas.{least_none, least_passes}
use Rattle.match_order.specs.Whole.{vertices, anchors, latest_first, IsAnchored, IsOrderOf}
use Rattle.match_order.specs.Steps.{next_place, with_place}
use Rattle.match_order.proofs.PlaceLemmas.{vertices_more, anchors_more, completed, completed_none, completed_more}
use Rattle.match_order.proofs.SpanLemmas.{all_placed}

-- ---- elements of lists

-- what stands in a list is found there
stands : (xs : List ℕ) (w : ℕ) → Contains xs w → list_any (λ x. x == w) xs ≡ true
stands xs w c = list_any_at (λ x. x == w) xs c.0 w c.1 (eq-eqb (get_or xs c.0 w) w c.2)

stands_from : (xs : List ℕ) (w : ℕ) → list_any (λ x. x == w) xs ≡ true → Contains xs w
stands_from xs w h =
    let a = Any-from_list_any (λ x. x == w) xs h in
    let same : a.1 ≡ w = eqb-true a.1 w a.4 in
    subst (Contains xs) same (a.0, a.2, a.3)

-- the first that passes
find_passes : (p : ℕ → Bool) (xs : List ℕ) → list_any p xs ≡ true → (w : ℕ) × (find p xs ≡ Some w) × Contains xs w × (p w ≡ true)
find_passes p [] h = cc
find_passes p (x ∷ xs) h = by (p x) refl (find_passes p xs)
  where
    by : (b : Bool) → p x ≡ b → (list_any p xs ≡ true → (w : ℕ) × (find p xs ≡ Some w) × Contains xs w × (p w ≡ true)) → (w : ℕ) × (find p (x ∷ xs) ≡ Some w) × Contains (x ∷ xs) w × (p w ≡ true)
    by true e rest = (x, ap (λ c. cond c (Some x) (find p xs)) e, (0, omega arith, refl), e)
    by false e rest =
        let r = rest (sym (ap (λ b. b || list_any p xs) e) ∙ h) in
        (r.0, ap (λ c. cond c (Some x) (find p xs)) e ∙ r.1, (suc r.2.0, omega (arith, r.2.1), r.2.2), r.3)

in_reverse : (xs : List ℕ) (w : ℕ) → Contains (reverse xs) w → Contains xs w
in_reverse xs w c = subst (λ (l : List ℕ). Contains l w) (reverse-reverse xs) (Contains-permutation (reverse xs) (reverse (reverse xs)) w (IsPermutation-reverse (reverse xs)) c)

to_reverse : (xs : List ℕ) (w : ℕ) → Contains xs w → Contains (reverse xs) w
to_reverse xs w c = Contains-permutation xs (reverse xs) w (IsPermutation-reverse xs) c

-- ---- one place more

-- some vertices of the tree are placed
pub record IsPartOf (t : QueryTree) (o : SearchOrder) : Type 0 where
  pub inside : All (λ u. u < length t.links) (vertices o)
  pub distinct : AllPairs (λ u w. u ≢ w) (vertices o)
  pub anchored : (j : ℕ) → j < length o.places → IsAnchored t o j

-- the start alone is part of an order
pub one_vertex : (t : QueryTree) (start : ℕ) → start < length t.links → IsPartOf t (record { start = start; places = [] })
one_vertex t start h = record {
  inside = all;
  distinct = λ i j d low high. absurd (omega arith);
  anchored = λ j l. absurd (omega arith);
}
  where
    all : (k d : ℕ) → k < 1 → get_or (start ∷ []) k d < length t.links
    all zero d l = h
    all (suc k) d l = absurd (omega arith)

module _ (t : QueryTree) (o : SearchOrder) (part : IsPartOf t o) (u w : ℕ) (inside : u < length t.links) (apart : Contains (vertices o) u → ⊥) (held : Contains (vertices o) w) (near : are_neighbours t u w ≡ true) where
  abbrev place : Place
  place = record { vertex = u; anchor = w }

  abbrev longer : SearchOrder
  longer = with_place o (Some place)

  vertices_at : (k d : ℕ) → k < length (vertices o) → get_or (vertices longer) k d ≡ get_or (vertices o) k d
  vertices_at k d h = ap (λ (l : List ℕ). get_or l k d) (vertices_more o place) ∙ get_or_append_left (vertices o) (u ∷ []) d k h

  vertices_last : (d : ℕ) → get_or (vertices longer) (length (vertices o)) d ≡ u
  vertices_last d = ap (λ (l : List ℕ). get_or l (length (vertices o)) d) (vertices_more o place) ∙ get_or-append_seam (vertices o) u [] d

  anchors_length : length (anchors o) ≡ length o.places
  anchors_length = length-map o.places (λ (p : Place). p.anchor)

  vertices_length : length (vertices o) ≡ suc (length o.places)
  vertices_length = ap suc (length-map o.places (λ (p : Place). p.vertex))

  anchors_at : (j : ℕ) → j < length o.places → slice_index (anchors longer) j ≡ slice_index (anchors o) j
  anchors_at j h = ap (λ (l : List ℕ). get_or l j 0) (anchors_more o place) ∙ get_or_append_left (anchors o) (w ∷ []) 0 j (omega (arith, anchors_length))

  anchors_last : slice_index (anchors longer) (length (anchors o)) ≡ w
  anchors_last = ap (λ (l : List ℕ). get_or l (length (anchors o)) 0) (anchors_more o place) ∙ get_or-append_seam (anchors o) w [] 0

  old_anchored : (j : ℕ) → j < length o.places → IsAnchored t longer j
  old_anchored j h =
      let old = part.anchored j h in
      let front : take (suc j) (vertices longer) ≡ take (suc j) (vertices o) = ap (take (suc j)) (vertices_more o place) ∙ take-append-le (suc j) (vertices o) (u ∷ []) (omega (arith, vertices_length)) in
      record {
        before = subst (λ (l : List ℕ). Contains l (slice_index (anchors longer) j)) (sym front) (subst (Contains (take (suc j) (vertices o))) (sym (anchors_at j h)) old.before);
        near =
            ap (λ v. are_neighbours t v (slice_index (anchors longer) j)) (vertices_at (suc j) 0 (omega (arith, vertices_length)))
            ∙ ap (are_neighbours t (slice_index (vertices o) (suc j))) (anchors_at j h)
            ∙ old.near;
      }

  new_anchored : (j : ℕ) → j ≡ length o.places → IsAnchored t longer j
  new_anchored j e =
      let at : slice_index (anchors longer) j ≡ w = ap (slice_index (anchors longer)) (e ∙ sym anchors_length) ∙ anchors_last in
      let last : slice_index (vertices longer) (suc j) ≡ u = ap (slice_index (vertices longer)) (ap suc e ∙ sym vertices_length) ∙ vertices_last 0 in
      let front : take (suc j) (vertices longer) ≡ vertices o =
      ap (λ n. take n (vertices longer)) (ap suc e ∙ sym vertices_length)
      ∙ ap (take (length (vertices o))) (vertices_more o place)
      ∙ take-append_seam (vertices o) (u ∷ [])
      in
      record {
        before = subst (λ (l : List ℕ). Contains l (slice_index (anchors longer) j)) (sym front) (subst (Contains (vertices o)) (sym at) held);
        near = ap (λ v. are_neighbours t v (slice_index (anchors longer) j)) last ∙ ap (are_neighbours t u) at ∙ near;
      }

  -- with one more vertex beside its anchor it is still part of an order
  pub part_more : IsPartOf t longer
  part_more = record {
    inside = subst (All (λ v. v < length t.links)) (sym (vertices_more o place)) (All-push (λ v. v < length t.links) (vertices o) u part.inside inside);
    distinct = subst (AllPairs (λ v x. v ≢ x)) (sym (vertices_more o place)) (all_pairs_push (λ v x. v ≢ x) (vertices o) u part.distinct (λ k d h same. apart (subst (Contains (vertices o)) same (Contains-get_or (vertices o) k d h))));
    anchored = λ j h. by j h (cases_lt j (length o.places));
  }
    where
      by : (j : ℕ) → j < length longer.places → (j < length o.places) ⊎ (length o.places ≤ j) → IsAnchored t longer j
      by j h (inl l) = old_anchored j l
      by j h (inr l) = new_anchored j (omega (arith, length-append o.places (place ∷ [])))

-- ---- one step more

-- every vertex is placed
abbrev pub Covers : QueryTree → SearchOrder → Type 0
Covers t o = (u : ℕ) → u < length t.links → Contains (vertices o) u

-- after k steps
pub record IsAfter (k : ℕ) (t : QueryTree) (o : SearchOrder) : Type 0 where
  pub part : IsPartOf t o
  pub far : Covers t o ⊎ (k ≤ length o.places)

module _ (t : QueryTree) (is : IsTree t) (live : List ℕ) where
  module _ (o : SearchOrder) (part : IsPartOf t o) where
    abbrev is_open : ℕ → Bool
    is_open u = not (list_any (λ w. w == u) (latest_first o)) && list_any (are_neighbours t u) (latest_first o)

    -- where none is open, all are placed
    covered : open_vertices t (latest_first o) ≡ [] → Covers t o
    covered none u h =
        in_reverse (vertices o) u
        (stands_from (latest_first o) u (all_placed t is (latest_first o) none o.start (part.inside 0 0 (omega arith)) (stands (latest_first o) o.start (to_reverse (vertices o) o.start (0, omega arith, refl))) u h))

    split : (a b : Bool) → (not a && b) ≡ true → (a ≡ false) × (b ≡ true)
    split true b h = cc
    split false b h = (refl, h)

    part_with : (u : ℕ) → u < length t.links → is_open u ≡ true → IsPartOf t (with_place o (Some (place_of t (latest_first o) u)))
    part_with u h opened =
        let both = split (list_any (λ w. w == u) (latest_first o)) (list_any (are_neighbours t u) (latest_first o)) opened in
        let w = find_passes (are_neighbours t u) (latest_first o) both.1 in
        let apart : Contains (vertices o) u → ⊥ = λ c. (let there = stands (latest_first o) u (to_reverse (vertices o) u c) in let gone = both.0 in cc) in
        subst (λ n. IsPartOf t (with_place o (Some (record { vertex = u; anchor = unwrap_or n 0 })))) (sym w.1)
        (part_more t o part u w.0 h apart (in_reverse (vertices o) w.0 w.2) w.3)

  -- one step further, one more vertex is there
  pub after_more : (k : ℕ) (o : SearchOrder) → IsAfter k t o → IsAfter (suc k) t (with_place o (next_place t live (latest_first o)))
  after_more k o old = by (least (slice_index live) (open_vertices t (latest_first o))) refl
    where
      by : (n : Option ℕ) → least (slice_index live) (open_vertices t (latest_first o)) ≡ n → IsAfter (suc k) t (with_place o (option_map (place_of t (latest_first o)) (least (slice_index live) (open_vertices t (latest_first o)))))
      by None e = rw e (record { part = old.part; far = inl (covered o old.part (least_none (slice_index live) (open_vertices t (latest_first o)) e)) })
      by (Some u) e =
          let passes = least_passes (slice_index live) (is_open o old.part) (length t.links) u e in
          let p = place_of t (latest_first o) u in
          rw e (record { part = part_with o old.part u passes.0 passes.1; far = far p old.far })
        where
          far : (p : Place) → Covers t o ⊎ (k ≤ length o.places) → Covers t (with_place o (Some p)) ⊎ (suc k ≤ length (o.places ++ p ∷ []))
          far p (inl all) = inl (λ v h. subst (λ (l : List ℕ). Contains l v) (sym (vertices_more o p)) (Contains-append_left (vertices o) (p.vertex ∷ []) v (all v h)))
          far p (inr long) = inr (omega (arith, length-append o.places (p ∷ [])))

  after_all : (n k m : ℕ) (o : SearchOrder) → m ≡ k + n → IsAfter k t o → IsAfter m t (completed n t live o)
  after_all zero k m o e old = let same : k ≡ m = omega (arith, e) in subst (IsAfter m t) (sym (completed_none t live o)) (subst (λ j. IsAfter j t o) same old)
  after_all (suc n) k m o e old =
      subst (IsAfter m t) (sym (completed_more t live n o))
      (after_all n (suc k) m (with_place o (next_place t live (latest_first o))) (omega (arith, e)) (after_more k o old))

-- ---- after as many steps as there are vertices

distinct_range : (n : ℕ) → AllPairs (λ u w. u ≢ w) (range_with_len 0 n)
distinct_range n i j d low high same =
    let inside : j < n = omega (arith, length-range_with_len 0 n) in
    omega (arith, same, get_or-range_with_len 0 n i d (omega arith), get_or-range_with_len 0 n j d inside)

within_range : (n q : ℕ) → list_any (eqb q) (range_with_len 0 n) ≡ true → q < n
within_range n q h =
    let c = Contains-from_any eqb-true q (range_with_len 0 n) h in
    let inside : c.0 < n = omega (arith, c.1, length-range_with_len 0 n) in
    omega (arith, c.2, get_or-range_with_len 0 n c.0 q inside)

module _ (t : QueryTree) (o : SearchOrder) (done : IsAfter (length t.links) t o) where
  few : length (vertices o) ≤ length t.links
  few =
      length-le_from_distinct_below (vertices o) (length t.links) (IsDistinct-from_AllPairs Decides-eqb (vertices o) done.part.distinct)
      (λ q h. All-contains (λ u. u < length t.links) (vertices o) q done.part.inside (Contains-from_any eqb-true q (vertices o) h))

  every : Covers t o
  every = by done.far
    where
      by : Covers t o ⊎ (length t.links ≤ length o.places) → Covers t o
      by (inl all) = all
      by (inr long) = absurd (omega (arith, few, length-map o.places (λ (p : Place). p.vertex)))

  many : length t.links ≤ length (vertices o)
  many =
      let least = length-le_from_is_member nat_eq_equiv (range_with_len 0 (length t.links)) (vertices o) (IsDistinct-from_AllPairs Decides-eqb (range_with_len 0 (length t.links)) (distinct_range (length t.links)))
      (λ q h. list_any-from_Contains nat_eq_equiv q (vertices o) (every q (within_range (length t.links) q h)))
      in
      omega (arith, least, length-range_with_len 0 (length t.links))

  whole : IsOrderOf t o
  whole = record {
    count = omega (arith, few, many);
    inside = done.part.inside;
    every = every;
    distinct = done.part.distinct;
    anchored = done.part.anchored;
  }

-- in a tree the order has every vertex
pub search_order_whole : (t : QueryTree) → IsTree t → (start : ℕ) (live : List ℕ) → start < length t.links → IsOrderOf t (search_order t start live)
search_order_whole t is start live h =
    whole t (search_order t start live)
    (after_all t is live (length t.links) 0 (length t.links) (record { start = start; places = [] }) (omega arith) (record { part = one_vertex t start h; far = inr (omega arith) }))
