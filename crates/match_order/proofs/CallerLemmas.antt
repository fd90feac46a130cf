-- What follows from `IsOrderOf`, for a search that goes through the vertices in their order.
use Rattle.std.proofs.Common.{◌≡◌, ◌≢◌, ℕ, zero, suc, ◌-◌, ◌<◌, ◌≤◌, Bool, true, false, ◌||◌, ◌==◌, List, take, length, get_or, Option, Some, None, slice_index, refl, sym, ap, ◌∙◌, inl, inr, arith}
use Rattle.std.specs.Prelude.{◌⊎◌}
use Rattle.std.proofs.lemmas.Bool.{cases_lt, eqb-true}
use Rattle.std.proofs.lemmas.List.{length-map, length-take-le, get_or-take}
use Rattle.std.proofs.lemmas.Grind.{get_or_default_zero}
use Rattle.flux_model.specs.Tree.{QueryTree, link_at, is_child}
use Rattle.flux_model.specs.Order.{Place, SearchOrder, are_neighbours}
use Rattle.flux_model.specs.declared.tree.TreeLink.{TreeLink}
use Rattle.match_order.specs.Whole.{vertices, anchors, IsOrderOf}

-- the vertex hangs from the parent by a link of the tree
abbrev pub HangsFrom : QueryTree → ℕ → ℕ → Type 0
HangsFrom t u p = (l : TreeLink) × (link_at t u ≡ Some l) × (l.parent ≡ p)

-- ---- joined by a link

-- a child hangs from its parent
pub child_hangs : (t : QueryTree) (p u : ℕ) → is_child t p u ≡ true → HangsFrom t u p
child_hangs t p u h = by (link_at t u) refl
  where
    by : (o : Option TreeLink) → link_at t u ≡ o → HangsFrom t u p
    by None e = let none : is_child t p u ≡ false = rw e refl in cc
    by (Some l) e = let same : is_child t p u ≡ (l.parent == p) = rw e refl in (l, e, eqb-true l.parent p (sym same ∙ h))

-- of two neighbours one hangs from the other
pub neighbours_joined : (t : QueryTree) (u w : ℕ) → are_neighbours t u w ≡ true → HangsFrom t w u ⊎ HangsFrom t u w
neighbours_joined t u w h = by (is_child t u w) refl
  where
    by : (b : Bool) → is_child t u w ≡ b → HangsFrom t w u ⊎ HangsFrom t u w
    by true e = inl (child_hangs t u w e)
    by false e = inr (child_hangs t w u (sym (ap (λ b. b || is_child t w u) e) ∙ h))

default_zero : (xs : List ℕ) (k x : ℕ) → k < length xs → get_or xs k x ≡ x → get_or xs k 0 ≡ x
default_zero xs k x h e = sym (get_or_default_zero xs k x h) ∙ e

module _ (t : QueryTree) (o : SearchOrder) (whole : IsOrderOf t o) where
  places_count : length (vertices o) ≡ suc (length o.places)
  places_count = ap suc (length-map o.places (λ (p : Place). p.vertex))

  -- ---- each vertex once

  -- each vertex of the order is one of the tree
  pub vertex_within : (j : ℕ) → j < length (vertices o) → slice_index (vertices o) j < length t.links
  vertex_within j h = whole.inside j 0 h

  -- the place of a vertex
  pub place_of_vertex : (u : ℕ) → u < length t.links → (j : ℕ) × (j < length (vertices o)) × (slice_index (vertices o) j ≡ u)
  place_of_vertex u h = let c = whole.every u h in (c.0, c.1, default_zero (vertices o) c.0 u c.1 c.2)

  -- no vertex is there twice
  pub vertices_apart : (i j : ℕ) → i < j → j < length (vertices o) → slice_index (vertices o) i ≢ slice_index (vertices o) j
  vertices_apart i j low high = whole.distinct i j 0 low high

  -- a vertex has one place
  pub one_place : (i j : ℕ) → i < length (vertices o) → j < length (vertices o) → slice_index (vertices o) i ≡ slice_index (vertices o) j → i ≡ j
  one_place i j hi hj same = by (cases_lt i j) (cases_lt j i)
    where
      by : (i < j) ⊎ (j ≤ i) → (j < i) ⊎ (i ≤ j) → i ≡ j
      by (inl l) m = absurd (vertices_apart i j l hj same)
      by (inr l) (inl m) = absurd (vertices_apart j i m hi (sym same))
      by (inr l) (inr m) = omega arith

  -- ---- anchors

  -- the anchor of the vertex at place j stands at an earlier place
  pub anchor_before : (j : ℕ) → 1 ≤ j → j < length (vertices o) → (i : ℕ) × (i < j) × (slice_index (vertices o) i ≡ slice_index (anchors o) (j - 1))
  anchor_before zero low high = absurd (omega arith)
  anchor_before (suc j) low high =
      let last : suc j - 1 ≡ j = omega arith in
      let c = (whole.anchored j (omega (arith, places_count))).before in
      let early : c.0 < suc j = omega (arith, c.1, length-take-le (suc j) (vertices o) (omega arith)) in
      let at = default_zero (take (suc j) (vertices o)) c.0 (slice_index (anchors o) j) c.1 c.2 in
      (c.0, early, sym (get_or-take (suc j) (vertices o) c.0 0 early) ∙ at ∙ sym (ap (slice_index (anchors o)) last))

  -- they are neighbours
  pub anchor_near : (j : ℕ) → 1 ≤ j → j < length (vertices o) → are_neighbours t (slice_index (vertices o) j) (slice_index (anchors o) (j - 1)) ≡ true
  anchor_near zero low high = absurd (omega arith)
  anchor_near (suc j) low high =
      let last : suc j - 1 ≡ j = omega arith in
      ap (λ i. are_neighbours t (slice_index (vertices o) (suc j)) (slice_index (anchors o) i)) last
      ∙ (whole.anchored j (omega (arith, places_count))).near

  -- one hangs from the other
  pub anchor_joined : (j : ℕ) → 1 ≤ j → j < length (vertices o) → HangsFrom t (slice_index (anchors o) (j - 1)) (slice_index (vertices o) j) ⊎ HangsFrom t (slice_index (vertices o) j) (slice_index (anchors o) (j - 1))
  anchor_joined j low high = neighbours_joined t (slice_index (vertices o) j) (slice_index (anchors o) (j - 1)) (anchor_near j low high)
