-- Each link of the tree joins a vertex of the order and its anchor.
use Rattle.std.proofs.Common.{◌≡◌, ◌≢◌, ℕ, zero, suc, ◌-◌, ◌<◌, ◌≤◌, true, length, Some, slice_index, sym, ap, subst, ◌∙◌, inl, inr, arith}
use Rattle.std.specs.Prelude.{◌⊎◌}
use Rattle.std.proofs.lemmas.Bool.{cases_eq, cases_lt, or_left, or_right}
use Rattle.flux_model.specs.Tree.{QueryTree, IsTree, link_at, is_child}
use Rattle.flux_model.specs.Order.{SearchOrder, are_neighbours}
use Rattle.flux_model.specs.declared.tree.TreeLink.{TreeLink}
use Rattle.query_tree.specs.Depth.{depth}
use Rattle.query_tree.proofs.CallerLemmas.{link_within, parent_within, is_child_of, depth-below}
use Rattle.match_order.specs.Whole.{vertices, anchors, IsOrderOf}
use Rattle.match_order.proofs.CallerLemmas.{HangsFrom, place_of_vertex, one_place, anchor_before, anchor_joined, neighbours_joined}

module _ (t : QueryTree) where
  one_parent : (u p q : ℕ) → HangsFrom t u p → HangsFrom t u q → p ≡ q
  one_parent u p q a b =
      let e : link_at t u ≡ Some a.0 = a.1 in
      let f : link_at t u ≡ Some b.0 = b.1 in
      let same : a.0 ≡ b.0 = cc in
      sym a.2 ∙ ap (λ (l : TreeLink). l.parent) same ∙ b.2

  deeper : IsTree t → (u p : ℕ) → HangsFrom t u p → depth t u ≡ suc (depth t p)
  deeper is u p a = depth-below t is u a.0 a.1 ∙ ap (λ v. suc (depth t v)) a.2

module _ (t : QueryTree) (is : IsTree t) (o : SearchOrder) (whole : IsOrderOf t o) where
  abbrev vertex : ℕ → ℕ
  vertex j = slice_index (vertices o) j

  abbrev anchor : ℕ → ℕ
  anchor j = slice_index (anchors o) (j - 1)

  -- the first n places hang together: one of them is on top, and the parent of each other one is among them
  record HangTogether (n : ℕ) : Type 0 where
    pub top : ℕ
    pub within : top < n
    pub least : (i : ℕ) → i < n → depth t (vertex top) ≤ depth t (vertex i)
    pub parents : (i p : ℕ) → i < n → i ≢ top → HangsFrom t (vertex i) p → (k : ℕ) × (k < n) × (vertex k ≡ p)

  first_alone : 1 ≤ length (vertices o) → HangTogether 1
  first_alone h = record {
    top = 0;
    within = omega arith;
    least = λ i l. (let e : i ≡ 0 = omega arith in subst (λ k. depth t (vertex 0) ≤ depth t (vertex k)) (sym e) (omega arith));
    parents = λ i p l other hangs. absurd (other (omega arith));
  }

  -- one place more
  module _ (n : ℕ) (inside : suc n < length (vertices o)) (old : HangTogether (suc n)) where
    -- what hangs from the new vertex is on top
    child_on_top : (k : ℕ) → k < suc n → HangsFrom t (vertex k) (vertex (suc n)) → k ≡ old.top
    child_on_top k h hangs = by (cases_eq k old.top)
      where
        by : (k ≡ old.top) ⊎ (k ≡ old.top → ⊥) → k ≡ old.top
        by (inl same) = same
        by (inr other) =
            let up = old.parents k (vertex (suc n)) h other hangs in
            absurd (omega (arith, up.1, one_place t o whole up.0 (suc n) (omega (arith, up.1)) inside up.2))

    -- the new vertex is on top
    above : (a : ℕ) → a < suc n → HangsFrom t (vertex a) (vertex (suc n)) → HangTogether (suc (suc n))
    above a h hangs = record {
      top = suc n;
      within = omega arith;
      least = λ i l. lowest i l (cases_eq i (suc n));
      parents = λ i p l other from. up i p l other from (cases_eq i a);
    }
      where
        lowest : (i : ℕ) → i < suc (suc n) → (i ≡ suc n) ⊎ (i ≡ suc n → ⊥) → depth t (vertex (suc n)) ≤ depth t (vertex i)
        lowest i l (inl e) = subst (λ k. depth t (vertex (suc n)) ≤ depth t (vertex k)) (sym e) (omega arith)
        lowest i l (inr other) =
            omega (arith, deeper t is (vertex a) (vertex (suc n)) hangs, ap (λ k. depth t (vertex k)) (child_on_top a h hangs), old.least i (omega arith))

        up : (i p : ℕ) → i < suc (suc n) → i ≢ suc n → HangsFrom t (vertex i) p → (i ≡ a) ⊎ (i ≡ a → ⊥) → (k : ℕ) × (k < suc (suc n)) × (vertex k ≡ p)
        up i p l other from (inl e) = (suc n, omega arith, one_parent t (vertex a) (vertex (suc n)) p hangs (subst (λ k. HangsFrom t (vertex k) p) e from))
        up i p l other from (inr apart) =
            let r = old.parents i p (omega arith) (λ same. apart (same ∙ sym (child_on_top a h hangs))) from in
            (r.0, omega (arith, r.1), r.2)

    -- the new vertex hangs from one of the others
    below : (a : ℕ) → a < suc n → HangsFrom t (vertex (suc n)) (vertex a) → HangTogether (suc (suc n))
    below a h hangs = record {
      top = old.top;
      within = omega (arith, old.within);
      least = λ i l. lowest i l (cases_eq i (suc n));
      parents = λ i p l other from. up i p l other from (cases_eq i (suc n));
    }
      where
        lowest : (i : ℕ) → i < suc (suc n) → (i ≡ suc n) ⊎ (i ≡ suc n → ⊥) → depth t (vertex old.top) ≤ depth t (vertex i)
        lowest i l (inl e) =
            subst (λ k. depth t (vertex old.top) ≤ depth t (vertex k)) (sym e)
            (omega (arith, deeper t is (vertex (suc n)) (vertex a) hangs, old.least a h))
        lowest i l (inr other) = old.least i (omega arith)

        up : (i p : ℕ) → i < suc (suc n) → i ≢ old.top → HangsFrom t (vertex i) p → (i ≡ suc n) ⊎ (i ≡ suc n → ⊥) → (k : ℕ) × (k < suc (suc n)) × (vertex k ≡ p)
        up i p l other from (inl e) = (a, omega arith, one_parent t (vertex (suc n)) (vertex a) p hangs (subst (λ k. HangsFrom t (vertex k) p) e from))
        up i p l other from (inr apart) =
            let r = old.parents i p (omega arith) other from in
            (r.0, omega (arith, r.1), r.2)

  hang_together : (n : ℕ) → n < length (vertices o) → HangTogether (suc n)
  hang_together zero h = first_alone (omega arith)
  hang_together (suc n) h = by (anchor_before t o whole (suc n) (omega arith) h) (anchor_joined t o whole (suc n) (omega arith) h) (hang_together n (omega arith))
    where
      by : (i : ℕ) × (i < suc n) × (vertex i ≡ anchor (suc n)) → HangsFrom t (anchor (suc n)) (vertex (suc n)) ⊎ HangsFrom t (vertex (suc n)) (anchor (suc n)) → HangTogether (suc n) → HangTogether (suc (suc n))
      by (i, l, e) (inl hangs) old = above n h old i l (subst (λ v. HangsFrom t v (vertex (suc n))) (sym e) hangs)
      by (i, l, e) (inr hangs) old = below n h old i l (subst (λ v. HangsFrom t (vertex (suc n)) v) (sym e) hangs)

  -- no other vertex before it than its anchor is a vertex's neighbour
  one_anchor : (n i k : ℕ) → suc n < length (vertices o) → HangTogether (suc n) → i < suc n → k < suc n → HangsFrom t (vertex i) (vertex (suc n)) ⊎ HangsFrom t (vertex (suc n)) (vertex i) → HangsFrom t (vertex k) (vertex (suc n)) ⊎ HangsFrom t (vertex (suc n)) (vertex k) → vertex i ≡ vertex k
  one_anchor n i k inside old hi hk (inl a) (inl b) = ap vertex (child_on_top n inside old i hi a ∙ sym (child_on_top n inside old k hk b))
  one_anchor n i k inside old hi hk (inr a) (inr b) = one_parent t (vertex (suc n)) (vertex i) (vertex k) a b
  one_anchor n i k inside old hi hk (inl a) (inr b) = absurd (omega (arith, deeper t is (vertex i) (vertex (suc n)) a, deeper t is (vertex (suc n)) (vertex k) b, ap (λ j. depth t (vertex j)) (child_on_top n inside old i hi a), old.least k hk))
  one_anchor n i k inside old hi hk (inr a) (inl b) = absurd (omega (arith, deeper t is (vertex k) (vertex (suc n)) b, deeper t is (vertex (suc n)) (vertex i) a, ap (λ j. depth t (vertex j)) (child_on_top n inside old k hk b), old.least i hi))

  -- a neighbour that stands before a vertex is its anchor
  pub anchor_is : (j k : ℕ) → k < j → j < length (vertices o) → are_neighbours t (vertex j) (vertex k) ≡ true → anchor j ≡ vertex k
  anchor_is zero k low high near = absurd (omega arith)
  anchor_is (suc n) k low high near = by (anchor_before t o whole (suc n) (omega arith) high)
    where
      by : (i : ℕ) × (i < suc n) × (vertex i ≡ anchor (suc n)) → anchor (suc n) ≡ vertex k
      by (i, l, e) =
          sym e
          ∙ one_anchor n i k high (hang_together n (omega arith)) l low
          (subst (λ v. HangsFrom t v (vertex (suc n)) ⊎ HangsFrom t (vertex (suc n)) v) (sym e) (anchor_joined t o whole (suc n) (omega arith) high))
          (neighbours_joined t (vertex (suc n)) (vertex k) near)

  -- a link joins the vertex at place j and its anchor, in one of the two directions
  abbrev Takes : ℕ → ℕ → ℕ → Type 0
  Takes j u p = ((vertex j ≡ u) × (anchor j ≡ p)) ⊎ ((vertex j ≡ p) × (anchor j ≡ u))

  -- each link is taken by some place of the order
  pub link_taken : (u : ℕ) (l : TreeLink) → link_at t u ≡ Some l → (j : ℕ) × (1 ≤ j) × (j < length (vertices o)) × Takes j u l.parent
  link_taken u l e = by (place_of_vertex t o whole u (link_within t u l e)) (place_of_vertex t o whole l.parent (parent_within t is u l e))
    where
      by : (i : ℕ) × (i < length (vertices o)) × (vertex i ≡ u) → (k : ℕ) × (k < length (vertices o)) × (vertex k ≡ l.parent) → (j : ℕ) × (1 ≤ j) × (j < length (vertices o)) × Takes j u l.parent
      by (i, hi, ei) (k, hk, ek) = pick (cases_lt k i) (cases_lt i k)
        where
          up : is_child t (vertex k) (vertex i) ≡ true
          up = ap (λ v. is_child t (vertex k) v) ei ∙ ap (λ v. is_child t v u) ek ∙ is_child_of t u l e

          pick : (k < i) ⊎ (i ≤ k) → (i < k) ⊎ (k ≤ i) → (j : ℕ) × (1 ≤ j) × (j < length (vertices o)) × Takes j u l.parent
          pick (inl h) m = (i, omega arith, hi, inl (ei, anchor_is i k h hi (or_right (is_child t (vertex i) (vertex k)) (is_child t (vertex k) (vertex i)) up) ∙ ek))
          pick (inr h) (inl m) = (k, omega arith, hk, inr (ek, anchor_is k i m hk (or_left (is_child t (vertex k) (vertex i)) (is_child t (vertex i) (vertex k)) up) ∙ ei))
          pick (inr h) (inr m) =
              let same : i ≡ k = omega arith in
              let loop : u ≡ l.parent = sym ei ∙ ap vertex same ∙ ek in
              absurd (omega (arith, depth-below t is u l e, ap (depth t) loop))
