-- Marks, after a vertex is placed and for the next place.
use Rattle.std.proofs.Common.{replicate, ◌≡◌, ℕ, zero, suc, ◌+◌, ◌<◌, ◌≤◌, Bool, true, false, not, ◌||◌, ◌&&◌, ◌==◌, cond, List, [], ◌∷◌, length, set, get_or, Option, Some, None, is_some, slice_index, refl, sym, ap, subst, ◌∙◌, inl, inr, arith}
use Rattle.std.specs.Prelude.{◌⊎◌, find}
use Rattle.std.specs.Option.{option_map, unwrap_or}
use Rattle.std.specs.List.{list_any, filter, range_with_len}
use Rattle.std.proofs.lemmas.Bool.{cases_eq, eq-eqb, ne_eqb}
use Rattle.std.proofs.lemmas.List.{get_or-set_same, get_or-set_other}
use Rattle.std.proofs.lemmas.Option.{get_or_from_slice_get, slice_get_read}
use Rattle.flux_model.specs.Tree.{QueryTree, least}
use Rattle.flux_model.specs.Order.{are_neighbours, open_vertices, place_of}
use Rattle.query_tree.proofs.LeastLemmas.{least_passes}
use Rattle.match_order.specs.FrontierState.{HasCount, AreMarks, is_open, is_placed, anchor_of}
use Rattle.match_order.specs.Steps.{next_place}
use Rattle.match_order.specs.declared.frontier.Frontier.{Frontier}

-- ---- no vertex is placed

-- a list of one element, over and over, has it at each place
pub same_everywhere : {X : Type 0} (n u : ℕ) (x : X) → get_or (replicate n x) u x ≡ x
same_everywhere zero u x = refl
same_everywhere (suc n) zero x = refl
same_everywhere (suc n) (suc u) x = same_everywhere n u x

-- ---- vertex u is placed, and its neighbours below w have it as their anchor

-- the marks while vertex u is placed: the vertices below w have been told
pub record ArePartMarks (t : QueryTree) (before : List ℕ) (u w : ℕ) (placed : List Bool) (anchors : List (Option ℕ)) : Type 0 where
  pub all : (v : ℕ) → v < length t.links → get_or placed v false ≡ list_any (λ x. x == v) (u ∷ before)
  pub done : (v : ℕ) → v < length t.links → v < w → get_or anchors v None ≡ find (are_neighbours t v) (u ∷ before)
  pub left : (v : ℕ) → v < length t.links → w ≤ v → get_or anchors v None ≡ find (are_neighbours t v) before

module _ (t : QueryTree) (before : List ℕ) (u : ℕ) where
  -- when a vertex is placed, no neighbour has been told
  pub placed_first : (f : Frontier) (placed : List Bool) (anchors : List (Option ℕ)) → AreMarks t before f → u < length t.links → placed ≡ set f.placed u true → anchors ≡ f.anchors → ArePartMarks t before u 0 placed anchors
  placed_first f placed anchors marks inside set_is same = record {
    all = λ v h. by v h (cases_eq v u);
    done = λ v h low. absurd (omega arith);
    left = λ v h low. ap (λ l. get_or l v None) same ∙ marks.anchors v h;
  }
    where
      by : (v : ℕ) → v < length t.links → (v ≡ u) ⊎ (v ≡ u → ⊥) → get_or placed v false ≡ (u == v || list_any (λ x. x == v) before)
      by v h (inl e) =
          ap (λ l. get_or l v false) set_is
          ∙ ap (λ i. get_or (set f.placed u true) i false) e
          ∙ get_or-set_same f.placed u true false (omega (arith, marks.size.placed))
          ∙ sym (ap (λ b. b || list_any (λ x. x == v) before) (eq-eqb u v (sym e)))
      by v h (inr other) =
          ap (λ l. get_or l v false) set_is
          ∙ get_or-set_other f.placed u v true false other
          ∙ marks.placed v h
          ∙ sym (ap (λ b. b || list_any (λ x. x == v) before) (ne_eqb u v (λ e. other (sym e))))

  module _ (w : ℕ) (placed : List Bool) (anchors : List (Option ℕ)) (part : ArePartMarks t before u w placed anchors) where
    find_more : (b : Bool) → are_neighbours t w u ≡ b → find (are_neighbours t w) (u ∷ before) ≡ cond b (Some u) (find (are_neighbours t w) before)
    find_more b e = ap (λ c. cond c (Some u) (find (are_neighbours t w) before)) e

    -- a neighbour is told
    pub placed_near : (more : List (Option ℕ)) → w < length anchors → are_neighbours t w u ≡ true → more ≡ set anchors w (Some u) → ArePartMarks t before u (w + 1) placed more
    placed_near more inside near set_is = record {
      all = part.all;
      done = λ v h low. by v h low (cases_eq v w);
      left = λ v h low. other v (omega arith) ∙ part.left v h (omega arith);
    }
      where
        other : (v : ℕ) → (v ≡ w → ⊥) → get_or more v None ≡ get_or anchors v None
        other v apart = ap (λ l. get_or l v None) set_is ∙ get_or-set_other anchors w v (Some u) None apart

        by : (v : ℕ) → v < length t.links → v < w + 1 → (v ≡ w) ⊎ (v ≡ w → ⊥) → get_or more v None ≡ find (are_neighbours t v) (u ∷ before)
        by v h low (inl e) =
            subst (λ i. get_or more i None ≡ find (are_neighbours t i) (u ∷ before)) (sym e)
            (ap (λ l. get_or l w None) set_is ∙ get_or-set_same anchors w (Some u) None inside ∙ sym (find_more true near))
        by v h low (inr apart) = other v apart ∙ part.done v h (omega arith)

    -- a vertex that is no neighbour keeps what it had
    pub placed_far : are_neighbours t w u ≡ false → ArePartMarks t before u (w + 1) placed anchors
    placed_far far = record {
      all = part.all;
      done = λ v h low. by v h low (cases_eq v w);
      left = λ v h low. part.left v h (omega arith);
    }
      where
        by : (v : ℕ) → v < length t.links → v < w + 1 → (v ≡ w) ⊎ (v ≡ w → ⊥) → get_or anchors v None ≡ find (are_neighbours t v) (u ∷ before)
        by v h low (inl e) =
            subst (λ i. get_or anchors i None ≡ find (are_neighbours t i) (u ∷ before)) (sym e)
            (part.left w (omega arith) (omega arith) ∙ sym (find_more false far))
        by v h low (inr apart) = part.done v h (omega arith)

  -- when all have been told, the marks are those of the vertex and those before it
  pub placed_last : (w : ℕ) (f : Frontier) → HasCount (length t.links) f → ArePartMarks t before u w f.placed f.anchors → length t.links ≤ w → AreMarks t (u ∷ before) f
  placed_last w f size part whole = record {
    size = size;
    placed = part.all;
    anchors = λ v h. part.done v h (omega arith);
  }

-- ---- the next place

filter_same : (p r : ℕ → Bool) (a n : ℕ) → ((u : ℕ) → u < a + n → p u ≡ r u) → filter p (range_with_len a n) ≡ filter r (range_with_len a n)
filter_same p r a zero h = refl
filter_same p r a (suc n) h =
    ap (λ b. cond b (a ∷ filter p (range_with_len (a + 1) n)) (filter p (range_with_len (a + 1) n))) (h a (omega arith))
    ∙ ap (λ (l : List ℕ). cond (r a) (a ∷ l) l) (filter_same p r (a + 1) n (λ u l. h u (omega arith)))

is_some-find : (p : ℕ → Bool) (xs : List ℕ) → is_some (find p xs) ≡ list_any p xs
is_some-find p [] = refl
is_some-find p (x ∷ xs) = by (p x) refl (is_some-find p xs)
  where
    by : (b : Bool) → p x ≡ b → is_some (find p xs) ≡ list_any p xs → is_some (find p (x ∷ xs)) ≡ list_any p (x ∷ xs)
    by true e rest = rw e refl
    by false e rest = rw e rest

module _ (t : QueryTree) (before live : List ℕ) (f : Frontier) (marks : AreMarks t before f) (many : length live ≡ length t.links) where
  open_same : filter (is_open f) (range_with_len 0 (length live)) ≡ open_vertices t before
  open_same =
      ap (λ n. filter (is_open f) (range_with_len 0 n)) many
      ∙ filter_same (is_open f) (λ u. not (list_any (λ w. w == u) before) && list_any (are_neighbours t u) before) 0 (length t.links) same
    where
      same : (u : ℕ) → u < 0 + length t.links → is_open f u ≡ (not (list_any (λ w. w == u) before) && list_any (are_neighbours t u) before)
      same u h =
          ap (λ b. not b && is_some (anchor_of f u)) (marks.placed u (omega arith))
          ∙ ap (λ b. not (list_any (λ w. w == u) before) && b) (ap is_some (marks.anchors u (omega arith)) ∙ is_some-find (are_neighbours t u) before)

  abbrev least_open : Option ℕ
  least_open = least (slice_index live) (filter (is_open f) (range_with_len 0 (length live)))

  next_same : (o : Option ℕ) → o ≡ least_open → next_place t live before ≡ option_map (place_of t before) o
  next_same o e = ap (option_map (place_of t before)) (sym (e ∙ ap (least (slice_index live)) open_same))

  -- where no vertex is open, no place comes next
  pub next_none : None ≡ least_open → None ≡ next_place t live before
  next_none e = sym (next_same None e)

  -- the open vertex with the least number comes next, with its anchor
  pub next_some : (u a : ℕ) → Some u ≡ least_open → anchor_of f u ≡ Some a → Some (record { vertex = u; anchor = a }) ≡ next_place t live before
  next_some u a e anchor =
      let inside : u < length live = (least_passes (slice_index live) (is_open f) (length live) u (sym e)).0 in
      let found : find (are_neighbours t u) before ≡ Some a = sym (marks.anchors u (omega arith)) ∙ anchor in
      sym (next_same (Some u) e ∙ ap (λ o. Some (record { vertex = u; anchor = unwrap_or o 0 })) found)

-- ---- anchors

-- an anchor that is read is the one that is kept
pub anchor_read : (f : Frontier) (u : ℕ) (o : Option ℕ) → u < length f.anchors → o ≡ get_or f.anchors u o → anchor_of f u ≡ o
anchor_read f u o h e = get_or_from_slice_get f.anchors u o None (slice_get_read f.anchors (length f.anchors) u o refl h e)

-- a vertex that is open has an anchor
pub open_anchored : (f : Frontier) (live : List ℕ) (u : ℕ) → Some u ≡ least (slice_index live) (filter (is_open f) (range_with_len 0 (length live))) → is_some (anchor_of f u) ≡ true
open_anchored f live u e = right (is_placed f u) (is_some (anchor_of f u)) (least_passes (slice_index live) (is_open f) (length live) u (sym e)).1
  where
    right : (a b : Bool) → (not a && b) ≡ true → b ≡ true
    right true b h = cc
    right false b h = h
