-- Where no vertex of a tree is open, every vertex is placed.
use Rattle.std.proofs.Common.{◌≡◌, ℕ, zero, suc, ◌<◌, ◌≤◌, Bool, true, false, not, ◌||◌, ◌&&◌, ◌==◌, List, [], ◌∷◌, length, refl, sym, ap, ◌∙◌, inl, inr, arith}
use Rattle.std.specs.Prelude.{◌⊎◌}
use Rattle.std.specs.List.{list_any}
use Rattle.std.proofs.lemmas.Bool.{cases_eq, eqb-true, or_left, or_right}
use Rattle.flux_model.specs.Tree.{QueryTree, IsTree, is_child}
use Rattle.flux_model.specs.Order.{are_neighbours, open_vertices}
use Rattle.query_tree.specs.Depth.{depth}
use Rattle.query_tree.proofs.CallerLemmas.{linked, is_child_of, parent_within, depth-below}
use Rattle.query_tree.proofs.NumberLemmas.{no_number}

-- a vertex of the list that passes
any_of : (p : ℕ → Bool) (w : ℕ) (xs : List ℕ) → list_any (λ x. x == w) xs ≡ true → p w ≡ true → list_any p xs ≡ true
any_of p w [] h passes = cc
any_of p w (x ∷ xs) h passes = by (x == w) refl (any_of p w xs)
  where
    by : (b : Bool) → (x == w) ≡ b → (list_any (λ y. y == w) xs ≡ true → p w ≡ true → list_any p xs ≡ true) → (p x || list_any p xs) ≡ true
    by true e rest = or_left (p x) (list_any p xs) (ap p (eqb-true x w e) ∙ passes)
    by false e rest = or_right (p x) (list_any p xs) (rest (sym (ap (λ b. b || list_any (λ y. y == w) xs) e) ∙ h) passes)

module _ (t : QueryTree) (is : IsTree t) (before : List ℕ) (none : open_vertices t before ≡ []) where
  abbrev placed : ℕ → Bool
  placed u = list_any (λ w. w == u) before

  -- a neighbour of a placed vertex is placed
  closed : (u w : ℕ) → u < length t.links → placed w ≡ true → are_neighbours t u w ≡ true → placed u ≡ true
  closed u w h held near = by (placed u) (list_any (are_neighbours t u) before) (any_of (are_neighbours t u) w before held near) (no_number (λ v. not (placed v) && list_any (are_neighbours t v) before) 0 (length t.links) none u (omega arith) (omega arith))
    where
      by : (a b : Bool) → b ≡ true → (not a && b) ≡ false → a ≡ true
      by true b e f = refl
      by false b e f = cc

  -- up from a placed vertex to the root
  up : (d w : ℕ) → w < length t.links → depth t w ≤ d → placed w ≡ true → placed t.root ≡ true
  up zero w h deep held = by (cases_eq w t.root)
    where
      by : (w ≡ t.root) ⊎ (w ≡ t.root → ⊥) → placed t.root ≡ true
      by (inl same) = ap placed (sym same) ∙ held
      by (inr other) = let l = linked t is w h other in absurd (omega (arith, depth-below t is w l.0 l.1))
  up (suc d) w h deep held = by (cases_eq w t.root) (up d)
    where
      by : (w ≡ t.root) ⊎ (w ≡ t.root → ⊥) → ((v : ℕ) → v < length t.links → depth t v ≤ d → placed v ≡ true → placed t.root ≡ true) → placed t.root ≡ true
      by (inl same) rest = ap placed (sym same) ∙ held
      by (inr other) rest =
          let l = linked t is w h other in
          let inside = parent_within t is w l.0 l.1 in
          rest l.0.parent inside (omega (arith, depth-below t is w l.0 l.1))
          (closed l.0.parent w inside held (or_left (is_child t l.0.parent w) (is_child t w l.0.parent) (is_child_of t w l.0 l.1)))

  -- down from the root to each vertex
  down : (d u : ℕ) → u < length t.links → depth t u ≤ d → placed t.root ≡ true → placed u ≡ true
  down zero u h deep root = by (cases_eq u t.root)
    where
      by : (u ≡ t.root) ⊎ (u ≡ t.root → ⊥) → placed u ≡ true
      by (inl same) = ap placed same ∙ root
      by (inr other) = let l = linked t is u h other in absurd (omega (arith, depth-below t is u l.0 l.1))
  down (suc d) u h deep root = by (cases_eq u t.root) (down d)
    where
      by : (u ≡ t.root) ⊎ (u ≡ t.root → ⊥) → ((v : ℕ) → v < length t.links → depth t v ≤ d → placed t.root ≡ true → placed v ≡ true) → placed u ≡ true
      by (inl same) rest = ap placed same ∙ root
      by (inr other) rest =
          let l = linked t is u h other in
          closed u l.0.parent h (rest l.0.parent (parent_within t is u l.0 l.1) (omega (arith, depth-below t is u l.0 l.1)) root)
          (or_right (is_child t u l.0.parent) (is_child t l.0.parent u) (is_child_of t u l.0 l.1))

  -- where one vertex is placed, and with each its neighbours, all are placed
  pub all_placed : (w : ℕ) → w < length t.links → placed w ≡ true → (u : ℕ) → u < length t.links → placed u ≡ true
  all_placed w inside held u h = down (depth t u) u h (omega arith) (up (depth t w) w inside (omega arith) held)
