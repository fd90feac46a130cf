-- The state of a `Frontier`: what it keeps while an order grows.
use Rattle.std.specs.Prelude.{◌≡◌, ◌<◌, ◌≤◌, ℕ, Bool, false, ◌==◌, ◌&&◌, not, List, length, find}
use Rattle.std.specs.Prelude.{Option, None, is_some, slice_index_or}
use Rattle.std.specs.List.{list_any}
use Rattle.flux_model.specs.Tree.{QueryTree}
use Rattle.flux_model.specs.Order.{are_neighbours}
use Rattle.match_order.specs.declared.frontier.Frontier.{Frontier}

-- it has room for the marks of n vertices
pub record HasCount (n : ℕ) (f : Frontier) : Type 0 where
  pub placed : n ≤ length f.placed
  pub anchors : n ≤ length f.anchors

-- no vertex past the end is placed
abbrev pub is_placed : Frontier → ℕ → Bool
is_placed f u = slice_index_or f.placed u false

-- no vertex past the end has an anchor
abbrev pub anchor_of : Frontier → ℕ → Option ℕ
anchor_of f u = slice_index_or f.anchors u None

-- it has an anchor and is not placed
abbrev pub is_open : Frontier → ℕ → Bool
is_open f u = not (is_placed f u) && is_some (anchor_of f u)

-- the placed vertices are those before, the latest first, and each anchor is the latest of them that is a neighbour
pub record AreMarks (t : QueryTree) (before : List ℕ) (f : Frontier) : Type 0 where
  pub size : HasCount (length t.links) f
  pub placed : (u : ℕ) → u < length t.links → is_placed f u ≡ list_any (λ w. w == u) before
  pub anchors : (u : ℕ) → u < length t.links → anchor_of f u ≡ find (are_neighbours t u) before
