-- What a `QueryTree` keeps beside its links.
use Rattle.std.specs.Prelude.{◌≡◌, ◌≤◌, ℕ, Bool, false, ◌==◌, List, length, map, Option, Some, None}
use Rattle.std.specs.List.{list_any, range_with_len}
use Rattle.std.specs.declared.alloc.Global.{Global}
use Rattle.std.specs.declared.vec.Vec.{Vec}
use Rattle.flux_model.specs.Tree.{QueryTree, IsTree, children, non_tree}
use Rattle.flux_model.specs.declared.tree.TreeLink.{TreeLink}

-- whether the link names edge i
abbrev pub names : ℕ → Option TreeLink → Bool
names i None = false
names i (Some l) = l.edge == i

-- whether some link names edge i
abbrev pub has_edge : QueryTree → ℕ → Bool
has_edge t i = list_any (names i) t.links

-- a tree of at most so many vertices as a pattern has, with the lists of its children and of the edges that are not in it
pub record KeepsLists (t : QueryTree) (lists : List (Vec ℕ Global)) (rest : List ℕ) : Type 0 where
  pub tree : IsTree t
  pub few : length t.links ≤ 32
  pub children : map (λ (v : Vec ℕ Global). v.items) lists ≡ map (children t) (range_with_len 0 (length t.links))
  pub others : rest ≡ non_tree t
