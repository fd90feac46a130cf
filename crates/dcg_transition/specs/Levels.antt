-- Which vertices of a tree are done, level by level.
use Rattle.std.specs.Prelude.{◌≡◌, ℕ, ◌==◌, ◌&&◌, ◌||◌, nat_lt, Bool, false, List, length, map, if◌then◌else◌, None}
use Rattle.std.specs.List.{range_with_len}
use Rattle.flux_model.specs.Graph.{Graph}
use Rattle.flux_model.specs.Pattern.{PatternGraph}
use Rattle.flux_model.specs.Tree.{QueryTree}
use Rattle.flux_model.specs.States.{Joined, joined}
use Rattle.flux_model.specs.Exact.{StateRows, row_at}
use Rattle.query_tree.specs.Depth.{depth}
use Rattle.dcg_transition.specs.Filled.{child_counts, counted_row}

-- c is less deep than the level, or it is on the level and its number is below u
abbrev pub is_before : QueryTree → ℕ → ℕ → ℕ → Bool
is_before t level u c = nat_lt (depth t c) level || depth t c == level && nat_lt c u

-- c is deeper than the level, or it is on the level and its number is below u
abbrev pub is_after : QueryTree → ℕ → ℕ → ℕ → Bool
is_after t level u c = nat_lt level (depth t c) || depth t c == level && nat_lt c u

-- the depths of all vertices
abbrev pub depths_of : QueryTree → List ℕ
depths_of t = map (depth t) (range_with_len 0 (length t.links))

-- vertices that are done have the rows of the pairs that are not null, with no out counter raised, and the others have none
pub record IsReached (j : Joined) (is_done : ℕ → Bool) (d : StateRows) : Type 0 where
  pub whole : d.is_broken ≡ false
  pub children : d.children ≡ child_counts j.tree
  pub rows : (u v : ℕ) → row_at d u v ≡ (if is_done u then counted_row (λ _. false) j u v else None)

-- the rows are exact but for the children that are not counted
pub record IsCounted (j : Joined) (is_counted : ℕ → Bool) (d : StateRows) : Type 0 where
  pub whole : d.is_broken ≡ false
  pub children : d.children ≡ child_counts j.tree
  pub rows : (u v : ℕ) → row_at d u v ≡ counted_row is_counted j u v

-- the vertices before u on the level are done
abbrev pub IsReachedTo : PatternGraph → QueryTree → Graph → ℕ → ℕ → StateRows → Type 0
IsReachedTo q t g level u d = IsReached (joined q t g) (is_before t level u) d

-- the vertices below the level are counted, and those before u on it
abbrev pub IsCountedTo : PatternGraph → QueryTree → Graph → ℕ → ℕ → StateRows → Type 0
IsCountedTo q t g level u d = IsCounted (joined q t g) (is_after t level u) d
