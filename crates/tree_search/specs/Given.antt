-- What a search knows when it has given ids to the first vertices of its order.
use Rattle.std.specs.Prelude.{◌≡◌, ℕ, ◌≤◌, ◌<◌, ◌-◌, ◌&&◌, Bool, List, length, slice_index, Option, Some, None, IsTrue, if◌then◌else◌}
use Rattle.flux_model.specs.Graph.{Graph, IsGraph}
use Rattle.flux_model.specs.Pattern.{PatternGraph, IsPattern, vertex_count}
use Rattle.flux_model.specs.Tree.{QueryTree, edge_at, link_at, is_child, BelongsTo}
use Rattle.flux_model.specs.States.{joined, is_explicit}
use Rattle.flux_model.specs.Exact.{StateRows, IsExact}
use Rattle.flux_model.specs.Order.{SearchOrder}
use Rattle.flux_model.specs.Partial.{id_of, joins, is_free, stands_where_given, keeps_non_tree, keeps_mode_where_given}
use Rattle.flux_model.specs.declared.tree.TreeLink.{TreeLink}
use Rattle.match_order.specs.Whole.{vertices, anchors, IsOrderOf}
use Rattle.graph_rows.specs.declared.direction.Direction.{Direction}
use Rattle.graph_rows.specs.Directions.{direction_to}

-- what a search is about
pub record IsReady (q : PatternGraph) (t : QueryTree) (d : StateRows) (g : Graph) (o : SearchOrder) : Type 0 where
  pub pattern : IsPattern q
  pub belongs : BelongsTo q t
  pub exact : IsExact q t g d
  pub graph : IsGraph g
  pub order : IsOrderOf t o

-- the vertex at place k, and its anchor
abbrev pub nth_vertex : SearchOrder → ℕ → ℕ
nth_vertex o k = slice_index (vertices o) k

abbrev pub nth_anchor : SearchOrder → ℕ → ℕ
nth_anchor o k = slice_index (anchors o) (k - 1)

-- the first k vertices of the order and no others have ids, whose pairs are explicit, and all that can be tested stands
pub record IsGiven (q : PatternGraph) (t : QueryTree) (g : Graph) (o : SearchOrder) (k : ℕ) (p : List (Option ℕ)) : Type 0 where
  pub places : length p ≡ vertex_count q
  pub given : (j : ℕ) → j < k → (x : ℕ) × (id_of p (nth_vertex o j) ≡ Some x)
  pub later : (j : ℕ) → k ≤ j → j < length (vertices o) → id_of p (nth_vertex o j) ≡ None
  pub explicit : (u x : ℕ) → id_of p u ≡ Some x → IsTrue (is_explicit (joined q t g) u x)
  pub links : (u : ℕ) (l : TreeLink) → link_at t u ≡ Some l → IsTrue (stands_where_given g p (edge_at q l.edge))
  pub non_tree : IsTrue (keeps_non_tree q t g p)
  pub mode : IsTrue (keeps_mode_where_given q.mode p)

-- whether x may be given to w
abbrev pub may_have : PatternGraph → QueryTree → Graph → List (Option ℕ) → ℕ → ℕ → Bool
may_have q t g p w x = is_explicit (joined q t g) w x && is_free q.mode p x && joins q t g p w x

-- ---- the tree edge between a vertex and its anchor

-- the edge of a link; of none it is 0
abbrev pub edge_of : Option TreeLink → ℕ
edge_of None = 0
edge_of (Some l) = l.edge

-- the number of the edge by which one hangs from the other
abbrev pub edge_between : QueryTree → ℕ → ℕ → ℕ
edge_between t w a = if is_child t a w then edge_of (link_at t w) else edge_of (link_at t a)

-- the row of the anchor's id in the direction in which the edge leads to the vertex
pub record IsRowAt (q : PatternGraph) (t : QueryTree) (o : SearchOrder) (k : ℕ) (p : List (Option ℕ)) (vertex : ℕ) (direction : Direction) (label : List ℕ) : Type 0 where
  pub anchor : id_of p (nth_anchor o k) ≡ Some vertex
  pub leads : direction ≡ direction_to (edge_at q (edge_between t (nth_vertex o k) (nth_anchor o k))) (nth_vertex o k)
  pub name : label ≡ (edge_at q (edge_between t (nth_vertex o k) (nth_anchor o k))).label
