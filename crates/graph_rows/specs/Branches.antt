-- When a `Branch` is one of a tree, and the joints along it.
use Rattle.std.specs.Prelude.{◌≡◌, ℕ, ◌==◌, ◌&&◌, Bool, [], List, Some, count_by, slice_get, slice_index_or}
use Rattle.flux_model.specs.Graph.{Graph}
use Rattle.flux_model.specs.Pattern.{PatternGraph, fits_labels}
use Rattle.flux_model.specs.Tree.{QueryTree, link_at, edge_at, children}
use Rattle.graph_rows.specs.Directions.{whole_row, ends_of, direction_to}
use Rattle.graph_rows.specs.declared.branch.Branch.{Branch}
use Rattle.graph_rows.specs.declared.graph_row.GraphRow.{GraphRow}

-- it is the tree edge that its child hangs by
pub record IsBranchOf (q : PatternGraph) (t : QueryTree) (b : Branch) : Type 0 where
  pub link : link_at t b.child ≡ Some b.link
  pub number : slice_get (children t b.link.parent) b.number ≡ Some b.child
  pub label : b.label.now ≡ (edge_at q b.link.edge).label
  pub labels : b.labels.now ≡ slice_index_or q.labels b.child []
  pub direction : b.direction ≡ direction_to (edge_at q b.link.edge) b.child

-- the row of v along it
abbrev pub row_along : Branch → ℕ → GraphRow
row_along b v = record { vertex = v; direction = b.direction; label = b.label; label_number = b.label_number }

-- the other ends of the triples of v along it
abbrev pub ends : Branch → Graph → ℕ → List ℕ
ends b g v = ends_of b.direction b.label.now (whole_row b.direction g v)

-- whether the end x makes a joint to w, where the child has these labels
abbrev pub joins : Graph → List (List ℕ) → ℕ → ℕ → Bool
joins g labels w x = fits_labels g labels x && x == w

-- how many joints v has to w
abbrev pub joins_to : Branch → Graph → ℕ → ℕ → ℕ
joins_to b g v w = count_by (joins g b.labels.now w) (ends b g v)
