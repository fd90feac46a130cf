-- Which vertices of a list fit.
use Rattle.std.specs.Prelude.{ℕ, List, [], filter, slice_index_or}
use Rattle.flux_model.specs.Graph.{Graph}
use Rattle.flux_model.specs.Pattern.{PatternGraph, fits_labels}
use Rattle.flux_model.specs.Tree.{QueryTree}

-- those that have each of the labels, in their order
abbrev pub with_labels : Graph → List (List ℕ) → List ℕ → List ℕ
with_labels g labels vs = filter (fits_labels g labels) vs

-- those that have each label of the tree's root, in their order
abbrev pub with_root_labels : PatternGraph → QueryTree → Graph → List ℕ → List ℕ
with_root_labels q t g vs = with_labels g (slice_index_or q.labels t.root []) vs
