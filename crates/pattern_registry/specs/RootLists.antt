-- The vertices that fit the roots of patterns, listed for sets of labels.
use Rattle.std.specs.Prelude.{◌≡◌, ℕ, List, Option, Some, None, slice_get}
use Rattle.flux_model.specs.Graph.{Graph}
use Rattle.dcg_transition.specs.Roots.{with_labels}
use Rattle.pattern_registry.specs.declared.roots.RootList.{RootList}

abbrev pub labels_of : Option RootList → Option (List (List ℕ))
labels_of None = None
labels_of (Some list) = Some list.labels.now

abbrev pub vertices_of : Option RootList → Option (List ℕ)
vertices_of None = None
vertices_of (Some list) = Some list.vertices.items

-- the labels of the list at a place, and its vertices, if there is one
abbrev pub labels_at : List RootList → ℕ → Option (List (List ℕ))
labels_at lists p = labels_of (slice_get lists p)

abbrev pub vertices_at : List RootList → ℕ → Option (List ℕ)
vertices_at lists p = vertices_of (slice_get lists p)

-- each list has the vertices of the graph that have its labels, in the order in which they are listed
abbrev pub AreRootLists : Graph → List ℕ → List RootList → Type 0
AreRootLists g listed lists = (p : ℕ) (list : RootList) → slice_get lists p ≡ Some list → list.vertices.items ≡ with_labels g list.labels.now listed
