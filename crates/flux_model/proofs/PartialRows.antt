-- Worked examples of ids that a search has given to some of the vertices, computed from the definitions.
use Rattle.std.specs.Prelude.{◌≡◌, ℕ, Bool, true, false, List, [], ◌∷◌, codes, Option, Some, None, refl}
use Rattle.flux_model.specs.Graph.{Graph}
use Rattle.flux_model.specs.Pattern.{PatternGraph}
use Rattle.flux_model.specs.Partial.{joins, is_free, earlier, keeps_mode_where_given}
use Rattle.flux_model.specs.Tree.{QueryTree}
use Rattle.flux_model.specs.declared.graph.Triple.{Triple}
use Rattle.flux_model.specs.declared.pattern.Mode.TheVariants.{Hom, Iso}
use Rattle.flux_model.proofs.TreeRows.{graph, pattern, under}

-- ---- a triangle, whose tree leaves the edge from 0 to 1 out

abbrev triangle : PatternGraph
triangle = pattern (codes "p tri hom\nv 0\nv 1\nv 2\ne 0 1 r\ne 1 2 r\ne 2 0 r\n")

abbrev triangle_tree : QueryTree
triangle_tree = record { root = 1; links = under 2 2 ∷ None ∷ under 1 1 ∷ []; edge_count = 3 }

abbrev ring : Graph
ring = graph (codes "v 1\nv 2\nv 3\ne 1 2 r\ne 2 3 r\ne 3 1 r\n")

abbrev joins_ring : List (Option ℕ) → ℕ → ℕ → Bool
joins_ring m w x = joins triangle triangle_tree ring m w x

-- from 1 an edge leads to the 2 that vertex 1 has, and from 3 none
a_joined_id : (joins_ring (None ∷ Some 2 ∷ Some 3 ∷ []) 0 1 ≡ true) × (joins_ring (None ∷ Some 2 ∷ Some 3 ∷ []) 0 3 ≡ false)
a_joined_id = (refl, refl)

-- where the other end has no id yet, any id joins; and so for a vertex that is no end of that edge
nothing_to_join : (joins_ring (None ∷ None ∷ Some 3 ∷ []) 0 3 ≡ true) × (joins_ring (Some 3 ∷ Some 2 ∷ None ∷ []) 2 9 ≡ true)
nothing_to_join = (refl, refl)

-- ---- modes

-- in an isomorphism an id is free that no vertex has, else each
free_ids : (is_free Iso (Some 2 ∷ None ∷ []) 2 ≡ false) × (is_free Iso (Some 2 ∷ None ∷ []) 1 ≡ true) × (is_free Hom (Some 2 ∷ None ∷ []) 2 ≡ true)
free_ids = (refl, refl, refl)

-- two vertices without an id do not have the same
none_is_no_id : (keeps_mode_where_given Iso (None ∷ Some 2 ∷ None ∷ []) ≡ true) × (keeps_mode_where_given Iso (Some 2 ∷ None ∷ Some 2 ∷ []) ≡ false)
none_is_no_id = (refl, refl)

-- ---- edges that are sent to a triple

abbrev path : PatternGraph
path = pattern (codes "p path hom\nv 0\nv 1\nv 2\ne 0 1 r\ne 1 2 r\n")

abbrev from_1_to_2 : List ℕ → Triple
from_1_to_2 label = record { src = 1; label = label; dst = 2 }

-- with 2 for vertex 1 the edge 0 is sent to the triple; it is below 1 and not below 0, and another label is another triple
sent_earlier : (earlier path 1 (Some 1 ∷ None ∷ None ∷ []) 1 2 (from_1_to_2 (codes "r")) ≡ true) × (earlier path 0 (Some 1 ∷ None ∷ None ∷ []) 1 2 (from_1_to_2 (codes "r")) ≡ false)
    × (earlier path 1 (Some 1 ∷ None ∷ None ∷ []) 1 2 (from_1_to_2 (codes "s")) ≡ false)
sent_earlier = (refl, refl, refl)

-- an edge counts only where the vertex is an end of it
sent_elsewhere : earlier path 1 (Some 1 ∷ Some 2 ∷ None ∷ []) 2 2 (from_1_to_2 (codes "r")) ≡ false
sent_elsewhere = refl
