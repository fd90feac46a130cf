-- The order in which a search gives ids to the vertices of a pattern.
use Rattle.std.specs.Prelude.{ℕ, zero, suc, ◌==◌, ◌&&◌, ◌||◌, not, Bool, List, [], ◌∷◌, length, filter, slice_index, Option, Some, None}
use Rattle.std.specs.Option.{unwrap_or}
use Rattle.std.specs.List.{list_any, find, range_with_len}
use Rattle.flux_model.specs.Tree.{QueryTree, is_child, least}

-- a vertex of the order, and its anchor: the vertex before it that is its neighbour in the tree
pub record Place : Type 0 where
  pub vertex : ℕ
  pub anchor : ℕ

-- the vertex that the search starts at, and then the others
pub record SearchOrder : Type 0 where
  pub start : ℕ
  pub places : List Place

abbrev pub are_neighbours : QueryTree → ℕ → ℕ → Bool
are_neighbours t u w = is_child t u w || is_child t w u

-- the vertices that are not placed and have a placed neighbour, ascending
abbrev pub open_vertices : QueryTree → List ℕ → List ℕ
open_vertices t placed =
    filter (λ u. not (list_any (λ w. w == u) placed) && list_any (are_neighbours t u) placed) (range_with_len 0 (length t.links))

-- in a tree a vertex that is not placed has one placed neighbour at most, where those that are placed hang together
abbrev pub place_of : QueryTree → List ℕ → ℕ → Place
place_of t placed u = record { vertex = u; anchor = unwrap_or (find (are_neighbours t u) placed) 0 }

-- of the open vertices that with the fewest explicit pairs, of equals the lowest, again and again, k times at most
abbrev pub places_after : ℕ → QueryTree → List ℕ → List ℕ → List Place
places_after zero t live placed = []
places_after (suc k) t live placed = with_next (least (slice_index live) (open_vertices t placed)) (places_after k t live)
  where
    with_next : Option ℕ → (List ℕ → List Place) → List Place
    with_next None others = []
    with_next (Some u) others = place_of t placed u ∷ others (u ∷ placed)

-- `live` has the number of explicit pairs of each pattern vertex
abbrev pub search_order : QueryTree → ℕ → List ℕ → SearchOrder
search_order t start live = record { start = start; places = places_after (length t.links) t live (start ∷ []) }
