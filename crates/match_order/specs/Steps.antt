-- One place more.
use Rattle.std.specs.Prelude.{ℕ, List, [], ◌∷◌, ◌++◌, Option, Some, None, slice_index}
use Rattle.std.specs.Option.{option_map}
use Rattle.flux_model.specs.Tree.{QueryTree, least}
use Rattle.flux_model.specs.Order.{Place, SearchOrder, open_vertices, place_of}

-- where these vertices are placed, the latest first
abbrev pub next_place : QueryTree → List ℕ → List ℕ → Option Place
next_place t live before = option_map (place_of t before) (least (slice_index live) (open_vertices t before))

-- the order with this place at its end, if there is one
abbrev pub with_place : SearchOrder → Option Place → SearchOrder
with_place o None = o
with_place o (Some p) = record { start = o.start; places = o.places ++ p ∷ [] }
