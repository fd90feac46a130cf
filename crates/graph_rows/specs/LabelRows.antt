-- The row of a graph vertex as it is walked for one label: what is left of it from a place on.
use Rattle.std.specs.Prelude.{ℕ, List}
use Rattle.flux_model.specs.declared.graph.Triple.{Triple}
use Rattle.graph_traits.specs.declared.spot.Spot.{Spot}
use Rattle.graph_rows.specs.Directions.{ends_of, from_place, IsPlace}
use Rattle.graph_rows.specs.declared.graph_row.GraphRow.{GraphRow}

-- the triples of any label that are left
abbrev pub row_from : (ℕ → Spot → List Triple) → (ℕ → Spot → List Triple) → GraphRow → Spot → List Triple
row_from outs ins row at = from_place row.direction outs ins row.vertex at

-- the other ends of those of its label
abbrev pub ends_from : (ℕ → Spot → List Triple) → (ℕ → Spot → List Triple) → GraphRow → Spot → List ℕ
ends_from outs ins row at = ends_of row.direction row.label.now (row_from outs ins row at)

-- it is a place of the row
abbrev pub IsPlaceOf : (ℕ → Spot → Type 0) → (ℕ → Spot → Type 0) → GraphRow → Spot → Type 0
IsPlaceOf is_out is_in row at = IsPlace row.direction is_out is_in row.vertex at
