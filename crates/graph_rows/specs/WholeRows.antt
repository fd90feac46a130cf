-- The row of a graph vertex as it is walked triple by triple: what is left of it from a place on.
use Rattle.std.specs.Prelude.{ℕ, List}
use Rattle.flux_model.specs.declared.graph.Triple.{Triple}
use Rattle.graph_traits.specs.declared.read.Turn.{Turn}
use Rattle.graph_traits.specs.declared.spot.Spot.{Spot}
use Rattle.graph_rows.specs.Directions.{triple_of, from_place, IsPlace}
use Rattle.graph_rows.specs.declared.whole_row.WholeRow.{WholeRow}

-- the triples that are left, by what the out rows and the in rows have
abbrev pub left_from : (ℕ → Spot → List Triple) → (ℕ → Spot → List Triple) → WholeRow → Spot → List Triple
left_from outs ins row at = from_place row.direction outs ins row.vertex at

-- it is a place of the row
abbrev pub IsPlaceIn : (ℕ → Spot → Type 0) → (ℕ → Spot → Type 0) → WholeRow → Spot → Type 0
IsPlaceIn is_out is_in row at = IsPlace row.direction is_out is_in row.vertex at

-- the triple that a turn of the row stands for
abbrev pub turn_triple : WholeRow → Turn → Triple
turn_triple row t = triple_of row.direction row.vertex t.label.now t.other
