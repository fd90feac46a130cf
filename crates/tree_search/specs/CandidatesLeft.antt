-- The candidates that are left from a place on, in a row or in a layer of the index.
use Rattle.std.specs.Prelude.{◌≡◌, ℕ, ◌-◌, ◌≤◌, ◌||◌, not, Bool, List, length, drop, filter, is_some, IsPermutation}
use Rattle.std.specs.Option.{unwrap_or}
use Rattle.flux_model.specs.Graph.{Graph, has_triple}
use Rattle.flux_model.specs.declared.graph.Triple.{Triple}
use Rattle.graph_traits.specs.declared.spot.Spot.{Spot}
use Rattle.graph_rows.specs.Directions.{triple_of, whole_row}
use Rattle.graph_rows.specs.LabelRows.{row_from, ends_from, IsPlaceOf}
use Rattle.graph_rows.specs.declared.graph_row.GraphRow.{GraphRow}
use Rattle.tree_search.specs.Ways.{turns}
use Rattle.tree_search.specs.declared.candidates.Candidates.{Candidates}
use Rattle.tree_search.specs.declared.candidates.Cursor.{Cursor}
use Rattle.tree_search.specs.declared.candidates.Cursor.TheVariants.{Row, Layer}

-- the row that is walked
abbrev pub walked : Candidates → GraphRow
walked c = unwrap_or c.shortest.row c.row

-- the triple of the anchor's row leads to x
abbrev pub leads_to : Graph → Candidates → ℕ → Bool
leads_to g c x = has_triple g (triple_of c.row.direction c.row.vertex c.row.label.now x)

-- it leads to what the row that is walked leads to: that is the anchor's, or the triple is asked for
abbrev pub passes : Graph → Candidates → ℕ → Bool
passes g c x = not (is_some c.shortest.row) || leads_to g c x

-- those of the row that is walked from a place on
abbrev pub walked_from : (ℕ → Spot → List Triple) → (ℕ → Spot → List Triple) → Graph → Candidates → Spot → List ℕ
walked_from outs ins g c s = filter (passes g c) (ends_from outs ins (walked c) s)

-- those of the layer from a number on
abbrev pub listed_from : Graph → Candidates → ℕ → List ℕ
listed_from g c i = filter (leads_to g c) (drop i c.layer.now)

-- the candidates that are left from a place on
abbrev pub left : (ℕ → Spot → List Triple) → (ℕ → Spot → List Triple) → Graph → Candidates → Cursor → List ℕ
left outs ins g c (Row s) = walked_from outs ins g c s
left outs ins g c (Layer i) = listed_from g c i

-- how many turns or vertices are left
abbrev pub reads : (ℕ → Spot → List Triple) → (ℕ → Spot → List Triple) → Candidates → Cursor → ℕ
reads outs ins c (Row s) = length (row_from outs ins (walked c) s)
reads outs ins c (Layer i) = length c.layer.now - i

-- it is a place of the candidates
abbrev pub IsCursor : (ℕ → Spot → Type 0) → (ℕ → Spot → Type 0) → Candidates → Cursor → Type 0
IsCursor is_out is_in c (Row s) = IsPlaceOf is_out is_in (walked c) s
IsCursor is_out is_in c (Layer i) = i ≤ length c.layer.now

-- the layer is no longer than the row that would be walked
pub record IsShort (g : Graph) (c : Candidates) (i : ℕ) : Type 0 where
  pub first : i ≡ 0
  pub few : length c.layer.now ≤ turns g (walked c)

-- all candidates are left
abbrev pub IsStart : (ℕ → Spot → List Triple) → (ℕ → Spot → List Triple) → Graph → Candidates → Cursor → Type 0
IsStart outs ins g c (Row s) = IsPermutation (row_from outs ins (walked c) s) (whole_row (walked c).direction g (walked c).vertex)
IsStart outs ins g c (Layer i) = IsShort g c i
