-- The rows of graph vertices in a direction, and the other ends of their triples.
use Rattle.std.specs.Prelude.{ℕ, ◌==◌, List, map, filter, if◌then◌else◌}
use Rattle.std.specs.Str.{bytes_eq}
use Rattle.flux_model.specs.Graph.{Graph}
use Rattle.flux_model.specs.declared.graph.Triple.{Triple}
use Rattle.flux_model.specs.declared.pattern.PatternEdge.{PatternEdge}
use Rattle.graph_traits.specs.Rows.{triples_from, triples_to}
use Rattle.graph_traits.specs.declared.spot.Spot.{Spot}
use Rattle.graph_rows.specs.declared.direction.Direction.{Direction}
use Rattle.graph_rows.specs.declared.direction.Direction.TheVariants.{Out, In}

-- the direction in which the edge leads to its end u
abbrev pub direction_to : PatternEdge → ℕ → Direction
direction_to e u = if e.head == u then Out else In

-- v's triples in the direction
abbrev pub whole_row : Direction → Graph → ℕ → List Triple
whole_row Out g v = triples_from g v
whole_row In g v = triples_to g v

-- the triple in v's row that leads to the other end
abbrev pub triple_of : Direction → ℕ → List ℕ → ℕ → Triple
triple_of Out v label other = record { src = v; label = label; dst = other }
triple_of In v label other = record { src = other; label = label; dst = v }

-- the end in whose row a triple stands
abbrev pub near_end : Direction → Triple → ℕ
near_end Out t = t.src
near_end In t = t.dst

-- and its other end
abbrev pub other_end : Direction → Triple → ℕ
other_end Out t = t.dst
other_end In t = t.src

-- the other ends of the triples of a label
abbrev pub ends_of : Direction → List ℕ → List Triple → List ℕ
ends_of direction label ts = map (other_end direction) (filter (λ (t : Triple). bytes_eq label t.label) ts)

-- ---- what the rows of a store have, by the out rows and the in rows

-- the triples of a row from a place on
abbrev pub from_place : Direction → (ℕ → Spot → List Triple) → (ℕ → Spot → List Triple) → ℕ → Spot → List Triple
from_place Out outs ins = outs
from_place In outs ins = ins

-- it is a place of the row
abbrev pub IsPlace : Direction → (ℕ → Spot → Type 0) → (ℕ → Spot → Type 0) → ℕ → Spot → Type 0
IsPlace Out is_out is_in = is_out
IsPlace In is_out is_in = is_in
