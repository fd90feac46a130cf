-- A tree edge walked from an id of one of its ends: which row is read, and what of it counts.
use Rattle.std.specs.Prelude.{ℕ, ◌+◌, ◌*◌, ◌==◌, ◌&&◌, not, Bool, true, false, List, [], ◌∷◌, ◌++◌, length, filter, Option, Some, None, if◌then◌else◌, slice_index_or}
use Rattle.std.specs.Str.{bytes_eq}
use Rattle.flux_model.specs.Graph.{Graph}
use Rattle.flux_model.specs.Pattern.{PatternGraph, fits_labels}
use Rattle.flux_model.specs.Tree.{QueryTree, edge_at}
use Rattle.flux_model.specs.declared.graph.Triple.{Triple}
use Rattle.graph_traits.specs.declared.spot.Spot.{Spot}
use Rattle.graph_rows.specs.Directions.{direction_to, near_end, other_end, ends_of, from_place, IsPlace}
use Rattle.graph_rows.specs.declared.direction.Direction.{Direction}
use Rattle.dcg_moves.specs.declared.place.JointPlace.{JointPlace}
use Rattle.dcg_updates.specs.Joints.{link_of}
use Rattle.dcg_updates.specs.declared.sight.Sight.{Sight}
use Rattle.dcg_updates.specs.declared.sight.Sight.TheVariants.{AtHand, Without, With}

-- the row of a vertex for a label, the labels that an end has to have, the end that is passed over, and the one that comes behind the row
pub record Plan : Type 0 where
  pub vertex : ℕ
  pub direction : Direction
  pub label : List ℕ
  pub labels : List (List ℕ)
  pub skip : Option ℕ
  pub further : Option ℕ

-- ---- a triple in a row

-- the triple is in v's row of the label
abbrev pub is_in_row : Direction → List ℕ → ℕ → Triple → Bool
is_in_row direction label v t = near_end direction t == v && bytes_eq label t.label

-- the triple's other end, where it is in v's row of the label
abbrev pub other_in : Direction → List ℕ → ℕ → Triple → Option ℕ
other_in direction label v t = if is_in_row direction label v t then Some (other_end direction t) else None

-- ---- the walk of a tree edge

-- hidden from the edge, that end is passed over
abbrev pub skip_for : Sight → Option ℕ → Option ℕ
skip_for AtHand o = None
skip_for Without o = o
skip_for With o = None

-- shown to it, it comes behind the row
abbrev pub further_for : Sight → Option ℕ → Option ℕ
further_for AtHand o = None
further_for Without o = None
further_for With o = o

-- along a pattern edge, of this label, from v to ids for its end
abbrev pub plan_along : PatternGraph → Triple → Sight → Direction → List ℕ → ℕ → ℕ → Plan
plan_along q e sight direction label end v = record {
  vertex = v;
  direction = direction;
  label = label;
  labels = slice_index_or q.labels end [];
  skip = skip_for sight (other_in direction label v e);
  further = further_for sight (other_in direction label v e);
}

-- along the tree edge of a vertex
abbrev pub plan_at : PatternGraph → QueryTree → Triple → Sight → ℕ → ℕ → ℕ → Plan
plan_at q t e sight child end v =
    let edge = edge_at q (link_of t child).edge in
    plan_along q e sight (direction_to edge end) edge.label end v

-- ---- what is left of it

abbrev pub is_skipped : Option ℕ → ℕ → Bool
is_skipped None w = false
is_skipped (Some x) w = x == w

-- the end counts
abbrev pub keeps : Graph → Plan → ℕ → Bool
keeps g p w = not (is_skipped p.skip w) && fits_labels g p.labels w

abbrev pub fitting : Graph → List (List ℕ) → Option ℕ → List ℕ
fitting g labels None = []
fitting g labels (Some w) = if fits_labels g labels w then w ∷ [] else []

-- the triples of the row from a place on, of any label
abbrev pub row_from : (ℕ → Spot → List Triple) → (ℕ → Spot → List Triple) → Plan → Spot → List Triple
row_from outs ins p at = from_place p.direction outs ins p.vertex at

-- the ends of the row from a place on that count
abbrev pub row_left : (ℕ → Spot → List Triple) → (ℕ → Spot → List Triple) → Graph → Plan → Spot → List ℕ
row_left outs ins g p at = filter (keeps g p) (ends_of p.direction p.label (row_from outs ins p at))

-- and then the one behind the row
abbrev pub left_from : (ℕ → Spot → List Triple) → (ℕ → Spot → List Triple) → Graph → Plan → JointPlace → List ℕ
left_from outs ins g p c = if c.given then [] else row_left outs ins g p c.at ++ fitting g p.labels p.further

-- ---- what that may cost

abbrev pub further_cost : Option ℕ → ℕ
further_cost None = 0
further_cost (Some w) = 1

-- two steps for each triple of the row, one at its end, and one for what comes behind it
abbrev pub cost_from : (ℕ → Spot → List Triple) → (ℕ → Spot → List Triple) → Plan → JointPlace → ℕ
cost_from outs ins p c = if c.given then 0 else 2 * length (row_from outs ins p c.at) + 1 + further_cost p.further

-- ---- its places

-- a place of the row
abbrev pub IsRowPlace : (ℕ → Spot → Type 0) → (ℕ → Spot → Type 0) → Plan → Spot → Type 0
IsRowPlace is_out is_in p at = IsPlace p.direction is_out is_in p.vertex at

-- where the end behind the row is still to come
abbrev pub IsPlaceBefore : Bool → Type 0 → Type 0
IsPlaceBefore true P = Unit {0}
IsPlaceBefore false P = P

-- a place of the walk
abbrev pub IsPlaceIn : (ℕ → Spot → Type 0) → (ℕ → Spot → Type 0) → Plan → JointPlace → Type 0
IsPlaceIn is_out is_in p c = IsPlaceBefore c.given (IsRowPlace is_out is_in p c.at)
