-- The walks of a view, from an id up and down its tree edges.
use Rattle.std.specs.Prelude.{◌≢◌, ◌<◌, ℕ, IsTrue, length}
use Rattle.flux_model.specs.Graph.{Graph, has_vertex}
use Rattle.flux_model.specs.Pattern.{PatternGraph}
use Rattle.flux_model.specs.Tree.{QueryTree}
use Rattle.flux_model.specs.declared.graph.Triple.{Triple}
use Rattle.graph_traits.specs.declared.spot.Spot.{Spot}
use Rattle.dcg_moves.specs.declared.place.JointPlace.{JointPlace}
use Rattle.dcg_updates.specs.Joints.{link_of}
use Rattle.dcg_updates.specs.Plans.{Plan, plan_at, IsPlaceIn}
use Rattle.dcg_updates.specs.Sights.{sight_of}
use Rattle.dcg_updates.specs.declared.sight.Change.{Change}

-- from v, a member of layer u, to the parent's
abbrev pub up_plan : PatternGraph → QueryTree → Triple → Change → ℕ → ℕ → ℕ → Plan
up_plan q t e change next u v = plan_at q t e (sight_of change next u) u (link_of t u).parent v

-- from v, a member of the parent's layer of c, to those of c
abbrev pub down_plan : PatternGraph → QueryTree → Triple → Change → ℕ → ℕ → ℕ → Plan
down_plan q t e change next c v = plan_at q t e (sight_of change next c) c c v

-- a place of what is read at v along the tree edge of u
pub record IsPlaceAt (t : QueryTree) (g : Graph) (is_out is_in : ℕ → Spot → Type 0) (p : Plan) (u v : ℕ) (c : JointPlace) : Type 0 where
  pub inside : u < length t.links
  pub apart : u ≢ t.root
  pub stands : IsTrue (has_vertex g v)
  pub place : IsPlaceIn is_out is_in p c
