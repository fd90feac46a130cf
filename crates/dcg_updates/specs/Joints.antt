-- The joint that a triple is of a tree edge.
use Rattle.std.specs.Prelude.{ℕ, ◌==◌, ◌&&◌, Bool, cond, Option, None, Some, if◌then◌else◌}
use Rattle.std.specs.Option.{unwrap_or}
use Rattle.std.specs.Str.{bytes_eq}
use Rattle.flux_model.specs.Graph.{Graph}
use Rattle.flux_model.specs.Pattern.{PatternGraph, fits}
use Rattle.flux_model.specs.States.{Joint}
use Rattle.flux_model.specs.Tree.{QueryTree, link_at, edge_at}
use Rattle.flux_model.specs.declared.graph.Triple.{Triple}
use Rattle.flux_model.specs.declared.pattern.PatternEdge.{PatternEdge}
use Rattle.flux_model.specs.declared.tree.TreeLink.{TreeLink}

-- the link of a vertex that has one
abbrev pub link_of : QueryTree → ℕ → TreeLink
link_of t u = unwrap_or (link_at t u) (record { parent = 0; edge = 0 })

-- the triple has the edge's label, and its ends fit the edge's
abbrev pub ends_fit : PatternGraph → PatternEdge → Graph → Triple → Bool
ends_fit q edge g e = bytes_eq edge.label e.label && fits q edge.tail g e.src && fits q edge.head g e.dst

-- the joint that it then is, where u hangs by the edge
abbrev pub joint_along : PatternEdge → ℕ → Triple → Joint
joint_along edge u e = if edge.head == u then record { above = e.src; below = e.dst } else record { above = e.dst; below = e.src }

-- to tell it, two steps where the triple has the label of u's tree edge
abbrev pub joint_cost : PatternGraph → QueryTree → Triple → ℕ → ℕ
joint_cost q t e u = by_link (link_at t u)
  where
    by_link : Option TreeLink → ℕ
    by_link None = 0
    by_link (Some l) = cond (bytes_eq (edge_at q l.edge).label e.label) 2 0
