-- Which graph vertices the tree of a pattern reaches, from which it extends to the leaves, and the states that follow.
use Rattle.std.specs.Prelude.{ℕ, zero, suc, ◌==◌, ◌&&◌, ◌||◌, Bool, true, false, List, length, Option, Some, None, if◌then◌else◌}
use Rattle.std.specs.List.{list_any, list_all, filter_map}
use Rattle.std.specs.Str.{bytes_eq}
use Rattle.flux_model.specs.Graph.{Graph}
use Rattle.flux_model.specs.Pattern.{PatternGraph, fits}
use Rattle.flux_model.specs.Tree.{QueryTree, link_at, edge_at, children}
use Rattle.flux_model.specs.declared.tree.TreeLink.{TreeLink}
use Rattle.flux_model.specs.declared.graph.Triple.{Triple}
use Rattle.flux_model.specs.declared.pattern.PatternEdge.{PatternEdge}
use Rattle.flux_model.specs.declared.state.State.{State}
use Rattle.flux_model.specs.declared.state.State.TheVariants.{Null, Implicit, Explicit}

-- a triple of a tree edge: its end for the parent, and its end for the child
pub record Joint : Type 0 where
  pub above : ℕ
  pub below : ℕ

-- the joint of u's tree edge that the triple makes, where its label is the edge's and both ends fit
abbrev pub joint_of : PatternGraph → QueryTree → Graph → ℕ → Triple → Option Joint
joint_of q t g u triple = by_link (link_at t u)
  where
    by_edge : PatternEdge → Option Joint
    by_edge e =
        if bytes_eq e.label triple.label && fits q e.tail g triple.src && fits q e.head g triple.dst
        then Some (if e.head == u then record { above = triple.src; below = triple.dst } else record { above = triple.dst; below = triple.src })
        else None

    by_link : Option TreeLink → Option Joint
    by_link None = None
    by_link (Some l) = by_edge (edge_at q l.edge)

-- what the states are read from: the tree, the vertices that fit, and the joints of each tree edge
pub record Joined : Type 0 where
  pub tree : QueryTree
  pub fits : ℕ → ℕ → Bool
  pub joints : ℕ → List Joint

-- where u's tree edge sees the triples `seen u`
abbrev pub joined_by : PatternGraph → QueryTree → Graph → (ℕ → List Triple) → Joined
joined_by q t g seen = record { tree = t; fits = λ u v. fits q u g v; joints = λ u. filter_map (joint_of q t g u) (seen u) }

abbrev pub joined : PatternGraph → QueryTree → Graph → Joined
joined q t g = joined_by q t g (λ _. g.triples)

-- v fits u, and u is the root or v is joined to a vertex that the parent reaches, k vertices up at most
abbrev pub reaches_within : ℕ → Joined → ℕ → ℕ → Bool
reaches_within zero j u v = false
reaches_within (suc k) j u v = j.fits u v && (u == j.tree.root || above (link_at j.tree u) (reaches_within k j))
  where
    above : Option TreeLink → (ℕ → ℕ → Bool) → Bool
    above None before = false
    above (Some l) before = list_any (λ e. e.below == v && before l.parent e.above) (j.joints u)

-- v fits u, and for each child is joined to a vertex that extends, k vertices down at most
abbrev pub extends_within : ℕ → Joined → ℕ → ℕ → Bool
extends_within zero j u v = false
extends_within (suc k) j u v = j.fits u v && list_all (below (extends_within k j)) (children j.tree u)
  where
    below : (ℕ → ℕ → Bool) → ℕ → Bool
    below after c = list_any (λ e. e.above == v && after c e.below) (j.joints c)

-- a path in the tree has at most as many vertices as the tree
abbrev pub reaches : Joined → ℕ → ℕ → Bool
reaches j u v = reaches_within (length j.tree.links) j u v

abbrev pub extends : Joined → ℕ → ℕ → Bool
extends j u v = extends_within (length j.tree.links) j u v

-- ---- states

abbrev pub state_for : Bool → Bool → State
state_for false extended = Null
state_for true false = Implicit
state_for true true = Explicit

-- of the pair of pattern vertex u and graph vertex v: whether v is reached, and whether it extends to the leaves as well
abbrev pub state : Joined → ℕ → ℕ → State
state j u v = state_for (reaches j u v) (extends j u v)

-- of u's tree edge between v, for the parent, and w: null where v is not reached, else the state of w
abbrev pub edge_state : Joined → ℕ → ℕ → ℕ → State
edge_state j u v w = by_link (link_at j.tree u)
  where
    by_link : Option TreeLink → State
    by_link None = Null
    by_link (Some l) = if reaches j l.parent v then state j u w else Null

abbrev pub is_explicit : Joined → ℕ → ℕ → Bool
is_explicit j u v = reaches j u v && extends j u v
