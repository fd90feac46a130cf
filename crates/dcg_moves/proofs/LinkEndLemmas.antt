-- The tree edge of a vertex leads to its parent, in one direction; and the depths of a tree are depths.
use Rattle.std.proofs.Common.{◌≡◌, ◌≢◌, ℕ, true, false, ◌&&◌, ◌==◌, inl, inr, sym, ap, ◌∙◌, arith}
use Rattle.std.specs.Prelude.{◌⊎◌, Some}
use Rattle.std.proofs.lemmas.Bool.{and_parts, or_cases, eqb-true}
use Rattle.flux_model.specs.Pattern.{PatternGraph}
use Rattle.flux_model.specs.Tree.{QueryTree, link_at, edge_at, IsTree, BelongsTo}
use Rattle.flux_model.specs.declared.pattern.PatternEdge.{PatternEdge}
use Rattle.flux_model.specs.declared.tree.TreeLink.{TreeLink}
use Rattle.query_tree.specs.Depth.{depth}
use Rattle.query_tree.proofs.CallerLemmas.{depth-below, depth-small}
use Rattle.dcg_store.proofs.StateLemmas.{HasDepths}

-- each vertex is one deeper than its parent, and none is as deep as there are vertices
pub has_depths : (t : QueryTree) → IsTree t → HasDepths t (depth t)
has_depths t is = record { deeper = depth-below t is; shallow = depth-small t is }

module _ (q : PatternGraph) (t : QueryTree) (belongs : BelongsTo q t) (u : ℕ) (l : TreeLink) (link : link_at t u ≡ Some l) where
  abbrev edge : PatternEdge
  edge = edge_at q l.edge

  -- a vertex is not its own parent
  pub apart : u ≢ l.parent
  apart same = absurd (omega (arith, depth-below t belongs.tree u l link, ap (depth t) same))

  -- where the vertex is the edge's head, the parent is its tail
  pub ends_down : (edge.head == u) ≡ true → (edge.tail ≡ l.parent) × (edge.head ≡ u)
  ends_down down = by (or_cases (edge.tail == u && edge.head == l.parent) (edge.tail == l.parent && edge.head == u) (belongs.links u l link).between)
    where
      by : ((edge.tail == u && edge.head == l.parent) ≡ true) ⊎ ((edge.tail == l.parent && edge.head == u) ≡ true) → (edge.tail ≡ l.parent) × (edge.head ≡ u)
      by (inl h) = absurd (apart (sym (eqb-true edge.head u down) ∙ eqb-true edge.head l.parent (and_parts _ _ h).1))
      by (inr h) = (eqb-true edge.tail l.parent (and_parts _ _ h).0, eqb-true edge.head u (and_parts _ _ h).1)

  -- else the vertex is the tail, and the parent the head
  pub ends_up : (edge.head == u) ≡ false → (edge.tail ≡ u) × (edge.head ≡ l.parent)
  ends_up up = by (or_cases (edge.tail == u && edge.head == l.parent) (edge.tail == l.parent && edge.head == u) (belongs.links u l link).between)
    where
      by : ((edge.tail == u && edge.head == l.parent) ≡ true) ⊎ ((edge.tail == l.parent && edge.head == u) ≡ true) → (edge.tail ≡ u) × (edge.head ≡ l.parent)
      by (inl h) = (eqb-true edge.tail u (and_parts _ _ h).0, eqb-true edge.head l.parent (and_parts _ _ h).1)
      by (inr h) = let there = (and_parts (edge.tail == l.parent) (edge.head == u) h).1 in let bad : true ≡ false = sym there ∙ up in absurd cc
