-- The joint that a triple is of a tree edge, and what it costs to tell.
use Rattle.std.proofs.Common.{◌≡◌, ℕ, Bool, true, false, cond, ◌&&◌, ◌==◌, [], refl, sym, ap, subst, ◌∙◌}
use Rattle.std.specs.Prelude.{None, Some, slice_get}
use Rattle.std.specs.Str.{bytes_eq}
use Rattle.std.proofs.lemmas.Bool.{and_parts, eqb-true}
use Rattle.std.proofs.lemmas.Option.{get_or_from_slice_get}
use Rattle.flux_model.specs.Graph.{Graph}
use Rattle.flux_model.specs.Pattern.{PatternGraph, fits}
use Rattle.flux_model.specs.States.{Joint, joint_of}
use Rattle.flux_model.specs.Tree.{QueryTree, link_at, edge_at, BelongsTo}
use Rattle.flux_model.specs.declared.graph.Triple.{Triple}
use Rattle.flux_model.specs.declared.pattern.PatternEdge.{PatternEdge}
use Rattle.flux_model.specs.declared.tree.TreeLink.{TreeLink}
use Rattle.graph_rows.proofs.JointLemmas.{ends_down, ends_up}
use Rattle.dcg_updates.specs.Joints.{link_of, ends_fit, joint_along, joint_cost}
use Rattle.dcg_updates.proofs.PlanLemmas.{link_is}

module _ (q : PatternGraph) (t : QueryTree) (u : ℕ) (l : TreeLink) (edge : PatternEdge) (link : link_at t u ≡ Some l) (at : slice_get q.edges l.edge ≡ Some edge) where
  -- the edge that was read is the tree edge of u
  edge_is : edge_at q l.edge ≡ edge
  edge_is = get_or_from_slice_get q.edges l.edge edge (record { tail = 0; label = []; head = 0 }) at

  -- it costs what that edge's label asks
  pub cost_is : (e : Triple) → joint_cost q t e u ≡ cond (bytes_eq edge.label e.label) 2 0
  cost_is e = first ∙ ap (λ (k : PatternEdge). cond (bytes_eq k.label e.label) 2 0) edge_is
    where
      first : joint_cost q t e u ≡ cond (bytes_eq (edge_at q l.edge).label e.label) 2 0
      first = rw link refl

  -- the joint is there where the ends fit
  pub joint_is : (g : Graph) (e : Triple) (b : Bool) → b ≡ ends_fit q edge g e → joint_of q t g u e ≡ cond b (Some (joint_along edge u e)) None
  joint_is g e b told =
      first ∙ ap (λ (k : PatternEdge). cond (ends_fit q k g e) (Some (joint_along k u e)) None) edge_is ∙ ap (λ c. cond c (Some (joint_along edge u e)) None) (sym told)
    where
      first : joint_of q t g u e ≡ cond (ends_fit q (edge_at q l.edge) g e) (Some (joint_along (edge_at q l.edge) u e)) None
      first = rw link refl

  -- where they do not, there is none
  pub joint_none : (g : Graph) (e : Triple) (b : Bool) → b ≡ ends_fit q edge g e → b ≡ false → joint_of q t g u e ≡ None
  joint_none g e b told fails = joint_is g e b told ∙ ap (λ c. cond c (Some (joint_along edge u e)) None) fails

  -- where they do, it is told by its ends
  pub joint_some : (g : Graph) (e : Triple) (b : Bool) (x y : ℕ) → b ≡ ends_fit q edge g e → b ≡ true → x ≡ (joint_along edge u e).above → y ≡ (joint_along edge u e).below
      → joint_of q t g u e ≡ Some (record { above = x; below = y })
  joint_some g e b x y told holds above below =
      joint_is g e b told ∙ ap (λ c. cond c (Some (joint_along edge u e)) None) holds ∙ (λ i. Some (record { above = sym above i; below = sym below i }))

  module _ (belongs : BelongsTo q t) (g : Graph) (e : Triple) (b : Bool) (told : b ≡ ends_fit q edge g e) (holds : b ≡ true) where
    fit : ends_fit q edge g e ≡ true
    fit = sym told ∙ holds

    abbrev turned : Bool → Joint
    turned b = cond b (record { above = e.src; below = e.dst }) (record { above = e.dst; below = e.src })

    fits_at : (k p x : ℕ) → k ≡ p → fits q k g x ≡ true → fits q p g x ≡ true
    fits_at k p x same h = subst (λ i. fits q i g x ≡ true) same h

    tail_fits : fits q edge.tail g e.src ≡ true
    tail_fits = (and_parts (bytes_eq edge.label e.label) (fits q edge.tail g e.src) (and_parts (bytes_eq edge.label e.label && fits q edge.tail g e.src) (fits q edge.head g e.dst) fit).0).1

    head_fits : fits q edge.head g e.dst ≡ true
    head_fits = (and_parts (bytes_eq edge.label e.label && fits q edge.tail g e.src) (fits q edge.head g e.dst) fit).1

    tail_is : edge.tail ≡ (edge_at q l.edge).tail
    tail_is = ap (λ (k : PatternEdge). k.tail) (sym edge_is)

    head_is : edge.head ≡ (edge_at q l.edge).head
    head_is = ap (λ (k : PatternEdge). k.head) (sym edge_is)

    parent_is : l.parent ≡ (link_of t u).parent
    parent_is = ap (λ (k : TreeLink). k.parent) (sym (link_is t u l link))

    -- its end for the parent fits there
    pub above_fits : (x : ℕ) → x ≡ (joint_along edge u e).above → fits q (link_of t u).parent g x ≡ true
    above_fits x is = ap (fits q (link_of t u).parent g) is ∙ by (edge.head == u) refl
      where
        by : (b : Bool) → (edge.head == u) ≡ b → fits q (link_of t u).parent g (turned b).above ≡ true
        by true is = fits_at edge.tail (link_of t u).parent e.src (tail_is ∙ (ends_down q t belongs u l link (ap (λ k. k == u) (sym head_is) ∙ is)).0 ∙ parent_is) tail_fits
        by false is = fits_at edge.head (link_of t u).parent e.dst (head_is ∙ (ends_up q t belongs u l link (ap (λ k. k == u) (sym head_is) ∙ is)).1 ∙ parent_is) head_fits

    -- and the other fits the vertex
    pub below_fits : (y : ℕ) → y ≡ (joint_along edge u e).below → fits q u g y ≡ true
    below_fits y is = ap (fits q u g) is ∙ by (edge.head == u) refl
      where
        by : (b : Bool) → (edge.head == u) ≡ b → fits q u g (turned b).below ≡ true
        by true is = fits_at edge.head u e.dst (eqb-true edge.head u is) head_fits
        by false is = fits_at edge.tail u e.src (tail_is ∙ (ends_up q t belongs u l link (ap (λ k. k == u) (sym head_is) ∙ is)).0) tail_fits
