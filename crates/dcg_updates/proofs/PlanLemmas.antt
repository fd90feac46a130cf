-- A plan from its parts.
use Rattle.std.proofs.Common.{◌≡◌, ℕ, List, [], refl, sym, ap, ◌∙◌}
use Rattle.std.specs.Prelude.{Option, Some, slice_index_or}
use Rattle.flux_model.specs.Pattern.{PatternGraph}
use Rattle.flux_model.specs.Tree.{QueryTree, link_at, edge_at}
use Rattle.flux_model.specs.declared.graph.Triple.{Triple}
use Rattle.flux_model.specs.declared.pattern.PatternEdge.{PatternEdge}
use Rattle.flux_model.specs.declared.tree.TreeLink.{TreeLink}
use Rattle.graph_rows.specs.Directions.{direction_to}
use Rattle.graph_rows.specs.declared.direction.Direction.{Direction}
use Rattle.dcg_updates.specs.Joints.{link_of}
use Rattle.dcg_updates.specs.Plans.{other_in, skip_for, further_for, plan_along, plan_at}
use Rattle.dcg_updates.specs.declared.sight.Sight.{Sight}

-- a link that is there
pub link_is : (t : QueryTree) (u : ℕ) (l : TreeLink) → link_at t u ≡ Some l → link_of t u ≡ l
link_is t u l e = rw e refl

-- the plan of a tree edge, by what the calls told of it
pub plan_made : (q : PatternGraph) (t : QueryTree) (e : Triple) (sight : Sight) (child end v : ℕ) (l : TreeLink) (edge : PatternEdge) (d : Direction) (labels : List (List ℕ)) (other skip further : Option ℕ)
    → link_at t child ≡ Some l → edge_at q l.edge ≡ edge → d ≡ direction_to edge end → labels ≡ slice_index_or q.labels end []
    → other ≡ other_in d edge.label v e → skip ≡ skip_for sight other → further ≡ further_for sight other
    → record { vertex = v; direction = d; label = edge.label; labels = labels; skip = skip; further = further } ≡ plan_at q t e sight child end v
plan_made q t e sight child end v l edge d labels other skip further link is dir lab ot sk fu =
    let found : other ≡ other_in (direction_to edge end) edge.label v e = ot ∙ ap (λ k. other_in k edge.label v e) dir in
    let skipped : skip ≡ skip_for sight (other_in (direction_to edge end) edge.label v e) = sk ∙ ap (skip_for sight) found in
    let given : further ≡ further_for sight (other_in (direction_to edge end) edge.label v e) = fu ∙ ap (further_for sight) found in
    let first : record { vertex = v; direction = d; label = edge.label; labels = labels; skip = skip; further = further } ≡ plan_along q e sight (direction_to edge end) edge.label end v =
    (λ i. record { vertex = v; direction = dir i; label = edge.label; labels = lab i; skip = skipped i; further = given i }) in
    let whole : edge ≡ edge_at q (link_of t child).edge = sym is ∙ ap (λ (k : TreeLink). edge_at q k.edge) (sym (link_is t child l link)) in
    first ∙ ap (λ (k : PatternEdge). plan_along q e sight (direction_to k end) k.label end v) whole
