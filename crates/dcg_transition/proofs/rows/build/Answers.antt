use Rattle.std.proofs.Common.{◌≡◌, subst, sym, ◌∙◌}
use Rattle.std.specs.Prelude.{Some, slice_get}
use Rattle.dcg_transition.proofs.FittingLemmas.{root-fitting}
use Rattle.dcg_transition.proofs.rows.build.Goals as goal

pub build_from-requires-clause-roots : goal.build_from-requires-clause-roots
build_from-requires-clause-roots g c =
    let graph = c.args.graph.now in
    let labels = subst (λ u. slice_get c.args.pattern.now.labels u ≡ Some c.labels.result.now) c.root.ensures.root c.labels.ensures in
    c.as_slice.ensures.value ∙ c.in_ok-roots.ensures.vertices ∙ sym (root-fitting c.args.pattern.now c.args.tree.now (g.G.HoldGraph.graph graph) (g.G.HoldGraph.listed graph) c.labels.result.now labels)
