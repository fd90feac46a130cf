use Rattle.std.proofs.Common.{◌≡◌, sym, ◌∙◌, arith}
use Rattle.std.specs.Prelude.{Some}
use Rattle.flux_model.specs.Tree.{link_at}
use Rattle.query_tree.proofs.CallerLemmas.{parent_within}
use Rattle.dcg_updates.proofs.view.JointView.up.Goals as goal

pub walk_along-requires-clause-end : goal.walk_along-requires-clause-end
walk_along-requires-clause-end g c =
    let t = c.args.self.now.tree.now in
    let belongs = c.args.self.now.sound.belongs in
    let link : link_at t c.args.u ≡ Some c.unwrap-parent.result = sym c.parent.ensures.link ∙ c.unwrap-parent.ensures in
    omega (arith, parent_within t belongs.tree c.args.u c.unwrap-parent.result link, belongs.vertices)
