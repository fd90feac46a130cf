use Rattle.std.proofs.Common.{◌≡◌, ◌∙◌, sym, ap, subst}
use Rattle.flux_model.specs.Tree.{QueryTree, link_at, IsTree}
use Rattle.query_tree.proofs.CallerLemmas.{none_at_root}
use Rattle.query_tree.proofs.tree.QueryTree.parent.Goals as goal

pub returns-clause-root : goal.returns-clause-root
returns-clause-root c =
    let both = none_at_root c.args.self.now (subst IsTree c.self.view_is c.self.invariant.tree) c.args.u c.requires in
    let link : c.link.result ≡ link_at c.args.self.now c.args.u = c.link.ensures ∙ ap (λ (t : QueryTree). link_at t c.args.u) c.self.view_is in
    (λ e. both.0 (sym link ∙ e), λ e. link ∙ both.1 e)
