use Rattle.std.proofs.Common.{◌≡◌, ◌==◌, Some, ◌∙◌, refl, sym, ap, subst}
use Rattle.std.specs.List.{position}
use Rattle.flux_model.specs.Tree.{QueryTree, link_at, IsTree}
use Rattle.query_tree.proofs.CallerLemmas.{linked, parent_within}
use Rattle.query_tree.proofs.KeptLemmas.{read_link, child_place, child_numbered}
use Rattle.query_tree.proofs.tree.QueryTree.child_number.Goals as goal

pub unwrap-link-requires : goal.unwrap-link-requires
unwrap-link-requires c =
    let t = c.args.self.now in
    let hung = linked t (subst IsTree c.self.view_is c.self.invariant.tree) c.args.u c.requires.vertex c.requires.not_root in
    let link : c.link.result ≡ Some hung.0 = c.link.ensures ∙ ap (λ (s : QueryTree). link_at s c.args.u) c.self.view_is ∙ hung.1 in
    rw link refl

pub children-requires : goal.children-requires
children-requires c =
    let link = read_link c.self.inside.grown c.args.self.now c.args.u c.link.result c.unwrap-link.result c.self.view_is c.link.ensures c.unwrap-link.ensures in
    parent_within c.args.self.now (subst IsTree c.self.view_is c.self.invariant.tree) c.args.u c.unwrap-link.result link

pub unwrap-requires : goal.unwrap-requires
unwrap-requires c =
    let link = read_link c.self.inside.grown c.args.self.now c.args.u c.link.result c.unwrap-link.result c.self.view_is c.link.ensures c.unwrap-link.ensures in
    let place = child_place c.args.self.now c.args.u c.unwrap-link.result link in
    let found : c.place_of.result ≡ Some place.0 = c.place_of.ensures ∙ ap (position (λ v. v == c.args.u)) c.children.ensures ∙ place.1 in
    rw found refl

pub returns : goal.returns
returns c =
    let link = read_link c.self.inside.grown c.args.self.now c.args.u c.link.result c.unwrap-link.result c.self.view_is c.link.ensures c.unwrap-link.ensures in
    child_numbered c.args.self.now c.args.u c.unwrap-link.result c.unwrap.result link (sym (ap (position (λ v. v == c.args.u)) c.children.ensures) ∙ sym c.place_of.ensures ∙ c.unwrap.ensures)
