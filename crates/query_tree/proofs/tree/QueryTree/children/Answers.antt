use Rattle.std.proofs.Common.{◌≡◌, ◌∙◌, map, subst, length, arith}
use Rattle.std.specs.List.{range_with_len}
use Rattle.flux_model.specs.Tree.{QueryTree, children}
use Rattle.query_tree.proofs.KeptLemmas.{items_of, lists_count, list_at}
use Rattle.query_tree.proofs.tree.QueryTree.children.Goals as goal

pub index-requires : goal.index-requires
index-requires c =
    let t = c.args.self.now in
    let lists = subst (λ (s : QueryTree). items_of c.self.inside.children.items ≡ map (children s) (range_with_len 0 (length s.links))) c.self.view_is c.self.invariant.children in
    omega (arith, lists_count (children t) c.self.inside.children.items (length t.links) lists, c.self.inside.children.ok.0)

pub returns : goal.returns
returns c =
    let t = c.args.self.now in
    let lists = subst (λ (s : QueryTree). items_of c.self.inside.children.items ≡ map (children s) (range_with_len 0 (length s.links))) c.self.view_is c.self.invariant.children in
    c.as_slice.ensures.value ∙ list_at (children t) c.self.inside.children.items (length t.links) c.args.u c.index.result.now lists c.requires c.index.ensures
