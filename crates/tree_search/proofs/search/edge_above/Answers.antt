use Rattle.std.proofs.Common.{◌≡◌, Some, sym, ap, ◌∙◌}
use Rattle.flux_model.specs.Tree.{link_at}
use Rattle.tree_search.specs.Given.{edge_of}
use Rattle.tree_search.proofs.search.edge_above.Goals as goal

pub returns-clause-number : goal.returns-clause-number
returns-clause-number c =
    let is : link_at c.args.tree.now c.args.u ≡ Some c.unwrap-link.result = sym c.parent.ensures.link ∙ c.unwrap-link.ensures in
    ap edge_of (sym is)

pub returns-clause-within : goal.returns-clause-within
returns-clause-within c = (c.requires.belongs.links c.args.u c.unwrap-link.result (sym c.parent.ensures.link ∙ c.unwrap-link.ensures)).edge
