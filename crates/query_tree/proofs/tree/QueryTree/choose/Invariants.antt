use Rattle.std.proofs.Common.{◌≡◌, ◌-◌, length}
use Rattle.flux_model.specs.Pattern.{vertex_count}
use Rattle.flux_model.specs.Tree.{tree_after, tree_for}
use Rattle.query_tree.proofs.tree.QueryTree.choose.Given as goal

-- the steps that are left make the tree
abbrev pub invariant-loop : goal.invariant-loop
invariant-loop l = record {
  count : length l.growth.links ≡ vertex_count l.pattern;
  left : tree_after (l.count - l.counter) l.pattern l.cards.edges l.growth ≡ tree_for l.pattern l.cards.edges l.cards.vertices;
}
