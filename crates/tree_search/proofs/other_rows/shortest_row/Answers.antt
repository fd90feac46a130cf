use Rattle.std.proofs.Common.{ap, ℕ, List, get_or, arith}
use Rattle.nontree_test.proofs.NonTreeLemmas.{non_tree_within, place_within}
use Rattle.tree_search.proofs.other_rows.shortest_row.Goals as goal

pub row_by-requires-clause-edge : goal.row_by-requires-clause-edge
row_by-requires-clause-edge g c =
    let s = c.args.search.now in
    let numbers = c.non_tree-i-items.ensures in
    let within = non_tree_within s.pattern.now s.tree.now c.requires.ready.belongs c.loop-i.i-index (place_within _ _ _ numbers c.loop-i-test.true) in
    omega (arith, within, ap (λ (l : List ℕ). get_or l c.loop-i.i-index 0) numbers)
