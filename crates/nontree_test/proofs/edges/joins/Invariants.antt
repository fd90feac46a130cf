use Rattle.std.proofs.Common.{◌≡◌, ◌≤◌, ◌+◌, drop}
use Rattle.std.specs.List.{list_all}
use Rattle.flux_model.specs.Partial.{edge_joins, joins}
use Rattle.flux_model.specs.Tree.{edge_at, non_tree}
use Rattle.nontree_test.proofs.edges.joins.Given as goal

-- the edges that are left decide, and each edge before them took one step at most
abbrev pub invariant-loop-i : goal.invariant-loop-i
invariant-loop-i g l =
    let graph = g.G.HoldGraph.graph l.graph in
    record {
      left : list_all (λ i. edge_joins graph l.partial l.w l.x (edge_at l.pattern i)) (drop l.i-index (non_tree l.tree)) ≡ joins l.pattern l.tree graph l.partial l.w l.x;
      steps : l.steps ≤ l.fn.steps + l.i-index;
      onward : l.fn.steps ≤ l.steps;
    }
