use Rattle.std.proofs.Common.{◌≡◌, ◌+◌, ◌≤◌, drop, replicate, None}
use Rattle.std.specs.List.{sum_by}
use Rattle.flux_model.specs.Costs.{embedding_cost}
use Rattle.flux_model.specs.Embedding.{embeddings}
use Rattle.flux_model.specs.Pattern.{vertex_count}
use Rattle.tree_search.specs.Members.{members_over, GrewUpTo}
use Rattle.tree_search.specs.SearchCosts.{MeetsNoDeadEnd}
use Rattle.tree_search.proofs.starts.all.Given as goal

-- what was found, with the embeddings over the vertices still to come, is all
abbrev pub invariant-loop-i : goal.invariant-loop-i
invariant-loop-i g l =
    let graph = g.G.HoldGraph.graph l.graph in
    let list = g.F.Found.list in
    record {
      partial : l.partial ≡ replicate (vertex_count l.pattern) None;
      found : GrewUpTo (list l.fn.found) (list l.found) (members_over l.pattern graph (replicate (vertex_count l.pattern) None) l.root (drop l.i l.roots)) (embeddings l.pattern graph);
      steps : MeetsNoDeadEnd l.pattern l.tree
          → l.steps + sum_by (embedding_cost l.pattern l.tree graph) (members_over l.pattern graph (replicate (vertex_count l.pattern) None) l.root (drop l.i l.roots))
          ≤ l.fn.steps + l.i + sum_by (embedding_cost l.pattern l.tree graph) (embeddings l.pattern graph);
    }
