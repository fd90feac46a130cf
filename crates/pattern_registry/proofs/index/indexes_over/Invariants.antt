use Rattle.std.proofs.Common.{◌+◌, ◌*◌, ◌≤◌, take}
use Rattle.std.specs.List.{AllZip, sum_by}
use Rattle.flux_model.specs.Costs.{start_cost}
use Rattle.pattern_registry.specs.Indexes.{IsStarted}
use Rattle.pattern_registry.specs.RootLists.{AreRootLists}
use Rattle.pattern_registry.proofs.index.indexes_over.Given as goal

-- the patterns so far are started; the cards of all took a quarter of the starts, and each pattern three quarters of its own
abbrev pub invariant-loop-k : goal.invariant-loop-k
invariant-loop-k g l =
    let graph = g.G.HoldGraph.graph l.graph in
    record {
      started : AllZip (IsStarted graph) (take l.k l.patterns) l.indexes.items;
      lists : AreRootLists graph (g.G.HoldGraph.listed l.graph) l.lists.lists.items;
      steps : 4 * l.steps ≤ 4 * l.fn.steps + sum_by (λ q. start_cost q graph) l.patterns + 3 * sum_by (λ q. start_cost q graph) (take l.k l.patterns);
    }
