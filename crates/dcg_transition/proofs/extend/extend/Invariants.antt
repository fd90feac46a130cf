use Rattle.std.proofs.Common.{◌+◌, ◌-◌, ◌*◌, ◌≤◌, length}
use Rattle.flux_model.specs.States.{joined}
use Rattle.dcg_transition.specs.Levels.{is_after, IsCounted}
use Rattle.dcg_transition.proofs.StepLemmas.{below_level}
use Rattle.dcg_transition.proofs.extend.extend.Given as goal

-- the levels below the next are counted, and paid for
abbrev pub invariant-loop-done : goal.invariant-loop-done
invariant-loop-done g l =
    let graph = g.G.HoldGraph.graph l.graph in
    record {
      counted : IsCounted (joined l.pattern l.tree graph) (is_after l.tree (l.count - l.done) 0) l.dcg;
      steps : l.steps ≤ l.fn.steps + below_level (l.count - l.done) l.depths * (length graph.vertices + 3 * length graph.triples);
    }
