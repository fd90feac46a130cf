use Rattle.std.proofs.Common.{◌+◌, ◌*◌, ◌≤◌, length}
use Rattle.flux_model.specs.States.{joined}
use Rattle.dcg_transition.specs.Levels.{is_before, IsReached}
use Rattle.dcg_transition.proofs.StepLemmas.{above_level}
use Rattle.dcg_transition.proofs.reach.reach.Given as goal

-- the levels before this one are done, and paid for
abbrev pub invariant-loop-level : goal.invariant-loop-level
invariant-loop-level g l =
    let graph = g.G.HoldGraph.graph l.graph in
    record {
      reached : IsReached (joined l.pattern l.tree graph) (is_before l.tree l.level 0) l.dcg;
      steps : l.steps ≤ l.fn.steps + length graph.vertices + above_level l.level l.depths * (length graph.vertices + 3 * length graph.triples);
    }
