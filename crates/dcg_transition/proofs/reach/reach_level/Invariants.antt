use Rattle.std.proofs.Common.{◌+◌, ◌*◌, ◌≤◌, length, take}
use Rattle.flux_model.specs.States.{joined}
use Rattle.dcg_transition.specs.Levels.{is_before, IsReached}
use Rattle.dcg_transition.proofs.StepLemmas.{on_level}
use Rattle.dcg_transition.proofs.reach.reach_level.Given as goal

-- the vertices of the level below u are done, and paid for
abbrev pub invariant-loop-u : goal.invariant-loop-u
invariant-loop-u g l =
    let graph = g.G.HoldGraph.graph l.graph in
    record {
      reached : IsReached (joined l.pattern l.tree graph) (is_before l.tree l.level l.u) l.dcg;
      steps : l.steps ≤ l.fn.steps + on_level l.level (take l.u l.depths) * (length graph.vertices + 3 * length graph.triples);
    }
