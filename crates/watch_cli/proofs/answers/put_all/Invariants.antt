use Rattle.std.proofs.Common.{◌≡◌, ◌+◌, ◌*◌, ◌≤◌, [], length, take, drop}
use Rattle.std.specs.List.{flat_map}
use Rattle.flux_outside.specs.Reads.{NoEmptyPut}
use Rattle.flux_model.specs.Embedding.{embeddings}
use Rattle.flux_model.specs.Report.{answer_lines}
use Rattle.pattern_registry.specs.AnswerCosts.{MeetNoDeadEnd, no_dead_end_costs}
use Rattle.watch_cli.specs.ReportProgress.{Wrote}
use Rattle.watch_cli.proofs.answers.put_all.Given as goal

-- the lines of the patterns so far were put, or wait in the report; their number fits; and what was spent, with what the others may cost
abbrev pub invariant-loop-k : goal.invariant-loop-k
invariant-loop-k g l = record {
  wrote : Wrote (g.W.Sink.taken l.fn.out) (g.W.Sink.taken l.out) [] l.report.items (flat_map (answer_lines (g.G.HoldGraph.graph l.graph)) (take l.k l.registry.patterns));
  count : l.total ≡ length (flat_map (λ q. embeddings q (g.G.HoldGraph.graph l.graph)) (take l.k l.registry.patterns));
  fits : l.total ≤ l.k * 18446744073709551615;
  steps : MeetNoDeadEnd l.registry.patterns l.registry.trees → l.steps + no_dead_end_costs (g.G.HoldGraph.graph l.graph) (drop l.k l.registry.patterns) (drop l.k l.registry.trees) ≤ l.fn.steps + no_dead_end_costs (g.G.HoldGraph.graph l.graph) l.registry.patterns l.registry.trees;
  later : g.W.Sink.faults l.fn.out ≤ g.W.Sink.faults l.out;
  puts : NoEmptyPut (g.W.Sink.puts l.fn.out) (g.W.Sink.puts l.out);
}
