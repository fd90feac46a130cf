use Rattle.std.proofs.Common.{◌≤◌, take}
use Rattle.std.specs.List.{flat_map}
use Rattle.flux_outside.specs.Reads.{NoEmptyPut}
use Rattle.delta_report.specs.Answers.{answer_line}
use Rattle.watch_cli.specs.ReportProgress.{Wrote}
use Rattle.watch_cli.proofs.answers.put_maps.Given as goal

-- the lines so far were put, or wait in the report
abbrev pub invariant-loop-i : goal.invariant-loop-i
invariant-loop-i g l = record {
  wrote : Wrote (g.W.Sink.taken l.fn.out) (g.W.Sink.taken l.out) l.fn.report.items l.report.items (flat_map (answer_line l.name) (take l.i l.maps));
  later : g.W.Sink.faults l.fn.out ≤ g.W.Sink.faults l.out;
  puts : NoEmptyPut (g.W.Sink.puts l.fn.out) (g.W.Sink.puts l.out);
}
