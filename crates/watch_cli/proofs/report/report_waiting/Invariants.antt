use Rattle.std.proofs.Common.{◌≡◌, ◌≤◌, ◌+◌, false, length}
use Rattle.flux_outside.specs.Reads.{NoEmptyPut}
use Rattle.watch_core.specs.Session.{said_by}
use Rattle.watch_core.specs.SessionStates.{watched}
use Rattle.watch_cli.specs.RunCosts.{next_costs}
use Rattle.watch_cli.proofs.ReportLemmas.{Reported}
use Rattle.watch_cli.proofs.report.report_waiting.Given as goal

-- what was put, what waits in the report and the blocks of the lines that wait are all blocks; what was spent, and the costs of the lines that
-- wait come to no more than the costs of all
abbrev pub invariant-loop-line : goal.invariant-loop-line
invariant-loop-line g l = record {
  reported : Reported (g.W.Sink.taken l.fn.out) (g.W.Sink.taken l.out) l.report.items (watched l.fn.session) (watched l.session) (said_by l.fn.lines.queue) (said_by l.lines.queue);
  count : l.session.lines + length l.lines.queue ≡ l.fn.session.lines + length l.fn.lines.queue;
  same : l.lines ≡ record l.fn.lines { queue = l.lines.queue };
  whole : l.session.is_broken ≡ false;
  trees : l.session.registry.trees ≡ l.fn.session.registry.trees;
  spent : l.steps + next_costs (watched l.session) l.fn.session.registry.trees (said_by l.lines.queue)
      ≤ l.fn.steps + next_costs (watched l.fn.session) l.fn.session.registry.trees (said_by l.fn.lines.queue);
  later : g.W.Sink.faults l.fn.out ≤ g.W.Sink.faults l.out;
  puts : NoEmptyPut (g.W.Sink.puts l.fn.out) (g.W.Sink.puts l.out);
}

abbrev pub decreases-loop-line : goal.decreases-loop-line
decreases-loop-line g l = length l.lines.queue
