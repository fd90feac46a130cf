use Rattle.std.proofs.Common.{◌≡◌, ◌≤◌, ◌-◌, [], false, vec_len}
use Rattle.flux_outside.specs.Reads.{SourceReads, NoEmptyPut}
use Rattle.flux_outside.proofs.ReadsLemmas.{Asking}
use Rattle.watch_core.specs.SessionStates.{watched}
use Rattle.watch_cli.proofs.CostLemmas.{FollowedAt}
use Rattle.watch_cli.proofs.updates.follow.Given as goal

abbrev pub invariant-loop-count : goal.invariant-loop-count
invariant-loop-count g l = record {
  within : l.given ≤ l.limits.input_bytes;
  buffer : vec_len l.buffer ≡ 65536;
  empty : l.report.items ≡ [];
  followed : FollowedAt l.limits.line_bytes l.given (g.S.Source.left l.fn.updates) (g.S.Source.left l.updates) (g.W.Sink.taken l.fn.out) (g.W.Sink.taken l.out) (watched l.fn.session) (watched l.session) l.lines
      l.fn.session.registry.trees l.fn.steps l.steps;
  trees : l.session.registry.trees ≡ l.fn.session.registry.trees;
  whole : l.session.is_broken ≡ false;
  read_later : g.S.Source.faults l.fn.updates ≤ g.S.Source.faults l.updates;
  later : g.W.Sink.faults l.fn.out ≤ g.W.Sink.faults l.out;
  asked : Asking l.limits.input_bytes l.given (SourceReads (g.S.Source.reads l.fn.updates) (g.S.Source.reads l.updates));
  puts : NoEmptyPut (g.W.Sink.puts l.fn.out) (g.W.Sink.puts l.out);
}

abbrev pub decreases-loop-count : goal.decreases-loop-count
decreases-loop-count g l = l.limits.input_bytes - l.given
