use Rattle.std.proofs.Common.{◌≡◌, ◌≤◌, ◌+◌, ◌^◌, false, length}
use Rattle.flux_model.specs.Limits.{standard}
use Rattle.flux_model.specs.Lines.{lines}
use Rattle.watch_core.specs.Session.{said_by}
use Rattle.flux_demo.specs.Progress.{Counting}
use Rattle.flux_demo.proofs.ProgressLemmas.{left_of}
use Rattle.flux_demo.proofs.demonstration.take_updates.Given as goal

-- what was counted, and what the lines that are left add, come to the counts of all
abbrev pub invariant-loop-line : goal.invariant-loop-line
invariant-loop-line g l =
    let first = l.fn.session in
    record {
      counting : Counting first.limits first.registry.patterns first.graph l.session.graph (said_by (lines standard.line_bytes l.updates)) (said_by (left_of l.lines)) l.tally;
      limits : l.session.limits ≡ first.limits;
      patterns : l.session.registry.patterns ≡ first.registry.patterns;
      whole : l.session.is_broken ≡ false;
      few : l.session.lines + length (left_of l.lines) ≤ 2 ^ 60;
    }

abbrev pub decreases-loop-line : goal.decreases-loop-line
decreases-loop-line g l = length l.lines.queue
