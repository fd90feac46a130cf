use Rattle.std.proofs.Common.{◌≡◌, ◌+◌, false, length}
use Rattle.flux_model.specs.FileReading.{read_from}
use Rattle.file_reading.proofs.files.take_waiting.Given as goal

-- what is left to take comes to what was to take
abbrev pub invariant-loop-line : goal.invariant-loop-line
invariant-loop-line g l = record {
  read : read_from g.T.TakeLine.after_line (l.number + 1) l.file l.lines.queue ≡ read_from g.T.TakeLine.after_line (l.before + 1) l.fn.file l.fn.lines.queue;
  count : l.number + length l.lines.queue ≡ l.before + length l.fn.lines.queue;
  same : l.lines ≡ record l.fn.lines { queue = l.lines.queue };
  ready : g.T.TakeLine.is_spent l.file ≡ false;
}

abbrev pub decreases-loop-line : goal.decreases-loop-line
decreases-loop-line g l = length l.lines.queue
