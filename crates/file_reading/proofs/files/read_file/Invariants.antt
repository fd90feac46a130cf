use Rattle.std.proofs.Common.{◌≡◌, ◌≤◌, ◌-◌, false, vec_len}
use Rattle.flux_outside.specs.Reads.{FileReads}
use Rattle.flux_outside.proofs.ReadsLemmas.{Asking}
use Rattle.file_reading.specs.FileProgress.{FileRead}
use Rattle.file_reading.proofs.files.read_file.Given as goal

abbrev pub invariant-loop-count : goal.invariant-loop-count
invariant-loop-count g l = record {
  within : l.given ≤ l.limits.input_bytes;
  buffer : vec_len l.buffer ≡ 65536;
  read : FileRead g.T.TakeLine.after_line l.limits.line_bytes l.given l.number l.fn.file l.file l.lines (g.F.Shelf.files l.fn.shelf) l.name;
  ready : g.T.TakeLine.is_spent l.file ≡ false;
  same : g.F.Shelf.files l.shelf ≡ g.F.Shelf.files l.fn.shelf;
  later : g.F.Shelf.faults l.fn.shelf ≤ g.F.Shelf.faults l.shelf;
  asked : Asking l.limits.input_bytes l.given (FileReads l.name (g.F.Shelf.reads l.fn.shelf) (g.F.Shelf.reads l.shelf));
}

abbrev pub decreases-loop-count : goal.decreases-loop-count
decreases-loop-count g l = l.limits.input_bytes - l.given
