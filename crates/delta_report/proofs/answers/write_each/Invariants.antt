use Rattle.std.proofs.Common.{◌≡◌, ◌++◌, take}
use Rattle.delta_report.specs.Answers.{listing, answer_count}
use Rattle.delta_report.proofs.answers.write_each.Given as goal

-- the lines so far, and their number
abbrev pub invariant-loop-i : goal.invariant-loop-i
invariant-loop-i l = record {
  text : l.out.items ≡ l.fn.out.items ++ listing l.patterns (take l.i l.deltas);
  count : l.total ≡ answer_count (take l.i l.deltas);
}
