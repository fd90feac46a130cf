use Rattle.std.proofs.Common.{◌≡◌, ◌++◌, take}
use Rattle.delta_report.specs.Block.{deltas_text}
use Rattle.delta_report.proofs.block.write_each.Given as goal

-- the lines so far
abbrev pub invariant-loop-i : goal.invariant-loop-i
invariant-loop-i l = l.out.items ≡ l.fn.out.items ++ deltas_text l.number l.patterns (take l.i l.deltas)
