use Rattle.std.proofs.Common.{◌≡◌, ◌++◌, take}
use Rattle.delta_report.specs.MapWords.{spaced_ids}
use Rattle.delta_report.proofs.map_words.write_ids.Given as goal

-- the ids so far
abbrev pub invariant-loop-i : goal.invariant-loop-i
invariant-loop-i l = l.out.items ≡ l.fn.out.items ++ spaced_ids (take l.i l.map)
