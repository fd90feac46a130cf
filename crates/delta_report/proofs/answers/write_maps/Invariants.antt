use Rattle.std.proofs.Common.{◌≡◌, ◌++◌, take}
use Rattle.std.specs.List.{flat_map}
use Rattle.delta_report.specs.Answers.{answer_line}
use Rattle.delta_report.proofs.answers.write_maps.Given as goal

-- the lines so far
abbrev pub invariant-loop-i : goal.invariant-loop-i
invariant-loop-i l = l.out.items ≡ l.fn.out.items ++ flat_map (answer_line l.name) (take l.i l.maps)
