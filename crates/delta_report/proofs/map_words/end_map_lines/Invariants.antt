use Rattle.std.proofs.Common.{◌≡◌, ◌++◌, ◌≤◌, List, ℕ, take, drop, flat_map}
use Rattle.delta_report.specs.MapWords.{line_from}
use Rattle.delta_report.proofs.map_words.end_map_lines.Given as goal

-- the lines so far, behind the front of the first
abbrev pub invariant-loop-i : goal.invariant-loop-i
invariant-loop-i l = record {
  one : 1 ≤ l.i;
  text : l.out.items ≡ take l.from l.fn.out.items ++ flat_map (line_from (drop l.from l.fn.out.items)) (take l.i l.maps);
  rest : List ℕ;
  stays : l.out.items ≡ l.fn.out.items ++ rest;
}
