use Rattle.std.proofs.Common.{◌≡◌, ◌++◌, List, ℕ, take}
use Rattle.std.specs.List.{flat_map}
use Rattle.flux_model.specs.Demo.{counts_line}
use Rattle.flux_demo.specs.Summary.{AreCountsOf}
use Rattle.flux_demo.proofs.summary.write_patterns.Given as goal

-- the lines so far, where the counts are those of a report
abbrev pub invariant-loop-k : goal.invariant-loop-k
invariant-loop-k l =
    (report : List ℕ) → AreCountsOf report l.patterns l.tally → l.out.items ≡ l.fn.out.items ++ flat_map (counts_line report) (take l.k l.patterns)
