use Rattle.std.proofs.Common.{◌≡◌, length}
use Rattle.nontree_test.specs.Numbered.{AreNumbered}
use Rattle.nontree_test.proofs.numbers.label_numbers.Given as goal

-- the edges so far have their numbers
abbrev pub invariant-loop-i : goal.invariant-loop-i
invariant-loop-i g l =
    record {
      sized : length l.numbers ≡ 64;
      each : AreNumbered (g.G.HoldGraph.label_text l.graph) (g.G.HoldGraph.graph l.graph) l.pattern l.i l.numbers;
    }
