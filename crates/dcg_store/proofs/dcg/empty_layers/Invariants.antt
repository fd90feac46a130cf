use Rattle.std.proofs.Common.{◌≡◌, replicate}
use Rattle.std.specs.FinMap.{empty}
use Rattle.dcg_store.proofs.dcg.empty_layers.Given as goal

abbrev pub invariant-loop : goal.invariant-loop
invariant-loop l = l.layers.items ≡ replicate l.counter empty
