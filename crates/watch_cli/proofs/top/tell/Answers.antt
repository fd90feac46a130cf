use Rattle.std.proofs.Common.{arith}
use Rattle.std.proofs.lemmas.Grind.{common_steps}
use Rattle.flux_outside.proofs.ReadsLemmas.{NoEmptyPut-one}
use Rattle.watch_cli.proofs.top.tell.Goals as goal

pub returns-then-not-is_empty-clause-puts : goal.returns-then-not-is_empty-clause-puts
returns-then-not-is_empty-clause-puts g c = NoEmptyPut-one _ _ _ c.put.ensures.asked (grind (arith, common_steps))
