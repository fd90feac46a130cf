use Rattle.std.proofs.Common.{arith}
use Rattle.std.proofs.lemmas.Grind.{common_steps}
use Rattle.flux_outside.proofs.ReadsLemmas.{NoEmptyPut-one}
use Rattle.graph_checkpoint.proofs.top.put_text.Goals as goal

pub returns-in-Ok-clause-puts : goal.returns-in-Ok-clause-puts
returns-in-Ok-clause-puts g c = NoEmptyPut-one _ _ _ c.in-Ok.ensures.asked (grind (arith, common_steps))

pub returns-in-Err-clause-puts : goal.returns-in-Err-clause-puts
returns-in-Err-clause-puts g c = NoEmptyPut-one _ _ _ c.in-Err.ensures.asked (grind (arith, common_steps))
