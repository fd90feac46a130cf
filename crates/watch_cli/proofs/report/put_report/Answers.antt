use Rattle.std.proofs.Common.{arith}
use Rattle.std.proofs.lemmas.Grind.{common_steps}
use Rattle.flux_outside.proofs.ReadsLemmas.{NoEmptyPut-none, NoEmptyPut-one}
use Rattle.watch_cli.proofs.report.put_report.Goals as goal

pub returns-then-is_empty-clause-puts : goal.returns-then-is_empty-clause-puts
returns-then-is_empty-clause-puts g c = NoEmptyPut-none _

pub returns-in-Ok-clause-puts : goal.returns-in-Ok-clause-puts
returns-in-Ok-clause-puts g c = NoEmptyPut-one _ _ _ c.in-Ok.ensures.asked (grind (arith, common_steps))

pub returns-in-Err-clause-puts : goal.returns-in-Err-clause-puts
returns-in-Err-clause-puts g c = NoEmptyPut-one _ _ _ c.in-Err.ensures.asked (grind (arith, common_steps))
