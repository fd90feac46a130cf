use Rattle.std.proofs.lemmas.Grind.{common_steps}
use Rattle.std.proofs.Common.{arith}
use Rattle.flux_outside.proofs.Written.{Written-more}
use Rattle.flux_outside.proofs.retry.write_whole.Goals as goal

pub loop-rest-preserved : goal.loop-rest-preserved
loop-rest-preserved g c =
    Written-more _ _ _ _ _ _ _ c.loop-rest.invariant c.in-Ok.ensures.bytes (grind (arith, common_steps))
