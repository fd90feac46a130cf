use Rattle.std.proofs.lemmas.Grind.{common_steps}
use Rattle.std.proofs.Common.{arith}
use Rattle.flux_model.specs.Generated.{generated}
use Rattle.flux_gen.proofs.files.make.Goals as goal

pub returns : goal.returns
unfolding generated
returns c = grind (arith, common_steps)
