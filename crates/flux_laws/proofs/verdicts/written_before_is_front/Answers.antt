use Rattle.flux_laws.proofs.VerdictsLemmas.{written}
use Rattle.flux_laws.proofs.verdicts.written_before_is_front.Goals as goal

pub returns : goal.returns
returns c = written
