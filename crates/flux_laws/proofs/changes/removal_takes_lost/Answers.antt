use Rattle.flux_laws.proofs.ChangesLemmas.{takes_lost}
use Rattle.flux_laws.proofs.changes.removal_takes_lost.Goals as goal

pub returns : goal.returns
returns c = takes_lost
