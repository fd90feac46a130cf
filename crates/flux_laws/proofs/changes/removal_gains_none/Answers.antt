use Rattle.flux_laws.proofs.ChangesLemmas.{gains_none}
use Rattle.flux_laws.proofs.changes.removal_gains_none.Goals as goal

pub returns : goal.returns
returns c = gains_none
