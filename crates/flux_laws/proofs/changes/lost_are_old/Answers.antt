use Rattle.flux_laws.proofs.ChangesLemmas.{are_old}
use Rattle.flux_laws.proofs.changes.lost_are_old.Goals as goal

pub returns : goal.returns
returns c = are_old
