use Rattle.flux_laws.proofs.ChangesLemmas.{lost_up}
use Rattle.flux_laws.proofs.changes.lost_ascend.Goals as goal

pub returns : goal.returns
returns c = lost_up
