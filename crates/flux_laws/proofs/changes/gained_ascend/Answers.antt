use Rattle.flux_laws.proofs.ChangesLemmas.{gained_up}
use Rattle.flux_laws.proofs.changes.gained_ascend.Goals as goal

pub returns : goal.returns
returns c = gained_up
