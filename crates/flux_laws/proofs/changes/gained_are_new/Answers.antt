use Rattle.flux_laws.proofs.ChangesLemmas.{are_new}
use Rattle.flux_laws.proofs.changes.gained_are_new.Goals as goal

pub returns : goal.returns
returns c = are_new
