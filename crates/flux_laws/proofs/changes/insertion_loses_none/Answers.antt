use Rattle.flux_laws.proofs.ChangesLemmas.{loses_none}
use Rattle.flux_laws.proofs.changes.insertion_loses_none.Goals as goal

pub returns : goal.returns
returns c = loses_none
