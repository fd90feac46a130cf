use Rattle.flux_laws.proofs.ChangesLemmas.{adds_gained}
use Rattle.flux_laws.proofs.changes.insertion_adds_gained.Goals as goal

pub returns : goal.returns
returns c = adds_gained
