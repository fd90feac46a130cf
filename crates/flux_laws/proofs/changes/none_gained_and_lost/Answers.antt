use Rattle.flux_laws.proofs.ChangesLemmas.{not_both}
use Rattle.flux_laws.proofs.changes.none_gained_and_lost.Goals as goal

pub returns : goal.returns
returns c = not_both
