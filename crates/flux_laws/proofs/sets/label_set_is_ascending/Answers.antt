use Rattle.flux_laws.proofs.SetsLemmas.{label_set_ascending}
use Rattle.flux_laws.proofs.sets.label_set_is_ascending.Goals as goal

pub returns : goal.returns
returns c = label_set_ascending
