use Rattle.flux_laws.proofs.SetsLemmas.{label_set_members}
use Rattle.flux_laws.proofs.sets.label_set_has_the_names.Goals as goal

pub returns : goal.returns
returns c = label_set_members
