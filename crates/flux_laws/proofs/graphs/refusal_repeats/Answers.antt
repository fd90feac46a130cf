use Rattle.flux_laws.proofs.GraphsLemmas.{repeats}
use Rattle.flux_laws.proofs.graphs.refusal_repeats.Goals as goal

pub returns : goal.returns
returns c = repeats
