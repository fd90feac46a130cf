use Rattle.flux_laws.proofs.GraphsLemmas.{keeps_limits}
use Rattle.flux_laws.proofs.graphs.change_keeps_limits.Goals as goal

pub returns : goal.returns
returns c = keeps_limits
