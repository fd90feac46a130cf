use Rattle.flux_laws.proofs.ExactLemmas.{exact}
use Rattle.flux_laws.proofs.graphs.change_is_exact.Goals as goal

pub returns : goal.returns
returns c = exact
