use Rattle.flux_laws.proofs.ConnectedLemmas.{by_chains}
use Rattle.flux_laws.proofs.patterns.connected_by_chains.Goals as goal

pub returns : goal.returns
returns c = by_chains
