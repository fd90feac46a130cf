use Rattle.flux_laws.proofs.VerdictsLemmas.{saved_the_same}
use Rattle.flux_laws.proofs.verdicts.saved_graph_writes_the_same.Goals as goal

pub returns : goal.returns
returns c = saved_the_same
