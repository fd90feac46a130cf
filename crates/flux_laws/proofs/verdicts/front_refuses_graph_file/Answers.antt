use Rattle.flux_laws.proofs.VerdictsLemmas.{graph_refused}
use Rattle.flux_laws.proofs.verdicts.front_refuses_graph_file.Goals as goal

pub returns : goal.returns
returns c = graph_refused
