use Rattle.flux_laws.proofs.GraphsLemmas.{keeps_graph}
use Rattle.flux_laws.proofs.graphs.change_keeps_graph.Goals as goal

pub returns : goal.returns
returns c = keeps_graph
