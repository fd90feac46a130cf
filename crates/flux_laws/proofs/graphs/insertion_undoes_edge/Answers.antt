use Rattle.flux_laws.proofs.GraphsLemmas.{redo_edge}
use Rattle.flux_laws.proofs.graphs.insertion_undoes_edge.Goals as goal

pub returns : goal.returns
returns c = redo_edge
