use Rattle.flux_laws.proofs.GraphsLemmas.{undo_edge}
use Rattle.flux_laws.proofs.graphs.removal_undoes_edge.Goals as goal

pub returns : goal.returns
returns c = undo_edge
