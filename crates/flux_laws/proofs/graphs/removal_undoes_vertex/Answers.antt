use Rattle.flux_laws.proofs.GraphsLemmas.{undo_vertex}
use Rattle.flux_laws.proofs.graphs.removal_undoes_vertex.Goals as goal

pub returns : goal.returns
returns c = undo_vertex
