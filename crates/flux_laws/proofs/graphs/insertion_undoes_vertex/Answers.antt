use Rattle.flux_laws.proofs.ExactLemmas.{redo_vertex}
use Rattle.flux_laws.proofs.graphs.insertion_undoes_vertex.Goals as goal

pub returns : goal.returns
returns c = redo_vertex
