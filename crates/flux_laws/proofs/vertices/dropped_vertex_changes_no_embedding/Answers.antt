use Rattle.flux_laws.proofs.VerticesLemmas.{dropped_nothing}
use Rattle.flux_laws.proofs.vertices.dropped_vertex_changes_no_embedding.Goals as goal

pub returns : goal.returns
returns c = dropped_nothing
