use Rattle.flux_laws.proofs.VerticesLemmas.{added_nothing}
use Rattle.flux_laws.proofs.vertices.added_vertex_changes_no_embedding.Goals as goal

pub returns : goal.returns
returns c = added_nothing
