use Rattle.flux_laws.proofs.EmbeddingsLemmas.{are_all}
use Rattle.flux_laws.proofs.embeddings.embeddings_are_all.Goals as goal

pub returns : goal.returns
returns c = are_all
