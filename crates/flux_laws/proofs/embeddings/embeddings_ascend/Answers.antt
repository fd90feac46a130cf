use Rattle.flux_laws.proofs.EmbeddingsLemmas.{ascend}
use Rattle.flux_laws.proofs.embeddings.embeddings_ascend.Goals as goal

pub returns : goal.returns
returns c = ascend
