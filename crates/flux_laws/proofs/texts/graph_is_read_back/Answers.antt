use Rattle.flux_laws.proofs.TextsLemmas.{graph_read_back}
use Rattle.flux_laws.proofs.texts.graph_is_read_back.Goals as goal

pub returns : goal.returns
returns c = graph_read_back
