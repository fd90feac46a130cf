use Rattle.flux_laws.proofs.MapsLemmas.{are_maps}
use Rattle.flux_laws.proofs.embeddings.embeddings_are_maps.Goals as goal

pub returns : goal.returns
returns c = are_maps
