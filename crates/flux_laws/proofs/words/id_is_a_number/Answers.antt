use Rattle.flux_laws.proofs.WordsLemmas.{id_number}
use Rattle.flux_laws.proofs.words.id_is_a_number.Goals as goal

pub returns : goal.returns
returns c = id_number
