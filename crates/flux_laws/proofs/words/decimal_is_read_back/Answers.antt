use Rattle.flux_laws.proofs.WordsLemmas.{decimal_read_back}
use Rattle.flux_laws.proofs.words.decimal_is_read_back.Goals as goal

pub returns : goal.returns
returns c = decimal_read_back
