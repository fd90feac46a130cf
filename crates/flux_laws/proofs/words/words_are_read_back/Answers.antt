use Rattle.flux_laws.proofs.WordsLemmas.{read_back}
use Rattle.flux_laws.proofs.words.words_are_read_back.Goals as goal

pub returns : goal.returns
returns c = read_back
