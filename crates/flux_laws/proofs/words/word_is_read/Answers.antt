use Rattle.flux_laws.proofs.WordsLemmas.{word_read}
use Rattle.flux_laws.proofs.words.word_is_read.Goals as goal

pub returns : goal.returns
returns c = word_read
