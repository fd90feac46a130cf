use Rattle.flux_laws.proofs.WordsLemmas.{no_blank}
use Rattle.flux_laws.proofs.words.no_blank_in_words.Goals as goal

pub returns : goal.returns
returns c = no_blank
