use Rattle.flux_laws.proofs.WordsLemmas.{in_parts}
use Rattle.flux_laws.proofs.words.words_in_parts.Goals as goal

pub returns : goal.returns
returns c = in_parts
