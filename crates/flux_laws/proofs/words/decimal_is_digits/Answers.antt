use Rattle.flux_laws.proofs.WordsLemmas.{decimal_digits}
use Rattle.flux_laws.proofs.words.decimal_is_digits.Goals as goal

pub returns : goal.returns
returns c = decimal_digits
