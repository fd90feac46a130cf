use Rattle.flux_laws.proofs.LinesLemmas.{unique}
use Rattle.flux_laws.proofs.lines.cut_is_unique.Goals as goal

pub returns : goal.returns
returns c = unique
