use Rattle.flux_laws.proofs.LinesLemmas.{give_back}
use Rattle.flux_laws.proofs.lines.lines_give_back.Goals as goal

pub returns : goal.returns
returns c = give_back
