use Rattle.flux_laws.proofs.LinesLemmas.{no_end}
use Rattle.flux_laws.proofs.lines.no_line_has_an_end.Goals as goal

pub returns : goal.returns
returns c = no_end
