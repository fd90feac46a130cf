use Rattle.flux_laws.proofs.PlainLemmas.{plain_lines}
use Rattle.flux_laws.proofs.lines.lines_are_read_back.Goals as goal

pub returns : goal.returns
returns c = plain_lines
