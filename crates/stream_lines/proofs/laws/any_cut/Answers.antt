use Rattle.stream_lines.proofs.CutsLemmas.{any}
use Rattle.stream_lines.proofs.laws.any_cut.Goals as goal

pub returns : goal.returns
returns c = any
