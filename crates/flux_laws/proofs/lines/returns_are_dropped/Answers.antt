use Rattle.flux_laws.proofs.PlainLemmas.{returns_dropped}
use Rattle.flux_laws.proofs.lines.returns_are_dropped.Goals as goal

pub returns : goal.returns
returns c = returns_dropped
