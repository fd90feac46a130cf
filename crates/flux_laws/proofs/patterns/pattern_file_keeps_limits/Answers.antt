use Rattle.flux_laws.proofs.PatternsLemmas.{within_limits}
use Rattle.flux_laws.proofs.patterns.pattern_file_keeps_limits.Goals as goal

pub returns : goal.returns
returns c = within_limits
