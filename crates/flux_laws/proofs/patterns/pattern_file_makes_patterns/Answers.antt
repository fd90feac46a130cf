use Rattle.flux_laws.proofs.PatternsLemmas.{makes_patterns}
use Rattle.flux_laws.proofs.patterns.pattern_file_makes_patterns.Goals as goal

pub returns : goal.returns
returns c = makes_patterns
