use Rattle.flux_laws.proofs.VerdictsLemmas.{patterns_refused}
use Rattle.flux_laws.proofs.verdicts.front_refuses_pattern_file.Goals as goal

pub returns : goal.returns
returns c = patterns_refused
