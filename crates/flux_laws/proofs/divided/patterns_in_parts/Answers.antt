use Rattle.flux_laws.proofs.MergedLemmas.{patterns_merged}
use Rattle.flux_laws.proofs.divided.patterns_in_parts.Goals as goal

pub returns : goal.returns
returns c = patterns_merged
