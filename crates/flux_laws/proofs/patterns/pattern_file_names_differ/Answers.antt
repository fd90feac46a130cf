use Rattle.flux_laws.proofs.PatternsLemmas.{names_differ}
use Rattle.flux_laws.proofs.patterns.pattern_file_names_differ.Goals as goal

pub returns : goal.returns
returns c = names_differ
