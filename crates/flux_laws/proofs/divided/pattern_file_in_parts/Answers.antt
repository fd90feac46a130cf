use Rattle.flux_laws.proofs.FilePartLemmas.{file_in_parts}
use Rattle.flux_laws.proofs.divided.pattern_file_in_parts.Goals as goal

pub returns : goal.returns
returns c = file_in_parts
