use Rattle.flux_laws.proofs.ReportsLemmas.{in_parts}
use Rattle.flux_laws.proofs.reports.blocks_in_parts.Goals as goal

pub returns : goal.returns
returns c = in_parts
