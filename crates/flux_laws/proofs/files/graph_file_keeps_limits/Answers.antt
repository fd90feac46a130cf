use Rattle.flux_laws.proofs.FilesLemmas.{within_limits}
use Rattle.flux_laws.proofs.files.graph_file_keeps_limits.Goals as goal

pub returns : goal.returns
returns c = within_limits
