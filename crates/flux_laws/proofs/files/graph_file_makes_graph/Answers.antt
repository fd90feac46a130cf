use Rattle.flux_laws.proofs.FilesLemmas.{makes_graph}
use Rattle.flux_laws.proofs.files.graph_file_makes_graph.Goals as goal

pub returns : goal.returns
returns c = makes_graph
