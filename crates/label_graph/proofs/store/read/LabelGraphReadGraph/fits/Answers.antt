use Rattle.std.proofs.Common.{sym, ◌∙◌}
use Rattle.std.specs.Map.{keys_of}
use Rattle.label_graph.proofs.ReadLemmas.{fits_found}
use Rattle.label_graph.proofs.store.read.LabelGraphReadGraph.fits.Goals as goal

pub returns-clause-value : goal.returns-clause-value
returns-clause-value g c = c.within.ensures ∙ sym (fits_found c.args.self.now.names c.args.self.now.nodes.entries (keys_of c.args.self.now.places.entries) c.args.self.now.named c.args.v c.node.result.now c.args.labels.now c.node.ensures)
