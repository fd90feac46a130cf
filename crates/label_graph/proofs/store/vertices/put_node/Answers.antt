use Rattle.std.proofs.Common.{◌∙◌}
use Rattle.std.specs.Prelude.{nat_eq}
use Rattle.indexmap.proofs.CallerLemmas.{insert_entry-new}
use Rattle.label_graph.proofs.store.vertices.put_node.Goals as goal

pub returns-clause-entries : goal.returns-clause-entries
returns-clause-entries g c = c.in-Ok.ensures.entries ∙ insert_entry-new nat_eq c.args.nodes.now c.args.id c.args.node c.requires.new
