use Rattle.std.proofs.Common.{map, sym, ◌∙◌}
use Rattle.std.specs.Map.{keys_of}
use Rattle.std.proofs.lemmas.Map.Entries.{length-keys_of}
use Rattle.label_graph.specs.Places.{vertex_of}
use Rattle.label_graph.proofs.FullLemmas.{triple_count}
use Rattle.label_graph.proofs.store.hold.LabelGraphHoldGraph.edge_count.Goals as goal

pub returns-clause-count : goal.returns-clause-count
returns-clause-count c =
    c.len.ensures.len
    ∙ (sym (length-keys_of c.args.self.now.places.entries)
    ∙ sym (triple_count c.args.self.now.names (map vertex_of c.args.self.now.nodes.entries) (keys_of c.args.self.now.places.entries) c.args.self.now.named c.len-names.ensures.table c.len.ensures.unique))
