use Rattle.std.proofs.Common.{sym, ◌∙◌}
use Rattle.std.specs.Map.{keys_of}
use Rattle.label_graph.proofs.StoreLemmas.{has_vertex_of}
use Rattle.label_graph.proofs.store.LabelGraph.index.Goals as goal

pub unwrap-requires : goal.unwrap-requires
unwrap-requires c =
    sym c.index_of.ensures.stands ∙ (sym (has_vertex_of c.args.self.now.names c.args.self.now.nodes.entries (keys_of c.args.self.now.places.entries) c.args.v) ∙ c.requires)
