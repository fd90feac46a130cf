use Rattle.std.proofs.Common.{◌≡◌, Some, ap, sym, ◌∙◌}
use Rattle.std.specs.Prelude.{is_some, nat_eq, option_map}
use Rattle.std.specs.Map.{keys_of, lookup}
use Rattle.std.specs.Map.Iter.{deref_pair}
use Rattle.std.proofs.lemmas.Option.{MatchOption-at_some, slice_get-map}
use Rattle.label_graph.proofs.ReadLemmas.{within_nodes}
use Rattle.label_graph.proofs.StoreLemmas.{has_vertex_of}
use Rattle.label_graph.proofs.store.read.LabelGraphReadGraph.vertex_at.Goals as goal

pub unwrap-requires : goal.unwrap-requires
unwrap-requires g c = c.get_index.ensures.found.1 (within_nodes c.args.self.now.names c.args.self.now.nodes.entries (keys_of c.args.self.now.places.entries) c.args.i c.requires)

pub returns-clause-id : goal.returns-clause-id
returns-clause-id g c =
    slice_get-map (λ e. e.0) c.args.self.now.nodes.entries c.args.i
    ∙ ap (option_map (λ e. e.0)) (sym c.get_index.ensures.entry ∙ ap (option_map deref_pair) c.unwrap.ensures)

pub returns-clause-stands : goal.returns-clause-stands
returns-clause-stands g c =
    has_vertex_of c.args.self.now.names c.args.self.now.nodes.entries (keys_of c.args.self.now.places.entries) c.unwrap.result.0.now
    ∙ ap is_some (MatchOption-at_some _ (λ p. lookup (nat_eq p.0.now) c.args.self.now.nodes.entries ≡ Some p.1.now) c.unwrap.result c.unwrap.ensures c.get_index.ensures.value)
