use Rattle.std.proofs.Common.{◌==◌, not, rules}
use Rattle.std.proofs.lemmas.Fn.{filter_same}
use Rattle.flux_model.specs.declared.graph.Vertex.{Vertex}
use Rattle.plain_match.proofs.graph.remove_vertex.Goals as goal

pub returns : goal.returns
returns c = filter_same _ (λ (v : Vertex). not (v.id == c.args.id)) _ (λ v b f' k. search rules) _ _ c.retain.ensures.filtered
