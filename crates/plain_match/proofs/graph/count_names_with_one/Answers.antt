use Rattle.std.proofs.Common.{◌∙◌, [], ◌∷◌, ap, length}
use Rattle.flux_model.specs.Text.{text_cmp}
use Rattle.flux_model.specs.Ordered.{put}
use Rattle.flux_model.specs.Graph.{Graph, names_of}
use Rattle.plain_match.proofs.NamesLemmas.{put_all_parts}
use Rattle.plain_match.proofs.graph.count_names_with_one.Goals as goal

pub returns : goal.returns
returns c =
    let g : Graph = record { vertices = c.args.vertices.now; triples = c.args.triples.now } in
    c.len.ensures ∙ ap length (c.in_ok-add.ensures.ok ∙ ap (put text_cmp c.args.label.now) c.in_ok-names.ensures ∙ put_all_parts [] (names_of g) (c.args.label.now ∷ []))
