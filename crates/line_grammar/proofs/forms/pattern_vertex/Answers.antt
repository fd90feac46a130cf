use Rattle.std.proofs.Common.{sym, ap, ◌∙◌}
use Rattle.flux_model.specs.declared.graph.Vertex.{Vertex}
use Rattle.flux_model.specs.declared.pattern.PatternPart.TheVariants as part
use Rattle.line_grammar.specs.Left.{words_left}
use Rattle.line_grammar.specs.Parts.{said_by, vertex_of}
use Rattle.line_grammar.proofs.FormLemmas.{map_said, read_vertex-map}
use Rattle.line_grammar.proofs.forms.pattern_vertex.Goals as goal

pub returns-in-Err : goal.returns-in-Err
returns-in-Err c =
    let made = λ (v : Vertex). part.Vertex v.id v.labels in
    ap (map_said made) (ap said_by (sym c.in-Err.is) ∙ c.in_ok-vertex.ensures) ∙ read_vertex-map made vertex_of (words_left c.args.words)
