use Rattle.std.proofs.Common.{sym, ap, ◌∙◌}
use Rattle.flux_model.specs.declared.graph.Triple.{Triple}
use Rattle.flux_model.specs.declared.pattern.PatternPart.TheVariants.{Edge}
use Rattle.line_grammar.specs.Left.{words_left}
use Rattle.line_grammar.specs.Parts.{said_by, triple_of}
use Rattle.line_grammar.proofs.FormLemmas.{map_said, read_edge-map}
use Rattle.line_grammar.proofs.forms.pattern_edge.Goals as goal

pub returns-in-Err : goal.returns-in-Err
returns-in-Err c =
    let edge = λ (t : Triple). Edge t.src t.dst t.label in
    ap (map_said edge) (ap said_by (sym c.in-Err.is) ∙ c.in_ok-triple.ensures) ∙ read_edge-map edge triple_of (words_left c.args.words)
