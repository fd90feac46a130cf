use Rattle.std.proofs.Common.{◌∙◌, sym}
use Rattle.line_grammar.proofs.LabelLemmas.{AreTaken-more}
use Rattle.line_grammar.proofs.labels.labels.Goals as goal

pub loop-word-preserved : goal.loop-word-preserved
loop-word-preserved c = AreTaken-more c.loop-word.invariant c.in-Some.ensures.steps (sym c.in-Some-2.is ∙ c.in_ok-label.ensures) c.in_ok-add.ensures.ok
