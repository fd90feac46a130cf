use Rattle.line_grammar.specs.Left.{words_left}
use Rattle.line_grammar.proofs.LabelLemmas.{AreTaken}
use Rattle.line_grammar.proofs.labels.labels.Given as goal

abbrev pub invariant-loop-word : goal.invariant-loop-word
invariant-loop-word l = AreTaken l.labels (words_left l.word-iterator) (words_left l.words)
