use Rattle.std.proofs.Common.{arith}
use Rattle.line_grammar.proofs.WordsLemmas.{length-words_of}
use Rattle.line_grammar.proofs.words.Words.new.Goals as goal

pub invariant_of-result : goal.invariant_of-result
invariant_of-result c = record { fits = omega (arith, length-words_of c.args.line.now) }
