use Rattle.std.proofs.lemmas.List.{take_rest}
use Rattle.line_grammar.proofs.WordsLemmas.{words_of-skip, prefix_len-skip}
use Rattle.line_grammar.proofs.words.skip_blanks.Goals as goal

pub returns : goal.returns
returns c = record {
  words = rw (take_rest, c.blank_len.ensures.len) (words_of-skip c.args.bytes.now);
  begins = rw (take_rest, c.blank_len.ensures.len) (prefix_len-skip c.args.bytes.now);
}
