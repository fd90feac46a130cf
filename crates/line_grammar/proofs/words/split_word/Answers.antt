use Rattle.line_grammar.proofs.WordsLemmas.{words_of-begin}
use Rattle.line_grammar.proofs.words.split_word.Goals as goal

pub returns : goal.returns
returns c = rw (c.split_at.ensures.front, c.split_at.ensures.back, c.word_len.ensures.len) (words_of-begin c.args.bytes.now c.requires.begins c.requires.some)
