-- What the words of a line have left to give.
use Rattle.std.specs.Prelude.{ℕ, List}
use Rattle.flux_model.specs.Reading.{words_of}
use Rattle.line_grammar.specs.declared.words.Words.{Words}

-- the words that are still to come
abbrev pub words_left : Words → List (List ℕ)
words_left it = words_of it.rest.now
