-- What a line that is lent is seen as, if there is one.
use Rattle.std.specs.Prelude.{List, [], ◌∷◌, Option, None, Some}
use Rattle.flux_model.specs.Lines.{InputLine}
use Rattle.flux_model.specs.LentLine.{seen_line}
use Rattle.flux_model.specs.declared.line.Line.{Line}

-- the line, if one is lent
abbrev pub one_line : Option Line → List InputLine
one_line None = []
one_line (Some line) = seen_line line ∷ []
