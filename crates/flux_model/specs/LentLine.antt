-- What contracts see of a line that is lent.
use Rattle.flux_model.specs.Lines.{InputLine, held, long}
use Rattle.flux_model.specs.declared.line.Line.{Line}
use Rattle.flux_model.specs.declared.line.Line.TheVariants.{Held, Long}

abbrev pub seen_line : Line → InputLine
seen_line (Held bytes) = held bytes.now
seen_line Long = long
