use Rattle.std.specs.Prelude.{ℕ, List, Option, None, Some}
use Rattle.memchr.specs.Find.{IsFirstByte, is_byte}
use Rattle.stream_lines.specs.Buffer.{IsFirstLen}
use Rattle.stream_lines.proofs.EndLemmas.{parts-nowhere, parts-first}
use Rattle.stream_lines.proofs.cut.first_len.Goals as goal

first-by : (bs : List ℕ) (r : Option ℕ) → IsFirstByte (is_byte 10) bs r → IsFirstLen bs r
first-by bs None h = parts-nowhere bs h
first-by bs (Some n) h = (h.0.high, parts-first bs n h.0.before h.0.high h.1)

pub returns : goal.returns
returns c = first-by _ _ c.memchr.ensures
