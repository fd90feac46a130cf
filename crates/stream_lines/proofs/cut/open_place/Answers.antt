use Rattle.stream_lines.proofs.EndLemmas.{IsOpenPlace-last, IsOpenPlace-none}
use Rattle.stream_lines.proofs.cut.open_place.Goals as goal

pub returns-in-Some : goal.returns-in-Some
returns-in-Some c = IsOpenPlace-last _ _ _ c.in-Some.ensures.0.after c.in-Some.ensures.0.high c.in-Some.ensures.1

pub returns-in-None : goal.returns-in-None
returns-in-None c = IsOpenPlace-none _ _ c.in-None.ensures
