use Rattle.std.proofs.Common.{refl, ◌∙◌}
use Rattle.stream_lines.proofs.KeptLemmas.{Follows-push}
use Rattle.stream_lines.proofs.lines.Lines.push.Goals as goal

pub returns-clause-lines : goal.returns-clause-lines
returns-clause-lines c = Follows-push _ _ _ _ _ _ _ _ _ c.self.invariant.start c.in_ok-extend_from_slice.ensures.items refl (c.self.view_is ∙ c.drop_passed.ensures)
    (c.worth_keeping-open_len.ensures.stands _ c.self.invariant.open_len)
