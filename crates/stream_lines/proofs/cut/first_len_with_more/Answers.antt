use Rattle.std.proofs.Common.{take, arith, subst, sym}
use Rattle.std.proofs.lemmas.Grind.{common_steps}
use Rattle.stream_lines.specs.Buffer.{IsFirstLen}
use Rattle.stream_lines.proofs.EndLemmas.{first-found, none-found, first-further}
use Rattle.stream_lines.proofs.cut.first_len_with_more.Goals as goal

pub returns-in_default : goal.returns-in_default
returns-in_default c = subst (IsFirstLen c.args.bytes.now) (sym c.in_default.is)
    (first-further _ c.args.searched _ c.requires.searched (subst (IsFirstLen (take c.args.searched c.args.bytes.now)) c.in_default.is c.requires.first))

pub returns-in-Some : goal.returns-in-Some
returns-in-Some c = first-found _ _ _ _ c.requires.searched (grind (arith, common_steps))
    (subst (IsFirstLen (take c.args.searched c.args.bytes.now)) c.in-None.is c.requires.first) c.in-Some.ensures

pub returns-in-None-first_len : goal.returns-in-None-first_len
returns-in-None-first_len c = none-found _ _ c.args.searched (grind (arith, common_steps))
    (subst (IsFirstLen (take c.args.searched c.args.bytes.now)) c.in-None.is c.requires.first) c.in-None-first_len.ensures
