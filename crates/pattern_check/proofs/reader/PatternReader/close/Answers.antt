use Rattle.pattern_check.proofs.NameLemmas.{complete_names}
use Rattle.pattern_check.proofs.reader.PatternReader.close.Goals as goal

pub invariant_of-self-in_err-push-in-Ok : goal.invariant_of-self-in_err-push-in-Ok
invariant_of-self-in_err-push-in-Ok c =
    (c.self.invariant.0, rw (c.in_err-push-in-Ok.ensures.items, c.take.ensures.after) (complete_names c.self.inside.complete.items c.self.inside.last c.self.invariant.1))

pub invariant_of-self-in-Err : goal.invariant_of-self-in-Err
invariant_of-self-in-Err c =
    (c.self.invariant.0, rw c.take.ensures.after (complete_names c.self.inside.complete.items c.self.inside.last c.self.invariant.1))
