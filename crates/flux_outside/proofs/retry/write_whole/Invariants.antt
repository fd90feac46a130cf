use Rattle.std.proofs.Common.{length}
use Rattle.flux_outside.proofs.Written.{Written}
use Rattle.flux_outside.proofs.retry.write_whole.Given as goal

-- what stands before the rest was written
abbrev pub invariant-loop-rest : goal.invariant-loop-rest
invariant-loop-rest g l = Written (g.W.Write.contents l.fn.writer) (g.W.Write.contents l.writer) l.piece l.rest

abbrev pub decreases-loop-rest : goal.decreases-loop-rest
decreases-loop-rest g l = length l.rest
