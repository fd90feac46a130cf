use Rattle.std.specs.Io.KnownBytes.{Keeps}
use Rattle.flux_outside.proofs.retry.flush.Given as goal

-- the calls that were interrupted left the known bytes as they were
abbrev pub invariant-loop : goal.invariant-loop
invariant-loop g l = Keeps (g.W.Write.contents l.fn.writer) (g.W.Write.contents l.writer)
