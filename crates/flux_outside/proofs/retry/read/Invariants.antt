use Rattle.std.specs.Io.KnownBytes.{Keeps}
use Rattle.flux_outside.proofs.retry.read.Given as goal

-- the calls that were interrupted left the known bytes as they were
abbrev pub invariant-loop : goal.invariant-loop
invariant-loop g l = Keeps (g.R.Read.remaining l.fn.reader) (g.R.Read.remaining l.reader)
