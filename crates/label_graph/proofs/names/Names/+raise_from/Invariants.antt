use Rattle.std.proofs.Common.{◌-◌, length}
use Rattle.label_graph.proofs.names.Names.+raise_from.Given as goal

abbrev pub decreases-raise_from : goal.decreases-raise_from
decreases-raise_from l = length l.labels.now - l.i
