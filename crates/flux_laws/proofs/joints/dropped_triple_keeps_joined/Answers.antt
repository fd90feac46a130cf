use Rattle.flux_laws.proofs.JointsLemmas.{dropped_triple_joined}
use Rattle.flux_laws.proofs.joints.dropped_triple_keeps_joined.Goals as goal

pub returns : goal.returns
returns c = dropped_triple_joined
