use Rattle.flux_laws.proofs.JointsLemmas.{added_triple_joined}
use Rattle.flux_laws.proofs.joints.added_triple_keeps_joined.Goals as goal

pub returns : goal.returns
returns c = added_triple_joined
