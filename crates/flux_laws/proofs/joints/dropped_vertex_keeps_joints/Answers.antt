use Rattle.flux_laws.proofs.JointsLemmas.{dropped_vertex_joints}
use Rattle.flux_laws.proofs.joints.dropped_vertex_keeps_joints.Goals as goal

pub returns : goal.returns
returns c = dropped_vertex_joints
