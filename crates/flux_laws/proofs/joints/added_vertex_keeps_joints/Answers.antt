use Rattle.flux_laws.proofs.JointsLemmas.{added_vertex_joints}
use Rattle.flux_laws.proofs.joints.added_vertex_keeps_joints.Goals as goal

pub returns : goal.returns
returns c = added_vertex_joints
