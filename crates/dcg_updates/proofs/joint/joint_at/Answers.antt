use Rattle.std.proofs.Common.{sym, ◌∙◌, arith}
use Rattle.dcg_updates.proofs.JointLemmas.{cost_is, joint_none, joint_some, above_fits, below_fits}
use Rattle.dcg_updates.proofs.joint.joint_at.Goals as goal

pub edge-edge-requires : goal.edge-edge-requires
edge-edge-requires b c = (c.requires.belongs.links c.args.u c.unwrap-link.result (sym c.parent.ensures.link ∙ c.unwrap-link.ensures)).edge

pub returns-then-not-ends_fit-clause-joint : goal.returns-then-not-ends_fit-clause-joint
returns-then-not-ends_fit-clause-joint b c =
    joint_none c.args.pattern.now c.args.tree.now c.args.u c.unwrap-link.result c.edge-edge.result.now (sym c.parent.ensures.link ∙ c.unwrap-link.ensures) c.edge-edge.ensures.edge (b.G.HoldGraph.graph c.args.graph.now) c.args.triple.now c.ends_fit.result c.ends_fit.ensures.value c.if-not-ends_fit.true

pub returns-then-not-ends_fit-clause-steps : goal.returns-then-not-ends_fit-clause-steps
returns-then-not-ends_fit-clause-steps b c =
    omega (arith, cost_is c.args.pattern.now c.args.tree.now c.args.u c.unwrap-link.result c.edge-edge.result.now (sym c.parent.ensures.link ∙ c.unwrap-link.ensures) c.edge-edge.ensures.edge c.args.triple.now, c.ends_fit.ensures.steps)

pub returns-clause-joint : goal.returns-clause-joint
returns-clause-joint b c =
    joint_some c.args.pattern.now c.args.tree.now c.args.u c.unwrap-link.result c.edge-edge.result.now (sym c.parent.ensures.link ∙ c.unwrap-link.ensures) c.edge-edge.ensures.edge (b.G.HoldGraph.graph c.args.graph.now) c.args.triple.now c.ends_fit.result c.joint_along.result.0 c.joint_along.result.1
    c.ends_fit.ensures.value c.if-not-ends_fit.false c.joint_along.ensures.above c.joint_along.ensures.below

pub returns-clause-above_fits : goal.returns-clause-above_fits
returns-clause-above_fits b c =
    above_fits c.args.pattern.now c.args.tree.now c.args.u c.unwrap-link.result c.edge-edge.result.now (sym c.parent.ensures.link ∙ c.unwrap-link.ensures) c.edge-edge.ensures.edge c.requires.belongs (b.G.HoldGraph.graph c.args.graph.now) c.args.triple.now c.ends_fit.result c.ends_fit.ensures.value c.if-not-ends_fit.false
    c.joint_along.result.0 c.joint_along.ensures.above

pub returns-clause-below_fits : goal.returns-clause-below_fits
returns-clause-below_fits b c =
    below_fits c.args.pattern.now c.args.tree.now c.args.u c.unwrap-link.result c.edge-edge.result.now (sym c.parent.ensures.link ∙ c.unwrap-link.ensures) c.edge-edge.ensures.edge c.requires.belongs (b.G.HoldGraph.graph c.args.graph.now) c.args.triple.now c.ends_fit.result c.ends_fit.ensures.value c.if-not-ends_fit.false
    c.joint_along.result.1 c.joint_along.ensures.below

pub returns-clause-steps : goal.returns-clause-steps
returns-clause-steps b c =
    omega (arith, cost_is c.args.pattern.now c.args.tree.now c.args.u c.unwrap-link.result c.edge-edge.result.now (sym c.parent.ensures.link ∙ c.unwrap-link.ensures) c.edge-edge.ensures.edge c.args.triple.now, c.ends_fit.ensures.steps)
