use Rattle.std.proofs.Common.{length, arith}
use Rattle.dcg_transition.proofs.StepLemmas.{build_paid}
use Rattle.dcg_transition.proofs.rows.build_from.Goals as goal

pub returns-clause-steps : goal.returns-clause-steps
returns-clause-steps g c =
    build_paid (g.G.HoldGraph.graph c.args.graph.now) c.args.pattern.now (length c.args.tree.now.links) c.args.steps.now c.reach.new.steps c.extend.new.steps
    c.requires.belongs.vertices (omega (arith, c.requires.belongs.tree.root)) c.in_ok-reach.ensures.steps c.in_ok-extend.ensures.steps
