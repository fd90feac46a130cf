use Rattle.std.proofs.Common.{ap}
use Rattle.dcg_updates.specs.Plans.{Plan}
use Rattle.dcg_updates.proofs.ViewLemmas.{members_up}
use Rattle.dcg_updates.proofs.view.JointViewJointRows.up_at.Goals as goal

pub returns-clause-member : goal.returns-clause-member
returns-clause-member b c =
    let s = c.args.self.now in
    members_up s.pattern.now s.tree.now (b.G.HoldGraph.graph s.graph.now) s.triple.now s.change s.next s.sound c.args.u c.requires.inside c.requires.apart
    c.up.result.labels.now c.next.result (ap (λ (p : Plan). p.labels) c.up.ensures.plan) c.next.ensures.fits
