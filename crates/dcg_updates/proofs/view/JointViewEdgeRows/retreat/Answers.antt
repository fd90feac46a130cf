use Rattle.dcg_updates.proofs.DoneLemmas.{done_less, fresh_less}
use Rattle.dcg_updates.proofs.view.JointViewEdgeRows.retreat.Goals as goal

pub returns-clause-done : goal.returns-clause-done
returns-clause-done b c =
    let s = c.args.self.now in
    done_less s.tree.now s.next c.args.u c.requires.lower.inside c.requires.lower.apart s.change c.requires.ahead (λ z inside apart low. c.requires.behind z (record { inside = inside; apart = apart }) low)

pub returns-clause-fresh : goal.returns-clause-fresh
returns-clause-fresh b c =
    let s = c.args.self.now in
    fresh_less s.tree.now s.next c.args.u c.requires.lower.inside c.requires.lower.apart s.change c.requires.ahead
