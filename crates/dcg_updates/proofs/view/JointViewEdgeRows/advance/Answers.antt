use Rattle.std.proofs.Common.{ap}
use Rattle.dcg_moves.specs.Update.{view}
use Rattle.dcg_updates.specs.Changed.{update_of}
use Rattle.dcg_updates.proofs.DoneLemmas.{done_more}
use Rattle.dcg_updates.proofs.view.JointViewEdgeRows.advance.Goals as goal

pub returns-clause-seen : goal.returns-clause-seen
returns-clause-seen b c =
    let s = c.args.self.now in
    ap (view (update_of s.pattern.now s.tree.now (b.G.HoldGraph.graph s.graph.now) s.triple.now s.change))
    (done_more s.tree.now s.next c.args.u c.requires.lower.inside c.requires.lower.apart s.change c.requires.ahead (λ z inside apart low. c.requires.behind z (record { inside = inside; apart = apart }) low))

pub returns-clause-done : goal.returns-clause-done
returns-clause-done b c =
    let s = c.args.self.now in
    done_more s.tree.now s.next c.args.u c.requires.lower.inside c.requires.lower.apart s.change c.requires.ahead (λ z inside apart low. c.requires.behind z (record { inside = inside; apart = apart }) low)
