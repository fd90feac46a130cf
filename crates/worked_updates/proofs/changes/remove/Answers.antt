use Rattle.dcg_updates.proofs.CallerLemmas.{taken, was_taken}
use Rattle.worked_updates.proofs.changes.remove.Goals as goal

pub after_delete-requires-clause-ends : goal.after_delete-requires-clause-ends
after_delete-requires-clause-ends b c =
    let g = b.G.HoldGraph.graph c.args.graph.now in
    let h = b.G.HoldGraph.graph c.remove.new.self in
    (taken (b.G.HoldGraph.limits c.args.graph.now) g h c.args.triple.now c.edge_count-count.ensures.held.graph c.in_ok-remove.ensures.ok).ends

pub after_delete-requires-clause-gone : goal.after_delete-requires-clause-gone
after_delete-requires-clause-gone b c =
    let g = b.G.HoldGraph.graph c.args.graph.now in
    let h = b.G.HoldGraph.graph c.remove.new.self in
    (taken (b.G.HoldGraph.limits c.args.graph.now) g h c.args.triple.now c.edge_count-count.ensures.held.graph c.in_ok-remove.ensures.ok).gone

pub after_delete-requires-clause-was : goal.after_delete-requires-clause-was
after_delete-requires-clause-was b c =
    let g = b.G.HoldGraph.graph c.args.graph.now in
    let h = b.G.HoldGraph.graph c.remove.new.self in
    let e = c.args.triple.now in
    was_taken c.args.pattern.now c.args.tree.now g h e c.args.dcg.now (taken (b.G.HoldGraph.limits c.args.graph.now) g h e c.edge_count-count.ensures.held.graph c.in_ok-remove.ensures.ok) c.requires.was
