use Rattle.dcg_updates.proofs.CallerLemmas.{added, was_added}
use Rattle.worked_updates.proofs.changes.insert.Goals as goal

pub after_insert-requires-clause-ends : goal.after_insert-requires-clause-ends
after_insert-requires-clause-ends b c =
    let ok = rw c.in_default.is at c.in_ok-code.ensures.ok in
    (added (b.G.HoldGraph.limits c.args.graph.now) (b.G.HoldGraph.graph c.args.graph.now) (b.G.HoldGraph.graph c.insert.new.self) c.args.triple.now ok).ends

pub after_insert-requires-clause-stands : goal.after_insert-requires-clause-stands
after_insert-requires-clause-stands b c =
    let ok = rw c.in_default.is at c.in_ok-code.ensures.ok in
    (added (b.G.HoldGraph.limits c.args.graph.now) (b.G.HoldGraph.graph c.args.graph.now) (b.G.HoldGraph.graph c.insert.new.self) c.args.triple.now ok).stands

pub after_insert-requires-clause-was : goal.after_insert-requires-clause-was
after_insert-requires-clause-was b c =
    let g = b.G.HoldGraph.graph c.args.graph.now in
    let h = b.G.HoldGraph.graph c.insert.new.self in
    let e = c.args.triple.now in
    let ok = rw c.in_default.is at c.in_ok-code.ensures.ok in
    was_added c.args.pattern.now c.args.tree.now g h e c.args.dcg.now (added (b.G.HoldGraph.limits c.args.graph.now) g h e ok) c.requires.was
