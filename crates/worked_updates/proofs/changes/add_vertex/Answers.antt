use Rattle.dcg_updates.proofs.CallerLemmas.{vertex_came}
use Rattle.worked_updates.proofs.changes.add_vertex.Goals as goal

pub after_vertex-requires-clause-was : goal.after_vertex-requires-clause-was
after_vertex-requires-clause-was b c =
    let g = b.G.HoldGraph.graph c.args.graph.now in
    let h = b.G.HoldGraph.graph c.add_vertex.new.self in
    let ok = rw c.in_default.is at c.in_ok-code.ensures.ok in
    (g, vertex_came (b.G.HoldGraph.limits c.args.graph.now) g h c.args.id c.args.labels.now c.edge_count-count.ensures.held.graph ok, c.requires.was)
