use Rattle.dcg_updates.proofs.CallerLemmas.{vertex_went}
use Rattle.worked_updates.proofs.changes.remove_vertex.Goals as goal

pub after_vertex-requires-clause-was : goal.after_vertex-requires-clause-was
after_vertex-requires-clause-was b c =
    let g = b.G.HoldGraph.graph c.args.graph.now in
    let h = b.G.HoldGraph.graph c.remove_vertex.new.self in
    (g, vertex_went (b.G.HoldGraph.limits c.args.graph.now) g h c.args.id c.in_default.ensures.ok, c.requires.was)
