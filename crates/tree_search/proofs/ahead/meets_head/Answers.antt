use Rattle.std.proofs.Common.{refl}
use Rattle.nontree_test.proofs.SentLemmas.{edge_read}
use Rattle.tree_search.proofs.AimLemmas.{aimed_embedding, target_is}
use Rattle.tree_search.proofs.EmbeddingLemmas.{embedding_of}
use Rattle.tree_search.proofs.ahead.meets_head.Goals as goal

pub returns-in-Some-clause-none : goal.returns-in-Some-clause-none
returns-in-Some-clause-none g c = λ fails m j at.
    (let s = c.args.search.now in
    let q = s.pattern.now in
    let graph = g.G.HoldGraph.graph s.graph.now in
    let e = c.edge.result.now in
    c.joins_both.ensures.none fails m (embedding_of q graph m (aimed_embedding q graph s.aim m j)) at
    (target_is q s.aim c.in-Edge.number c.in-Edge.triple c.in-Edge.is e (edge_read q c.in-Edge.number e c.edge.ensures.edge) e.head refl graph m j))
