use Rattle.nontree_test.proofs.SentLemmas.{edge_read}
use Rattle.tree_search.proofs.AimLemmas.{target_is}
use Rattle.tree_search.proofs.aim.target.Goals as goal

pub returns-then-edge-w : goal.returns-then-edge-w
returns-then-edge-w c =
    let q = c.args.pattern.now in
    let i = c.in-Edge.number in
    let e = c.edge.result.now in
    target_is q c.args.aim i c.in-Edge.triple c.in-Edge.is e (edge_read q i e c.edge.ensures.edge) c.args.w c.if-edge-w.true
