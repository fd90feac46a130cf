use Rattle.std.proofs.Common.{sym, slice_index, length}
use Rattle.flux_model.specs.Tree.{crosses, edge_at}
use Rattle.query_tree.proofs.LeastLemmas.{least_passes}
use Rattle.query_tree.proofs.growth.Growth.grow.Goals as goal

pub hang-requires-clause-edge : goal.hang-requires-clause-edge
hang-requires-clause-edge c =
    let q = c.args.pattern.now in
    let t = c.args.self.now in
    (least_passes (slice_index c.args.cards.now) (λ i. crosses t (edge_at q i)) (length q.edges) c.in-Some.i (sym c.in-Some.ensures)).0
