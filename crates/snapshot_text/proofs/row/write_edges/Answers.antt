use Rattle.std.proofs.Common.{map}
use Rattle.flux_model.specs.GraphText.{triple_line}
use Rattle.snapshot_text.specs.Row.{edge_triple}
use Rattle.flux_model.proofs.GrownLemmas.{on_err, flat_map_next, grew_at}
use Rattle.snapshot_text.proofs.RowLemmas.{triple_at}
use Rattle.snapshot_text.proofs.row.write_edges.Goals as goal

pub returns-in_err-write_edge-clause-err : goal.returns-in_err-write_edge-clause-err
returns-in_err-write_edge-clause-err c =
    on_err _ (grew_at triple_line _ _ _ (map (edge_triple c.args.src) c.args.edges.now) c.loop-edge.edge-index _
    (triple_at c.args.src c.args.edges.now c.loop-edge.edge-index c.edge-item.result c.loop-edge-test.true c.edge-item.is)
    c.loop-edge.invariant c.in_err-write_edge.ensures.err)

pub loop-edge-preserved : goal.loop-edge-preserved
loop-edge-preserved c =
    flat_map_next triple_line _ _ _ (map (edge_triple c.args.src) c.args.edges.now) c.loop-edge.edge-index _
    (triple_at c.args.src c.args.edges.now c.loop-edge.edge-index c.edge-item.result c.loop-edge-test.true c.edge-item.is)
    c.loop-edge.invariant c.in_ok-write_edge.ensures.ok
