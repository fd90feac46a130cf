use Rattle.std.proofs.Common.{List, ℕ}
use Rattle.std.specs.List.{flat_map}
use Rattle.flux_model.specs.GraphText.{triple_line}
use Rattle.flux_model.specs.Generated.{after_triple, triples_from}
use Rattle.flux_gen.proofs.DrawsLemmas.{triple_written, triple_kept, step_taken, one_more}
use Rattle.flux_gen.proofs.graph.write_edges.Goals as goal

pub loop-i-preserved : goal.loop-i-preserved
loop-i-preserved c =
    let whole : List ℕ = flat_map triple_line (triples_from c.args.vertices c.args.count c.args.draws.now.state) in
    record {
      text = triple_written c.args.vertices c.args.count c.loop-i._i c.loop-i.draws.state c.draw_edge-edge.new.draws.state _ c.args.out.now.items c.loop-i.out.items c.write_edge.new.out.items whole c.loop-i-test.true c.draw_edge-edge.ensures.edge c.draw_edge-edge.ensures.state c.in_ok-write_edge.ensures c.loop-i.invariant.text;
      edges = triple_kept c.args.vertices c.args.count c.loop-i._i c.loop-i.draws.state _ c.draw_edge-edge.result _ _ _ c.loop-i-test.true c.draw_edge-edge.ensures.edge c.draw_edge-edge.ensures.state c.in_ok-push.ensures.items c.loop-i.invariant.edges;
      state = step_taken after_triple c.args.count c.loop-i._i c.loop-i.draws.state _ _ c.loop-i-test.true c.draw_edge-edge.ensures.state c.loop-i.invariant.state;
      many = one_more _ _ c.draw_edge-edge.result _ c.loop-i._i c.in_ok-push.ensures.items c.loop-i.invariant.many;
    }
