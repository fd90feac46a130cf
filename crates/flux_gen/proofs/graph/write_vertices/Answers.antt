use Rattle.std.proofs.Common.{List, ℕ}
use Rattle.std.specs.List.{flat_map}
use Rattle.flux_model.specs.GraphText.{vertex_line}
use Rattle.flux_model.specs.Generated.{next, vertices_from}
use Rattle.flux_gen.proofs.DrawsLemmas.{vertex_written, step_taken}
use Rattle.flux_gen.proofs.graph.write_vertices.Goals as goal

pub loop-id-preserved : goal.loop-id-preserved
loop-id-preserved c =
    let whole : List ℕ = flat_map vertex_line (vertices_from c.args.count 0 c.args.draws.now.state) in
    record {
      text = vertex_written c.args.count c.loop-id.id c.pick-label.result c.loop-id.draws.state c.pick-label.new.self.state c.args.out.now.items c.loop-id.out.items c.write_vertex.new.out.items whole c.loop-id-test.true c.pick-label.ensures.value c.pick-label.ensures.state c.in_ok-write_vertex.ensures c.loop-id.invariant.text;
      state = step_taken next c.args.count c.loop-id.id c.loop-id.draws.state _ _ c.loop-id-test.true c.pick-label.ensures.state c.loop-id.invariant.state;
    }
