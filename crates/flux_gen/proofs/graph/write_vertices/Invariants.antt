use Rattle.std.proofs.Common.{◌≡◌, ◌-◌, ◌++◌}
use Rattle.std.specs.List.{flat_map}
use Rattle.flux_model.specs.GraphText.{vertex_line}
use Rattle.flux_model.specs.Generated.{next, steps, vertices_from}
use Rattle.flux_gen.proofs.graph.write_vertices.Given as goal

-- what was written and what is left come to the whole
abbrev pub invariant-loop-id : goal.invariant-loop-id
invariant-loop-id l = record {
  text : l.out.items ++ flat_map vertex_line (vertices_from (l.count - l.id) l.id l.draws.state) ≡ l.fn.out.items ++ flat_map vertex_line (vertices_from l.count 0 l.fn.draws.state);
  state : steps next (l.count - l.id) l.draws.state ≡ steps next l.count l.fn.draws.state;
}
