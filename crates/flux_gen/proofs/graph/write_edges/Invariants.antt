use Rattle.std.proofs.Common.{◌≡◌, ◌+◌, ◌-◌, ◌++◌, length}
use Rattle.std.specs.List.{flat_map}
use Rattle.flux_model.specs.GraphText.{triple_line}
use Rattle.flux_model.specs.Generated.{after_triple, steps, triples_from}
use Rattle.flux_gen.specs.Drawn.{edge_triples}
use Rattle.flux_gen.proofs.graph.write_edges.Given as goal

-- what was written and what is left come to the whole
abbrev pub invariant-loop-i : goal.invariant-loop-i
invariant-loop-i l = record {
  text : l.out.items ++ flat_map triple_line (triples_from l.vertices (l.count - l._i) l.draws.state) ≡ l.fn.out.items ++ flat_map triple_line (triples_from l.vertices l.count l.fn.draws.state);
  edges : edge_triples l.drawn.items ++ triples_from l.vertices (l.count - l._i) l.draws.state ≡ edge_triples l.fn.drawn.items ++ triples_from l.vertices l.count l.fn.draws.state;
  state : steps after_triple (l.count - l._i) l.draws.state ≡ steps after_triple l.count l.fn.draws.state;
  many : length l.drawn.items ≡ length l.fn.drawn.items + l._i;
}
