use Rattle.std.proofs.Common.{◌≡◌, ◌≤◌, ◌+◌, ◌-◌, ◌++◌, length}
use Rattle.std.specs.List.{flat_map}
use Rattle.flux_model.specs.Generated.{updates_from, update_line}
use Rattle.flux_gen.specs.Drawn.{edge_triples}
use Rattle.flux_gen.proofs.updates.write_updates.Given as goal

-- what was written and what is left come to the whole
abbrev pub invariant-loop-i : goal.invariant-loop-i
invariant-loop-i l = record {
  text : l.out.items ++ flat_map update_line (updates_from l.vertices (l.count - l._i) (edge_triples l.drawn.items) l.draws.state) ≡ l.fn.out.items ++ flat_map update_line (updates_from l.vertices l.count (edge_triples l.fn.drawn.items) l.fn.draws.state);
  some : length l.fn.drawn.items ≤ length l.drawn.items;
  few : length l.drawn.items ≤ length l.fn.drawn.items + l._i;
}
