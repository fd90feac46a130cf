use Rattle.std.proofs.Common.{◌≡◌, ◌≤◌, not, take}
use Rattle.std.specs.Prelude.{count_by}
use Rattle.label_graph.specs.SetNames.{is_known}
use Rattle.label_graph.proofs.names.Names.count_unknown.Given as goal

-- those so far
abbrev pub invariant-loop-i : goal.invariant-loop-i
invariant-loop-i l = record {
  count : l.count ≡ count_by (λ text. not (is_known l.fn.self text)) (take l.i l.labels);
  within : l.count ≤ l.i;
}
