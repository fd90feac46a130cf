use Rattle.std.proofs.Common.{◌≡◌, false, take}
use Rattle.std.specs.List.{list_any}
use Rattle.std.specs.Str.{bytes_eq}
use Rattle.flux_model.specs.declared.pattern.PatternEdge.{PatternEdge}
use Rattle.pattern_registry.proofs.routes.is_named_before.Given as goal

-- no edge so far has the label
abbrev pub invariant-loop-j : goal.invariant-loop-j
invariant-loop-j l = list_any (λ (f : PatternEdge). bytes_eq f.label l.label) (take l.j l.pattern.edges) ≡ false
