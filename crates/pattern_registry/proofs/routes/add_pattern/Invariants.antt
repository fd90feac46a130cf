use Rattle.std.proofs.Common.{◌≡◌, ℕ, List, [], ◌∷◌, ◌++◌, take, cond}
use Rattle.std.specs.List.{list_any}
use Rattle.std.specs.Str.{bytes_eq}
use Rattle.flux_model.specs.declared.pattern.PatternEdge.{PatternEdge}
use Rattle.pattern_registry.specs.Routes.{route}
use Rattle.pattern_registry.proofs.routes.add_pattern.Given as goal

-- the edges so far are taken in
abbrev pub invariant-loop-i : goal.invariant-loop-i
invariant-loop-i l = (label : List ℕ) → route l.routes.entries label
    ≡ cond (list_any (λ (e : PatternEdge). bytes_eq e.label label) (take l.i l.pattern.edges)) (route l.initial.routes.entries label ++ l.fn.k ∷ []) (route l.initial.routes.entries label)
