use Rattle.std.proofs.Common.{◌≡◌, ℕ, List, take}
use Rattle.pattern_registry.specs.Routes.{route, places_with}
use Rattle.pattern_registry.proofs.routes.routes_to.Given as goal

-- the routes to the patterns so far
abbrev pub invariant-loop-k : goal.invariant-loop-k
invariant-loop-k l = (label : List ℕ) → route l.routes.entries label ≡ places_with 0 label (take l.k l.patterns)
