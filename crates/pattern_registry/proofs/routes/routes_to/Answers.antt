use Rattle.pattern_registry.specs.Routes.{route}
use Rattle.pattern_registry.proofs.RouteLemmas.{routes_next}
use Rattle.pattern_registry.proofs.routes.routes_to.Goals as goal

pub loop-k-preserved : goal.loop-k-preserved
loop-k-preserved c = λ label.
    routes_next label c.args.patterns.now c.loop-k.k c.get.result.now (route c.loop-k.routes.entries label) (route c.add_pattern.new.routes.entries label)
    c.get.ensures (c.loop-k.invariant label) (c.in_ok-add_pattern.ensures label)
