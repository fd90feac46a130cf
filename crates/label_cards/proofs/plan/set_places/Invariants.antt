use Rattle.std.proofs.Common.{take}
use Rattle.label_cards.specs.Plans.{AreSetsKept, AreSetsOf}
use Rattle.label_cards.proofs.plan.set_places.Given as goal

-- the sets of the vertices before u have their places, and no set has moved
abbrev pub invariant-loop-u : goal.invariant-loop-u
invariant-loop-u l = record {
  kept : AreSetsKept l.fn.sets.items l.sets.items;
  places : AreSetsOf l.sets.items (take l.u l.pattern.labels) l.places.items;
}
