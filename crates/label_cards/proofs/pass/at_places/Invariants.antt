use Rattle.std.proofs.Common.{◌≡◌, map, take, slice_index}
use Rattle.label_cards.proofs.pass.at_places.Given as goal

-- the counts at the places so far
abbrev pub invariant-loop-place : goal.invariant-loop-place
invariant-loop-place l = l.found.items ≡ map (slice_index l.counts) (take l.place-index l.places)
