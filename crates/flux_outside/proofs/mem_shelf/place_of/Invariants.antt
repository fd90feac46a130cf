use Rattle.std.proofs.Common.{◌≡◌, drop}
use Rattle.flux_outside.specs.MemShelf.{place_from}
use Rattle.flux_outside.specs.Entries.{seen_entries}
use Rattle.flux_outside.proofs.mem_shelf.place_of.Given as goal

-- the name is looked for in the entries that are left
abbrev pub invariant-loop-place : goal.invariant-loop-place
invariant-loop-place l =
    place_from 0 (seen_entries l.entries) l.name ≡ place_from l.place (seen_entries (drop l.place l.entries)) l.name
