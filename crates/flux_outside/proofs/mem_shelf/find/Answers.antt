use Rattle.std.proofs.Common.{ap, ◌∙◌, sym, Some}
use Rattle.flux_outside.specs.Entries.{seen_entries}
use Rattle.flux_outside.proofs.Places.{bytes_of-place_from}
use Rattle.flux_outside.proofs.EntriesLemmas.{IsPlace-bytes}
use Rattle.flux_outside.proofs.mem_shelf.find.Goals as goal

pub returns-in_err-place : goal.returns-in_err-place
returns-in_err-place c =
    rw c.from_residual.ensures (bytes_of-place_from 0 (seen_entries c.args.entries.now) c.args.name.now (sym c.in_err-place.ensures.first))

pub returns : goal.returns
returns c =
    IsPlace-bytes _ _ _ c.index-entries-place.result c.in_ok-place.ensures.first ∙ ap Some (sym c.deref.ensures.value)
