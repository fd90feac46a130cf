-- What is kept of a call, as it is made.
use Rattle.flux_outside.specs.Reads.{Call}
use Rattle.flux_outside.specs.declared.calls.Note.{Note}

abbrev pub noted : Note → Call
noted note = record { name = note.name.now; place = note.place; bytes = note.bytes; outcome = note.outcome }
