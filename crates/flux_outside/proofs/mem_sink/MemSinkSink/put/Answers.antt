-- What fits of the piece stands at its front.
use Rattle.std.proofs.Common.{◌-◌, take, drop, sym, take-append-drop}
use Rattle.std.proofs.lemmas.Grind.{common_steps}
use Rattle.std.proofs.Common.{arith}
use Rattle.flux_outside.proofs.mem_sink.MemSinkSink.put.Goals as goal

pub returns-clause-bytes : goal.returns-clause-bytes
returns-clause-bytes c =
    let space = c.self.inside.room - c.len.result in
    (take space c.args.piece.now, drop space c.args.piece.now, sym (take-append-drop space c.args.piece.now), grind (arith, common_steps))
