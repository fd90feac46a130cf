use Rattle.std.proofs.Common.{◌≡◌, ℕ, get_or, ◌<◌, length, arith}
use Rattle.std.specs.Fmt.{decimal}
use Rattle.std.proofs.lemmas.Option.{slice_get-get_or}
use Rattle.line_words.specs.Words.{spaced}
use Rattle.flux_model.proofs.GrownLemmas.{on_err, grew_at}
use Rattle.delta_report.proofs.map_words.write_ids.Goals as goal

pub returns-in_err-write_number-clause-err : goal.returns-in_err-write_number-clause-err
returns-in_err-write_number-clause-err c =
    let here : c.loop-i.i < length c.args.map.now = omega arith in
    let id : c.from.result ≡ get_or c.args.map.now c.loop-i.i 0 = omega arith in
    on_err _ (grew_at (λ (id : ℕ). spaced (decimal id)) _ _ _ c.args.map.now c.loop-i.i _ (slice_get-get_or c.args.map.now c.loop-i.i 0 here) c.loop-i.invariant
    (rw (← id) c.in_err-write_number.ensures.err))
