use Rattle.std.proofs.Common.{arith}
use Rattle.std.proofs.lemmas.Result.{err_from_is_err_and}
use Rattle.flux_outside.proofs.ReadsLemmas.{NoEmptyPut-trans}
use Rattle.delta_report.specs.Answers.{answer_line}
use Rattle.watch_cli.proofs.AnswersLemmas.{Wrote-next, Wrote-stops, Wrote-each}
use Rattle.watch_cli.proofs.answers.put_maps.Goals as goal

pub loop-i-preserved : goal.loop-i-preserved
loop-i-preserved g c = record {
  wrote = Wrote-next (answer_line c.args.name.now) c.args.maps.now c.loop-i.i c.get.result.now _ _ _ _ _ _ c.get.ensures c.loop-i.invariant.wrote c.in_ok-put_map.ensures.ok;
  later = omega (arith, c.loop-i.invariant.later, c.in_ok-put_map.ensures.later);
  puts = NoEmptyPut-trans _ _ _ c.loop-i.invariant.puts c.in_ok-put_map.ensures.puts;
}

pub returns-in_err-put_map-clause-err : goal.returns-in_err-put_map-clause-err
returns-in_err-put_map-clause-err g c =
    let p = err_from_is_err_and c.from_residual.result c.from_residual.ensures.1 in
    rw p.1 (Wrote-stops (answer_line c.args.name.now) c.args.maps.now c.loop-i.i c.get.result.now _ _ _ _ _ c.get.ensures c.loop-i.invariant.wrote c.in_err-put_map.ensures.err)

pub returns-in_err-put_map-clause-puts : goal.returns-in_err-put_map-clause-puts
returns-in_err-put_map-clause-puts g c = NoEmptyPut-trans _ _ _ c.loop-i.invariant.puts c.in_err-put_map.ensures.puts

pub returns-clause-ok : goal.returns-clause-ok
returns-clause-ok g c = Wrote-each (answer_line c.args.name.now) c.args.maps.now c.loop-i.i _ _ _ _ (omega arith) c.loop-i.invariant.wrote
