use Rattle.std.proofs.Common.{◌++◌, slice_range, arith}
use Rattle.flux_model.proofs.GrownLemmas.{on_err}
use Rattle.delta_report.specs.MapWords.{map_end, line_from}
use Rattle.delta_report.proofs.MapWordsLemmas.{first_line, first_stopped, next_line, next_stays, next_stopped}
use Rattle.delta_report.proofs.map_words.end_map_lines.Goals as goal

pub returns-in_err-end_map-clause-err : goal.returns-in_err-end_map-clause-err
returns-in_err-end_map-clause-err c =
    on_err _ (first_stopped c.args.from c.args.out.now.items c.args.maps.now c.get-first.result.now c.end_map.new.out.items c.get-first.ensures c.in_err-end_map.ensures.err)

pub loop-i-init : goal.loop-i-init
loop-i-init c = record {
  one = omega arith;
  text = first_line c.args.from c.args.out.now.items c.args.maps.now c.get-first.result.now c.end_map.new.out.items c.get-first.ensures c.in_ok-end_map.ensures.ok;
  rest = map_end c.get-first.result.now;
  stays = c.in_ok-end_map.ensures.ok;
}

pub returns-in_err-copy_map_line-clause-err : goal.returns-in_err-copy_map_line-clause-err
returns-in_err-copy_map_line-clause-err c =
    on_err _ (next_stopped c.args.from c.args.out.now.items c.args.maps.now _ c.loop-i.i c.get-map.result.now c.loop-i.out.items c.loop-i.invariant.rest c.copy_map_line.new.out.items c.requires.within (omega arith) c.get-map.ensures
    c.loop-i.invariant.text c.loop-i.invariant.stays c.in_err-copy_map_line.ensures.err)

pub loop-i-preserved : goal.loop-i-preserved
loop-i-preserved c = record {
  one = omega arith;
  text = next_line c.args.from c.args.out.now.items c.args.maps.now _ c.loop-i.i c.get-map.result.now c.loop-i.out.items c.loop-i.invariant.rest c.copy_map_line.new.out.items c.requires.within (omega arith) c.get-map.ensures
      c.loop-i.invariant.text c.loop-i.invariant.stays c.in_ok-copy_map_line.ensures.ok;
  rest = c.loop-i.invariant.rest ++ line_from (slice_range c.loop-i.out.items c.args.from _) c.get-map.result.now;
  stays = next_stays c.args.from c.args.out.now.items c.args.maps.now _ c.loop-i.i c.get-map.result.now c.loop-i.out.items c.loop-i.invariant.rest c.copy_map_line.new.out.items c.requires.within (omega arith) c.get-map.ensures
      c.loop-i.invariant.text c.loop-i.invariant.stays c.in_ok-copy_map_line.ensures.ok;
}
