use Rattle.std.proofs.Common.{◌≡◌, ◌≤◌, ◌++◌, ◌+◌, take, length, ◌∙◌, arith}
use Rattle.flux_model.specs.declared.maps.Delta.{Delta}
use Rattle.flux_model.proofs.GrownLemmas.{on_err, grew_same, grew_at}
use Rattle.delta_report.specs.Block.{name_at}
use Rattle.delta_report.specs.Answers.{gained_lines, listing}
use Rattle.delta_report.proofs.AnswersLemmas.{gained_lines-named, listing_next, answer_count_next, answer_count_fits}
use Rattle.delta_report.proofs.answers.write_each.Goals as goal

pub returns-in_err-write_maps-clause-err : goal.returns-in_err-write_maps-clause-err
returns-in_err-write_maps-clause-err c =
    on_err _ (grew_at (λ (d : Delta). gained_lines (name_at c.args.patterns.now d.pattern) d) _ _ _ c.args.deltas.now c.loop-i.i c.get-delta.result.now c.get-delta.ensures c.loop-i.invariant.text
    (grew_same _ _ _ _ (gained_lines-named c.args.patterns.now c.get-delta.result.now c.get.result.now c.bytes.result.now c.get.ensures (c.bytes.ensures.value ∙ c.name-name.ensures)) c.in_err-write_maps.ensures.err))

pub overflow_add-total : goal.overflow_add-total
overflow_add-total c =
    let text : c.write_maps.new.out.items ≡ c.args.out.now.items ++ listing c.args.patterns.now (take (c.loop-i.i + 1) c.args.deltas.now) =
    listing_next c.args.patterns.now c.args.deltas.now c.loop-i.i c.get-delta.result.now c.get.result.now c.bytes.result.now _ _ _ c.get-delta.ensures c.get.ensures (c.bytes.ensures.value ∙ c.name-name.ensures) c.loop-i.invariant.text c.in_ok-write_maps.ensures.ok in
    let within : c.loop-i.total + c.len-total.result ≤ length c.write_maps.new.out.items =
    answer_count_fits c.args.patterns.now c.args.deltas.now c.loop-i.i c.get-delta.result.now c.loop-i.total c.len-total.result c.args.out.now.items c.write_maps.new.out.items c.get-delta.ensures c.loop-i.invariant.count c.len-total.ensures text in
    omega arith

pub loop-i-preserved : goal.loop-i-preserved
loop-i-preserved c = record {
  text =
      listing_next c.args.patterns.now c.args.deltas.now c.loop-i.i c.get-delta.result.now c.get.result.now c.bytes.result.now _ _ _ c.get-delta.ensures c.get.ensures (c.bytes.ensures.value ∙ c.name-name.ensures) c.loop-i.invariant.text c.in_ok-write_maps.ensures.ok;
  count = omega (arith, answer_count_next c.args.deltas.now c.loop-i.i c.get-delta.result.now c.get-delta.ensures);
}
