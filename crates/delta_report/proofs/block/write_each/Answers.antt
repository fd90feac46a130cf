use Rattle.std.proofs.Common.{sym, ap, ◌∙◌, ◌++◌}
use Rattle.flux_model.specs.declared.maps.Delta.{Delta}
use Rattle.delta_report.specs.Block.{delta_lines, name_at}
use Rattle.flux_model.proofs.GrownLemmas.{on_err, grew_same, flat_map_next, grew_at}
use Rattle.delta_report.proofs.BlockLemmas.{delta_lines-named}
use Rattle.delta_report.proofs.block.write_each.Goals as goal

pub returns-in_err-write_delta-clause-err : goal.returns-in_err-write_delta-clause-err
returns-in_err-write_delta-clause-err c =
    on_err _ (grew_at (λ (d : Delta). delta_lines c.args.number (name_at c.args.patterns.now d.pattern) d) _ _ _ c.args.deltas.now c.loop-i.i c.get-delta.result.now c.get-delta.ensures c.loop-i.invariant
    (grew_same _ _ _ _ (delta_lines-named c.args.number c.args.patterns.now c.get-delta.result.now c.get.result.now c.bytes.result.now c.get.ensures (c.bytes.ensures.value ∙ c.name-name.ensures)) c.in_err-write_delta.ensures.err))

pub loop-i-preserved : goal.loop-i-preserved
loop-i-preserved c =
    flat_map_next (λ (d : Delta). delta_lines c.args.number (name_at c.args.patterns.now d.pattern) d) _ _ _ c.args.deltas.now c.loop-i.i c.get-delta.result.now c.get-delta.ensures c.loop-i.invariant
    (c.in_ok-write_delta.ensures.ok
    ∙ ap (λ t. c.loop-i.out.items ++ t) (sym (delta_lines-named c.args.number c.args.patterns.now c.get-delta.result.now c.get.result.now c.bytes.result.now c.get.ensures (c.bytes.ensures.value ∙ c.name-name.ensures))))
