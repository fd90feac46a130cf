use Rattle.std.proofs.Common.{◌≡◌, ◌+◌, ◌∙◌, ap, arith, map, take}
use Rattle.std.specs.List.{range_with_len}
use Rattle.flux_model.specs.Order.{search_order}
use Rattle.flux_model.specs.Pattern.{vertex_count}
use Rattle.dcg_store.specs.SoundRows.{live_count}
use Rattle.tree_search.proofs.TieLemmas.{values_front}
use Rattle.tree_search.proofs.explicit_pairs.order_by_live.Goals as goal

pub returns-clause-live : goal.returns-clause-live
returns-clause-live c =
    let count = c.vertex_count-count.result in
    let same : take count c.loop-u.live ≡ map (live_count c.args.dcg.now) (range_with_len 0 (vertex_count c.args.pattern.now)) =
    values_front (live_count c.args.dcg.now) 0 count c.loop-u.live (omega (arith, c.requires, c.loop-u.invariant, c.vertex_count-count.ensures)) (λ j h.
    (let at : j ≡ 0 + j = omega arith in
    c.loop-u.invariant.counts j (omega (arith, h, c.loop-u-test.false)) ∙ ap (live_count c.args.dcg.now) at))
    ∙ ap (λ n. map (live_count c.args.dcg.now) (range_with_len 0 n)) c.vertex_count-count.ensures.count in
    c.order.ensures.order ∙ ap (search_order c.args.tree.now c.args.start) same
