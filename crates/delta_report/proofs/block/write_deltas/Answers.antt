use Rattle.std.proofs.Common.{◌≡◌, List, ◌++◌}
use Rattle.std.proofs.lemmas.Result.{on_ok_weaker, on_err_weaker}
use Rattle.flux_model.specs.Grown.{GrewByFront}
use Rattle.flux_model.specs.declared.maps.Delta.{Delta}
use Rattle.delta_report.specs.Block.{deltas_text}
use Rattle.flux_model.proofs.GrownLemmas.{on_ok}
use Rattle.delta_report.proofs.SortedLemmas.{AreReordered-from_places, AreSorted-from_places, each_sorted_form}
use Rattle.delta_report.proofs.block.write_deltas.Goals as goal

pub returns-in_err-sort-clause-same : goal.returns-in_err-sort-clause-same
returns-in_err-sort-clause-same c = AreReordered-from_places _ _ c.sort.ensures.len c.sort.ensures.same

pub returns-clause-same : goal.returns-clause-same
returns-clause-same c = AreReordered-from_places _ _ c.sort.ensures.len c.sort.ensures.same

pub returns-clause-sorted : goal.returns-clause-sorted
returns-clause-sorted c =
    on_ok c.write_each.result (AreSorted-from_places _ _ c.sort.ensures.len c.sort.ensures.same c.in_ok-sort.ensures.sorted)

pub returns-clause-ok : goal.returns-clause-ok
returns-clause-ok c =
    on_ok_weaker c.write_each.result
    (each_sorted_form (λ (ds : List Delta). c.write_each.new.out.items ≡ c.args.out.now.items ++ deltas_text c.args.number c.args.patterns.now ds) c.args.deltas.now c.sort.new.self
    (AreSorted-from_places _ _ c.sort.ensures.len c.sort.ensures.same c.in_ok-sort.ensures.sorted))
    c.write_each.ensures.ok

pub returns-clause-err : goal.returns-clause-err
returns-clause-err c =
    on_err_weaker c.write_each.result
    (each_sorted_form (λ (ds : List Delta). GrewByFront c.args.out.now.items c.write_each.new.out.items (deltas_text c.args.number c.args.patterns.now ds)) c.args.deltas.now c.sort.new.self
    (AreSorted-from_places _ _ c.sort.ensures.len c.sort.ensures.same c.in_ok-sort.ensures.sorted))
    c.write_each.ensures.err
