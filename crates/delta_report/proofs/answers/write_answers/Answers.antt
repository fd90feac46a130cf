use Rattle.std.proofs.Common.{◌≡◌, List, ◌++◌, sym, ap}
use Rattle.std.proofs.lemmas.Result.{on_ok_weaker, on_err_weaker}
use Rattle.flux_model.specs.Grown.{GrewByFront}
use Rattle.flux_model.specs.declared.maps.Delta.{Delta}
use Rattle.flux_model.proofs.GrownLemmas.{on_ok, on_err, grew_first, grew_later, grew_same}
use Rattle.delta_report.specs.Answers.{listing, total_line, answers_text}
use Rattle.delta_report.proofs.SortedLemmas.{AreReordered-from_places, AreSorted-from_places, each_sorted_form}
use Rattle.delta_report.proofs.MapWordsLemmas.{written_both}
use Rattle.delta_report.proofs.answers.write_answers.Goals as goal

pub returns-in_err-sort-clause-same : goal.returns-in_err-sort-clause-same
returns-in_err-sort-clause-same c = AreReordered-from_places _ _ c.sort.ensures.len c.sort.ensures.same

pub returns-in_err-total-clause-same : goal.returns-in_err-total-clause-same
returns-in_err-total-clause-same c = AreReordered-from_places _ _ c.sort.ensures.len c.sort.ensures.same

pub returns-in_err-total-clause-err : goal.returns-in_err-total-clause-err
returns-in_err-total-clause-err c =
    on_err _ (each_sorted_form (λ (ds : List Delta). GrewByFront c.args.out.now.items c.write_each.new.out.items (answers_text c.args.patterns.now ds)) c.args.deltas.now c.sort.new.self
    (AreSorted-from_places _ _ c.sort.ensures.len c.sort.ensures.same c.in_ok-sort.ensures.sorted)
    (grew_first _ _ _ _ c.in_err-total.ensures.err))

pub returns-clause-same : goal.returns-clause-same
returns-clause-same c = AreReordered-from_places _ _ c.sort.ensures.len c.sort.ensures.same

pub returns-clause-sorted : goal.returns-clause-sorted
returns-clause-sorted c =
    on_ok c.write_total.result (AreSorted-from_places _ _ c.sort.ensures.len c.sort.ensures.same c.in_ok-sort.ensures.sorted)

pub returns-clause-ok : goal.returns-clause-ok
returns-clause-ok c =
    on_ok_weaker c.write_total.result
    (λ (e : c.write_total.new.out.items ≡ c.write_each.new.out.items ++ total_line c.in_ok-total.total).
    each_sorted_form (λ (ds : List Delta). c.write_total.new.out.items ≡ c.args.out.now.items ++ answers_text c.args.patterns.now ds) c.args.deltas.now c.sort.new.self
    (AreSorted-from_places _ _ c.sort.ensures.len c.sort.ensures.same c.in_ok-sort.ensures.sorted)
    (written_both _ _ _ _ _ _ (ap (λ n. listing c.args.patterns.now c.sort.new.self ++ total_line n) (sym c.in_ok-total.ensures.total)) c.in_ok-total.ensures.ok e))
    c.write_total.ensures.ok

pub returns-clause-err : goal.returns-clause-err
returns-clause-err c =
    on_err_weaker c.write_total.result
    (λ (g : GrewByFront c.write_each.new.out.items c.write_total.new.out.items (total_line c.in_ok-total.total)).
    each_sorted_form (λ (ds : List Delta). GrewByFront c.args.out.now.items c.write_total.new.out.items (answers_text c.args.patterns.now ds)) c.args.deltas.now c.sort.new.self
    (AreSorted-from_places _ _ c.sort.ensures.len c.sort.ensures.same c.in_ok-sort.ensures.sorted)
    (grew_same _ _ _ _ (ap (λ n. listing c.args.patterns.now c.sort.new.self ++ total_line n) (sym c.in_ok-total.ensures.total))
    (grew_later _ _ _ _ _ c.in_ok-total.ensures.ok g)))
    c.write_total.ensures.err
