use Rattle.std.proofs.Common.{◌≡◌, arith}
use Rattle.std.proofs.lemmas.Result.{on_ok_weaker, on_err_weaker}
use Rattle.flux_model.proofs.GrownLemmas.{on_err, grew_none, grew_same, grew_first, grew_later}
use Rattle.snapshot_text.proofs.LineLemmas.{vertex_line-parts, vertex_line-written}
use Rattle.snapshot_text.proofs.graph.write_vertex.Goals as goal

pub returns-in_err-start_line-clause-err : goal.returns-in_err-start_line-clause-err
returns-in_err-start_line-clause-err c =
    on_err _ (grew_same _ _ _ _ (vertex_line-parts c.args.id c.from.result c.args.labels.now (omega arith))
    (grew_first _ _ _ _ c.in_err-start_line.ensures.err))

pub returns-in_err-write_labels-clause-err : goal.returns-in_err-write_labels-clause-err
returns-in_err-write_labels-clause-err c =
    on_err _ (grew_same _ _ _ _ (vertex_line-parts c.args.id c.from.result c.args.labels.now (omega arith))
    (grew_later _ _ _ _ _ c.in_ok-start_line.ensures.ok
    (grew_first _ _ _ _ c.in_err-write_labels.ensures.err)))

pub returns-clause-ok : goal.returns-clause-ok
returns-clause-ok c =
    on_ok_weaker c.end_line.result
    (vertex_line-written c.args.out.now.items c.start_line.new.out.items c.write_labels.new.out.items c.end_line.new.out.items c.args.id c.from.result c.args.labels.now (omega arith)
    c.in_ok-start_line.ensures.ok c.in_ok-write_labels.ensures.ok)
    c.end_line.ensures.ok

pub returns-clause-err : goal.returns-clause-err
returns-clause-err c =
    on_err_weaker c.end_line.result
    (λ (e : c.end_line.new.out.items ≡ c.write_labels.new.out.items).
    grew_same _ _ _ _ (vertex_line-parts c.args.id c.from.result c.args.labels.now (omega arith))
    (grew_later _ _ _ _ _ c.in_ok-start_line.ensures.ok
    (grew_later _ _ _ _ _ c.in_ok-write_labels.ensures.ok (grew_none _ _ _ e))))
    c.end_line.ensures.err
