use Rattle.std.proofs.Common.{refl, sym, ap, arith}
use Rattle.line_words.specs.Words.{spaced}
use Rattle.snapshot_text.specs.Row.{edge_triple}
use Rattle.flux_model.proofs.GrownLemmas.{on_err, grew_same, grew_first, grew_later}
use Rattle.snapshot_text.proofs.LineLemmas.{triple_line-parts}
use Rattle.snapshot_text.proofs.row.write_edge.Goals as goal

pub returns-in_err-start_line-clause-err : goal.returns-in_err-start_line-clause-err
returns-in_err-start_line-clause-err c =
    on_err _ (grew_same _ _ _ _ (triple_line-parts (edge_triple c.args.src c.args.edge.now) c.from.result c.args.edge.now.other (omega arith) refl)
    (grew_first _ _ _ _ c.in_err-start_line.ensures.err))

pub returns-in_err-write_number-clause-err : goal.returns-in_err-write_number-clause-err
returns-in_err-write_number-clause-err c =
    on_err _ (grew_same _ _ _ _ (triple_line-parts (edge_triple c.args.src c.args.edge.now) c.from.result c.from-2.result (omega arith) (omega arith))
    (grew_later _ _ _ _ _ c.in_ok-start_line.ensures.ok
    (grew_first _ _ _ _ c.in_err-write_number.ensures.err)))

pub returns-in_err-write_word-clause-err : goal.returns-in_err-write_word-clause-err
returns-in_err-write_word-clause-err c =
    on_err _ (grew_same _ _ _ _ (triple_line-parts (edge_triple c.args.src c.args.edge.now) c.from.result c.from-2.result (omega arith) (omega arith))
    (grew_later _ _ _ _ _ c.in_ok-start_line.ensures.ok
    (grew_later _ _ _ _ _ c.in_ok-write_number.ensures.ok
    (grew_first _ _ _ _
    (grew_same _ _ _ _ (ap spaced (sym c.bytes.ensures.value)) c.in_err-write_word.ensures.err)))))
