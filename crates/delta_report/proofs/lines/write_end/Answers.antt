use Rattle.std.proofs.Common.{codes, [], ◌∷◌}
use Rattle.std.specs.Fmt.{decimal}
use Rattle.flux_model.proofs.GrownLemmas.{on_err, grew_same, grew_first, grew_later}
use Rattle.line_words.proofs.LineLemmas.{text_line-start}
use Rattle.delta_report.proofs.lines.write_end.Goals as goal

pub returns-in_err-start_line-clause-err : goal.returns-in_err-start_line-clause-err
returns-in_err-start_line-clause-err c =
    on_err _ (grew_same _ _ _ _ (text_line-start (codes "=") (decimal c.args.lines) (decimal c.args.accepted ∷ decimal c.args.refused ∷ []))
    (grew_first _ _ _ _ c.in_err-start_line.ensures.err))

pub returns-in_err-write_number-clause-err : goal.returns-in_err-write_number-clause-err
returns-in_err-write_number-clause-err c =
    on_err _ (grew_same _ _ _ _ (text_line-start (codes "=") (decimal c.args.lines) (decimal c.args.accepted ∷ decimal c.args.refused ∷ []))
    (grew_later _ _ _ _ _ c.in_ok-start_line.ensures.ok
    (grew_first _ _ _ _ c.in_err-write_number.ensures.err)))

pub returns-in_err-write_number-2-clause-err : goal.returns-in_err-write_number-2-clause-err
returns-in_err-write_number-2-clause-err c =
    on_err _ (grew_same _ _ _ _ (text_line-start (codes "=") (decimal c.args.lines) (decimal c.args.accepted ∷ decimal c.args.refused ∷ []))
    (grew_later _ _ _ _ _ c.in_ok-start_line.ensures.ok
    (grew_later _ _ _ _ _ c.in_ok-write_number.ensures.ok
    (grew_first _ _ _ _ c.in_err-write_number-2.ensures.err))))
