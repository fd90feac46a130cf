use Rattle.std.proofs.Common.{◌≡◌, ◌++◌, ◌∙◌, [], ◌∷◌, sym, ap}
use Rattle.std.specs.Fmt.{decimal}
use Rattle.line_words.specs.Words.{spaced}
use Rattle.flux_model.proofs.GrownLemmas.{on_err, grew_same, grew_first, grew_later}
use Rattle.delta_report.specs.Answers.{total_line}
use Rattle.delta_report.proofs.answers.write_total.Goals as goal

pub returns-in_err-write_word-clause-err : goal.returns-in_err-write_word-clause-err
returns-in_err-write_word-clause-err c =
    let word : decimal c.args.total ≡ c.as_bytes.result.now = sym (c.as_bytes.ensures.value ∙ c.format.ensures.text) in
    on_err _ (grew_same _ _ (total_line c.args.total) (61 ∷ (spaced c.as_bytes.result.now ++ 10 ∷ [])) (ap (λ w. 61 ∷ (spaced w ++ 10 ∷ [])) word)
    (grew_later _ _ _ (61 ∷ []) (spaced c.as_bytes.result.now ++ 10 ∷ []) c.in_ok-push.ensures.items (grew_first _ _ _ (10 ∷ []) c.in_err-write_word.ensures.err)))
