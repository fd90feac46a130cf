use Rattle.std.proofs.Common.{[], ◌∷◌}
use Rattle.std.proofs.lemmas.Result.{on_err_weaker}
use Rattle.flux_model.proofs.GrownLemmas.{grew_later}
use Rattle.line_words.proofs.words.start_line.Goals as goal

pub returns-clause-err : goal.returns-clause-err
returns-clause-err c =
    on_err_weaker c.write_number.result (grew_later _ _ _ (c.args.sign ∷ []) _ c.in_ok-push.ensures.items) c.write_number.ensures.err
