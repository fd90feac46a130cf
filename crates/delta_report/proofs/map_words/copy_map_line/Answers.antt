use Rattle.std.proofs.lemmas.Result.{on_err_weaker}
use Rattle.flux_model.proofs.GrownLemmas.{grew_later}
use Rattle.delta_report.proofs.map_words.copy_map_line.Goals as goal

pub returns-clause-err : goal.returns-clause-err
returns-clause-err c =
    on_err_weaker c.end_map.result (grew_later _ _ _ _ _ c.in_ok-extend_from_within.ensures.items) c.end_map.ensures.err
