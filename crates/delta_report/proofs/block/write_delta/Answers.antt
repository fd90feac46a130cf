use Rattle.std.proofs.lemmas.Result.{on_err_weaker}
use Rattle.flux_model.proofs.GrownLemmas.{grew_later}
use Rattle.delta_report.proofs.block.write_delta.Goals as goal

pub returns-clause-err : goal.returns-clause-err
returns-clause-err c =
    on_err_weaker c.write_maps-2.result (grew_later _ _ _ _ _ c.in_ok-write_maps.ensures.ok) c.write_maps-2.ensures.err
