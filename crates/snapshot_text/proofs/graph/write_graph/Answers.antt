use Rattle.std.proofs.lemmas.Result.{on_err_weaker}
use Rattle.flux_model.proofs.GrownLemmas.{on_err, grew_first, grew_later}
use Rattle.snapshot_text.proofs.graph.write_graph.Goals as goal

pub returns-in_err-write_vertices-clause-err : goal.returns-in_err-write_vertices-clause-err
returns-in_err-write_vertices-clause-err g c = on_err _ (grew_first _ _ _ _ c.in_err-write_vertices.ensures.err)

pub returns-clause-err : goal.returns-clause-err
returns-clause-err g c = on_err_weaker c.write_triples.result (grew_later _ _ _ _ _ c.in_ok-write_vertices.ensures.ok) c.write_triples.ensures.err
