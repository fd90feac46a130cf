use Rattle.std.proofs.Common.{arith}
use Rattle.dcg_store.proofs.CallerLemmas.{len_of_exact}
use Rattle.pattern_registry.proofs.registry.Registry.stored.Goals as goal

pub returns-clause-few : goal.returns-clause-few
returns-clause-few c = λ g q exact here.
    let index = c.index_of.result.now in
    let most = len_of_exact q index.tree g index.dcg (c.index_of.ensures.belongs q here) (exact.each c.args.k q index.tree index.dcg here c.index_of.ensures.tree c.index_of.ensures.rows) in
    omega (arith, most, c.stored.ensures.count)
