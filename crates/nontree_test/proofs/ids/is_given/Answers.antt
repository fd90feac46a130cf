use Rattle.std.proofs.Common.{rules, tests, ◌∙◌, Some, None, refl, arith, length}
use Rattle.std.proofs.lemmas.Iterator.{YieldsList-from_range}
use Rattle.std.proofs.lemmas.Iterator.Search.{any_from_yields_List}
use Rattle.flux_model.specs.Partial.{id_of, same_id}
use Rattle.nontree_test.proofs.IdLemmas.{any_by_place}
use Rattle.nontree_test.proofs.ids.is_given.Goals as goal

pub returns : goal.returns
returns c =
    let m = c.args.partial.now in
    let x = c.args.x in
    any_from_yields_List (λ u. same_id (Some x) (id_of m u)) _ _ _ c.any.ensures.ran (YieldsList-from_range 0 c.len.result (length m) refl (omega (arith, c.len.ensures))) (λ u b q k. search (rules, tests)) ∙ any_by_place (same_id (Some x)) None m
