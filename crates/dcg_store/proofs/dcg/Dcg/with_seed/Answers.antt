use Rattle.std.proofs.Common.{length, sym, ap, ◌∙◌}
use Rattle.dcg_store.proofs.RowsLemmas.{begins, begun}
use Rattle.std.specs.FinMap.{empty}
use Rattle.dcg_store.proofs.dcg.Dcg.with_seed.Goals as goal

pub invariant_of-result : goal.invariant_of-result
invariant_of-result c =
    (begins c.in_ok-from_slice.field-0.items c.in_ok-layers.layers.items (length c.args.children.now) (ap length (sym c.in_ok-from_slice.ensures.items)) c.in_ok-layers.ensures).1

pub returns : goal.returns
returns c =
    (begins c.in_ok-from_slice.field-0.items c.in_ok-layers.layers.items (length c.args.children.now) (ap length (sym c.in_ok-from_slice.ensures.items)) c.in_ok-layers.ensures).0
    ∙ ap (λ children. begun children empty) c.in_ok-from_slice.ensures.items
