use Rattle.std.proofs.Common.{◌<◌, sym, ap, subst, ◌∙◌}
use Rattle.std.specs.FinMap.{remove}
use Rattle.std.specs.Prelude.{IsSome}
use Rattle.std.specs.FinMap.{get}
use Rattle.dcg_store.proofs.LayerLemmas.{there_after, last_goes}
use Rattle.dcg_store.proofs.layer.Layer.lower_in.Goals as goal

pub end-requires : goal.end-requires
end-requires c =
    let v = c.args.v in
    subst (λ m. IsSome (get m v)) (sym c.take_in-is_last.ensures.lowered) (there_after (λ row. 0 < row.ins) c.args.self.now v c.requires)

pub returns-then-is_last-clause-lowered : goal.returns-then-is_last-clause-lowered
returns-then-is_last-clause-lowered c =
    c.end.ensures ∙ ap (λ m. remove m c.args.v) c.take_in-is_last.ensures.lowered ∙ last_goes c.args.self.now c.args.v (sym c.take_in-is_last.ensures.last ∙ c.if-is_last.true)
