use Rattle.std.proofs.Common.{sym, ap, ◌∙◌}
use Rattle.std.specs.Prelude.{is_some, nat_eq}
use Rattle.std.specs.List.{list_any}
use Rattle.std.specs.FinMap.{get}
use Rattle.std.proofs.lemmas.Map.Made.{is_some-lookup}
use Rattle.dcg_store.specs.Flat.{flat_rows}
use Rattle.dcg_store.proofs.LayerLemmas.{get_found}
use Rattle.dcg_store.proofs.FlatLemmas.{flat-keys}
use Rattle.dcg_store.proofs.layer.Layer.vertices.Goals as goal

pub returns-clause-rows : goal.returns-clause-rows
returns-clause-rows c v =
    ap (list_any (nat_eq v)) (c.as_slice.ensures ∙ c.keys.ensures.rest ∙ sym (flat-keys c.self.inside.width c.self.inside.ins.entries c.self.inside.outs.items))
    ∙ (sym (is_some-lookup (nat_eq v) (flat_rows c.self.inside.width c.self.inside.ins.entries c.self.inside.outs.items))
    ∙ (ap is_some (sym (get_found (flat_rows c.self.inside.width c.self.inside.ins.entries c.self.inside.outs.items) v)) ∙ ap (λ m. is_some (get m v)) c.self.view_is))
