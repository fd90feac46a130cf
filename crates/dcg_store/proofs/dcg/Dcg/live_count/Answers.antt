use Rattle.std.proofs.Common.{sym, ap, ◌∙◌}
use Rattle.dcg_store.specs.SoundRows.{live_count}
use Rattle.dcg_store.specs.Layers.{live_in}
use Rattle.dcg_store.proofs.PairLemmas.{live-rows_of}
use Rattle.dcg_store.proofs.RowsLemmas.{layer_read}
use Rattle.dcg_store.proofs.dcg.Dcg.live_count.Goals as goal

pub returns : goal.returns
returns c =
    let s = c.self.inside in
    c.live.ensures ∙ ap live_in (layer_read s.broken s.children.items s.layers.items s.stored c.args.self.now c.self.view_is c.self.invariant c.args.u c.requires.vertex c.index.result.now c.index.ensures)
    ∙ sym (live-rows_of s.layers.items c.args.u) ∙ ap (λ d. live_count d c.args.u) c.self.view_is
