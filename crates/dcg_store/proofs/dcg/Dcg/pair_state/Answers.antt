use Rattle.std.proofs.Common.{ap, ◌∙◌}
use Rattle.dcg_store.specs.Counters.{state_of_row}
use Rattle.dcg_store.proofs.RowsLemmas.{row_read}
use Rattle.dcg_store.proofs.dcg.Dcg.pair_state.Goals as goal

pub returns-clause-state : goal.returns-clause-state
returns-clause-state g c =
    let s = c.self.inside in
    c.state.ensures ∙ ap state_of_row (row_read s.broken s.children.items s.layers.items s.stored c.args.self.now c.self.view_is c.self.invariant c.args.u c.requires.vertex c.index.result.now c.args.v c.index.ensures)
