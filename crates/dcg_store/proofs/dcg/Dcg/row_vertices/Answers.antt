use Rattle.std.proofs.Common.{ap, ◌∙◌}
use Rattle.std.specs.Prelude.{is_some}
use Rattle.dcg_store.proofs.RowsLemmas.{row_read}
use Rattle.dcg_store.proofs.dcg.Dcg.row_vertices.Goals as goal

pub returns-clause-rows : goal.returns-clause-rows
returns-clause-rows c v =
    let s = c.self.inside in
    c.vertices.ensures.rows v
    ∙ ap is_some (row_read s.broken s.children.items s.layers.items s.stored c.args.self.now c.self.view_is c.self.invariant c.args.u c.requires.vertex c.index.result.now v c.index.ensures)
