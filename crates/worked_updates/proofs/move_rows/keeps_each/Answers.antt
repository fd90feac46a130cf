use Rattle.worked_updates.proofs.SizeLemmas.{sized}
use Rattle.worked_updates.proofs.move_rows.keeps_each.Goals as goal

pub keeps-requires-clause-vertices : goal.keeps-requires-clause-vertices
keeps-requires-clause-vertices g c = sized c.args.tree.now _ _ c.in_ok-made.ensures.exact.children c.vertex_count.ensures
