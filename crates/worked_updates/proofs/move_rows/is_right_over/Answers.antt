use Rattle.worked_updates.proofs.SizeLemmas.{sized}
use Rattle.worked_updates.proofs.move_rows.is_right_over.Goals as goal

pub keeps-requires-clause-vertices : goal.keeps-requires-clause-vertices
keeps-requires-clause-vertices g c = sized c.in_ok-tree.tree _ _ c.in_ok-dcg.ensures.exact.children c.vertex_count.ensures
