use Rattle.worked_updates.proofs.SizeLemmas.{sized}
use Rattle.worked_updates.proofs.drawn_rows.is_as_built.Goals as goal

pub are_same-requires-clause-one_vertices : goal.are_same-requires-clause-one_vertices
are_same-requires-clause-one_vertices g c = sized c.args.tree.now _ _ c.requires.exact.children c.vertex_count.ensures

pub are_same-requires-clause-other_vertices : goal.are_same-requires-clause-other_vertices
are_same-requires-clause-other_vertices g c = sized c.args.tree.now _ _ c.in_ok-built.ensures.exact.children c.vertex_count.ensures
