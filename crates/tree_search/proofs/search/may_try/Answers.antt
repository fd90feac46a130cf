use Rattle.std.proofs.Common.{None, sym, ◌∙◌}
use Rattle.std.proofs.lemmas.Option.{get_or_from_slice_get}
use Rattle.tree_search.proofs.AheadLemmas.{none_with_id}
use Rattle.tree_search.proofs.PassLemmas.{dead_end}
use Rattle.tree_search.proofs.search.may_try.Goals as goal

pub returns-then-not-meets_head-clause-none : goal.returns-then-not-meets_head-clause-none
returns-then-not-meets_head-clause-none g c = λ _.
    (let s = c.args.search.now in
    none_with_id s.pattern.now (g.G.HoldGraph.graph s.graph.now) s.aim c.args.partial.now c.args.w c.args.x c.requires.vertex (c.meets_head.ensures.none c.if-not-meets_head.true))

pub returns-clause-none : goal.returns-clause-none
returns-clause-none g c = λ fails.
    (let s = c.args.search.now in
    let p = c.args.partial.now in
    dead_end s.pattern.now s.tree.now (g.G.HoldGraph.graph s.graph.now) c.requires.ready.belongs p c.args.w c.args.x c.requires.places c.requires.vertex (get_or_from_slice_get p c.args.w None None c.requires.open) s.aim (sym c.may_take.ensures.value ∙ fails))
