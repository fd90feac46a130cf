use Rattle.std.proofs.Common.{length, set, refl, sym, ◌∙◌, arith}
use Rattle.std.proofs.lemmas.Option.{slice_get_read, slice_get_within}
use Rattle.pattern_registry.proofs.MovedLemmas.{trees_stay}
use Rattle.pattern_registry.proofs.StepLemmas.{step_first, left_here, step_next, step_last}
use Rattle.pattern_registry.proofs.vertices.move_all.Goals as goal

pub loop-k-init : goal.loop-k-init
loop-k-init g c = record {
  moved = (c.requires.was.0, c.requires.was.1, step_first c.requires.was.0 (g.G.HoldGraph.graph c.args.graph.now) c.args.patterns.now c.args.indexes.now.items c.requires.was.2);
  trees = refl;
  steps = omega arith;
}

pub move_vertex-requires-clause-belongs : goal.move_vertex-requires-clause-belongs
move_vertex-requires-clause-belongs g c =
    let m = c.loop-k.invariant.moved in
    (left_here m.0 (g.G.HoldGraph.graph c.args.graph.now) c.args.patterns.now c.loop-k.indexes.items c.loop-k.k c.get.result.now c.index_mut.result.now m.2 c.get.ensures c.index_mut.ensures.value).belongs

pub move_vertex-requires-clause-was : goal.move_vertex-requires-clause-was
move_vertex-requires-clause-was g c =
    let m = c.loop-k.invariant.moved in
    let kept = left_here m.0 (g.G.HoldGraph.graph c.args.graph.now) c.args.patterns.now c.loop-k.indexes.items c.loop-k.k c.get.result.now c.index_mut.result.now m.2 c.get.ensures c.index_mut.ensures.value in
    (m.0, m.1, kept.exact)

pub returns-in_err-move_vertex-clause-trees : goal.returns-in_err-move_vertex-clause-trees
returns-in_err-move_vertex-clause-trees g c =
    let m = c.loop-k.invariant.moved in
    trees_stay c.loop-k.indexes.items c.loop-k.k c.index_mut.result.now c.move_vertex.new.self
    (slice_get_read c.loop-k.indexes.items (length c.args.patterns.now) c.loop-k.k c.index_mut.result.now (sym m.2.count) (slice_get_within c.args.patterns.now c.loop-k.k c.get.result.now c.get.ensures) c.index_mut.ensures.value)
    c.move_vertex.ensures.tree ∙ c.loop-k.invariant.trees

pub loop-k-preserved : goal.loop-k-preserved
loop-k-preserved g c =
    let h = g.G.HoldGraph.graph c.args.graph.now in
    let m = c.loop-k.invariant.moved in
    let indexes = c.loop-k.indexes.items in
    let index = c.index_mut.result.now in
    let kept = left_here m.0 h c.args.patterns.now indexes c.loop-k.k c.get.result.now index m.2 c.get.ensures c.index_mut.ensures.value in
    record {
      moved = (m.0, m.1, step_next m.0 h c.args.patterns.now indexes (set indexes c.loop-k.k c.move_vertex.new.self) c.loop-k.k c.get.result.now index c.move_vertex.new.self m.2 c.get.ensures refl kept.belongs c.move_vertex.ensures.tree c.in_ok-move_vertex.ensures.exact);
      trees = trees_stay indexes c.loop-k.k index c.move_vertex.new.self
          (slice_get_read indexes (length c.args.patterns.now) c.loop-k.k index (sym m.2.count) (slice_get_within c.args.patterns.now c.loop-k.k c.get.result.now c.get.ensures) c.index_mut.ensures.value)
          c.move_vertex.ensures.tree ∙ c.loop-k.invariant.trees;
      steps = omega (arith, c.loop-k.invariant.steps, c.move_vertex.ensures.steps);
    }

pub returns-clause-kept : goal.returns-clause-kept
returns-clause-kept g c =
    let m = c.loop-k.invariant.moved in
    step_last m.0 (g.G.HoldGraph.graph c.args.graph.now) c.args.patterns.now c.loop-k.indexes.items c.loop-k.k m.2 (omega arith)
