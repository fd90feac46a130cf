use Rattle.std.proofs.Common.{◌∙◌, ap, List, ℕ, arith}
use Rattle.flux_model.specs.Tree.{tree_for, next_tree}
use Rattle.query_tree.proofs.ChooseLemmas.{left_more, left_none, chosen_belongs, ok_belongs}
use Rattle.query_tree.proofs.tree.QueryTree.choose.Goals as goal

pub loop-preserved : goal.loop-preserved
loop-preserved c =
    let q = c.args.pattern.now in
    let cards = c.args.cards.now.edges in
    let step = c.grow.ensures.tree ∙ ap (λ (l : List ℕ). next_tree q l c.loop.growth) c.edges.ensures in
    record {
      count = c.grow.ensures.vertices ∙ c.loop.invariant.count;
      left = left_more q cards c.vertex_count-count.result c.loop.counter c.loop.growth c.grow.new.self c.loop-test.true step ∙ c.loop.invariant.left;
    }

pub finish-requires-clause-tree : goal.finish-requires-clause-tree
finish-requires-clause-tree c =
    let q = c.args.pattern.now in
    let edges = c.args.cards.now.edges in
    let vertices = c.args.cards.now.vertices in
    (chosen_belongs q c.vertex_count-count.ensures.pattern edges vertices c.loop.growth
    (left_none q edges c.vertex_count-count.result c.loop.counter c.loop.growth (tree_for q edges vertices) c.loop-test.false c.loop.invariant.left)).tree

pub finish-requires-clause-few : goal.finish-requires-clause-few
finish-requires-clause-few c = omega (arith, c.loop.invariant.count, c.vertex_count-count.ensures.pattern.few_vertices)

pub returns-clause-belongs : goal.returns-clause-belongs
returns-clause-belongs c =
    let q = c.args.pattern.now in
    let edges = c.args.cards.now.edges in
    let vertices = c.args.cards.now.vertices in
    ok_belongs q c.loop.growth c.finish.result
    (chosen_belongs q c.vertex_count-count.ensures.pattern edges vertices c.loop.growth
    (left_none q edges c.vertex_count-count.result c.loop.counter c.loop.growth (tree_for q edges vertices) c.loop-test.false c.loop.invariant.left))
    c.finish.ensures
