use Rattle.std.proofs.Common.{sym, ap, ℕ, List, length, get_or, Bool, arith}
use Rattle.std.proofs.lemmas.List.Folds.{list_all_at}
use Rattle.flux_model.specs.Partial.{edge_joins, joins}
use Rattle.flux_model.specs.Tree.{edge_at, non_tree}
use Rattle.flux_model.specs.declared.pattern.PatternEdge.{PatternEdge}
use Rattle.nontree_test.proofs.NonTreeLemmas.{non_tree_within, few_non_tree, told_of_place, place_within, others_decide}
use Rattle.nontree_test.proofs.edges.joins.Goals as goal

pub edge-requires : goal.edge-requires
edge-requires g c =
    let numbers = c.non_tree-i-items.ensures in
    let within = non_tree_within c.args.pattern.now c.args.tree.now c.requires.belongs c.loop-i.i-index (place_within _ _ _ numbers c.loop-i-test.true) in
    omega (arith, within, ap (λ (l : List ℕ). get_or l c.loop-i.i-index 0) numbers)

pub returns-then-not-edge_joins-clause-value : goal.returns-then-not-edge_joins-clause-value
returns-then-not-edge_joins-clause-value g c =
    let q = c.args.pattern.now in
    let rest = non_tree c.args.tree.now in
    let test : PatternEdge → Bool = edge_joins (g.G.HoldGraph.graph c.args.graph.now) c.args.partial.now c.args.w c.args.x in
    let fails = told_of_place q test c.non_tree-i-items.result.now rest c.loop-i.i-index c.edge.result.now _ _ c.non_tree-i-items.ensures c.edge.ensures.edge c.edge_joins.ensures.value c.if-not-edge_joins.true in
    sym (list_all_at (λ i. test (edge_at q i)) rest c.loop-i.i-index 0 (place_within _ _ _ c.non_tree-i-items.ensures c.loop-i-test.true) fails)

pub returns-then-not-edge_joins-clause-steps : goal.returns-then-not-edge_joins-clause-steps
returns-then-not-edge_joins-clause-steps g c =
    let place = place_within _ _ _ c.non_tree-i-items.ensures c.loop-i-test.true in
    omega (arith, few_non_tree c.args.pattern.now c.args.tree.now c.requires.belongs, place, c.edge_joins.ensures.steps, c.loop-i.invariant.steps)

pub loop-i-preserved : goal.loop-i-preserved
loop-i-preserved g c =
    let q = c.args.pattern.now in
    let rest = non_tree c.args.tree.now in
    let test : PatternEdge → Bool = edge_joins (g.G.HoldGraph.graph c.args.graph.now) c.args.partial.now c.args.w c.args.x in
    let passes = told_of_place q test c.non_tree-i-items.result.now rest c.loop-i.i-index c.edge.result.now _ _ c.non_tree-i-items.ensures c.edge.ensures.edge c.edge_joins.ensures.value c.if-not-edge_joins.false in
    record {
      left = others_decide (λ i. test (edge_at q i)) rest c.loop-i.i-index (joins q c.args.tree.now (g.G.HoldGraph.graph c.args.graph.now) c.args.partial.now c.args.w c.args.x) (place_within _ _ _ c.non_tree-i-items.ensures c.loop-i-test.true) passes c.loop-i.invariant.left;
      steps = omega (arith, c.edge_joins.ensures.steps, c.loop-i.invariant.steps);
      onward = omega (arith, c.edge_joins.ensures.onward, c.loop-i.invariant.onward);
    }

pub returns-clause-steps : goal.returns-clause-steps
returns-clause-steps g c =
    let size = ap (λ (l : List ℕ). length l) c.non_tree-i-items.ensures in
    omega (arith, few_non_tree c.args.pattern.now c.args.tree.now c.requires.belongs, size, c.loop-i.auto.i-index-end, c.loop-i.invariant.steps)
