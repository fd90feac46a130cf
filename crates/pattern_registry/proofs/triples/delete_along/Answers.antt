use Rattle.std.proofs.Common.{◌≡◌, length, get_or, refl, sym, ◌∙◌, arith, set}
use Rattle.std.specs.Prelude.{Some}
use Rattle.std.specs.List.{slice_get}
use Rattle.std.proofs.lemmas.Option.{slice_get_read}
use Rattle.flux_model.specs.Graph.{with_triple}
use Rattle.pattern_registry.specs.Routes.{place_at}
use Rattle.pattern_registry.proofs.RouteLemmas.{first_passed}
use Rattle.pattern_registry.proofs.MovedLemmas.{moved_first, moved_end, moved_from, same_taken, trees_stay, turn_here, kept_here}
use Rattle.std.specs.List.{zip}
use Rattle.pattern_registry.specs.UpdateCosts.{rows_cost}
use Rattle.pattern_registry.specs.MovedRows.{trees_of}
use Rattle.pattern_registry.proofs.SpendLemmas.{pair_here, spent_turn, spent_last}
use Rattle.pattern_registry.proofs.triples.delete_along.Goals as goal

pub loop-i-init : goal.loop-i-init
loop-i-init g c =
    let h = g.G.HoldGraph.graph c.args.graph.now in
    let t = c.args.triple.now in
    let qs = c.args.patterns.now in
    record {
      moved = moved_first t.label (with_triple h t) h (same_taken h t) qs c.args.indexes.now.items (place_at c.args.route.now 0 (length qs)) c.requires.was (first_passed t.label qs c.args.route.now c.requires.route);
      trees = refl;
      steps = omega arith;
    }

pub get-pattern-requires : goal.get-pattern-requires
get-pattern-requires g c = (turn_here c.args.triple.now.label c.args.patterns.now c.args.route.now c.requires.route c.loop-i.i (omega arith)).inside

pub index_mut-requires : goal.index_mut-requires
index_mut-requires g c =
    let turn = turn_here c.args.triple.now.label c.args.patterns.now c.args.route.now c.requires.route c.loop-i.i (omega arith) in
    omega (arith, turn.inside, c.loop-i.invariant.moved.count, c.loop-i.indexes.ok.0)

pub delete-requires-clause-belongs : goal.delete-requires-clause-belongs
delete-requires-clause-belongs g c =
    let h = g.G.HoldGraph.graph c.args.graph.now in
    let t = c.args.triple.now in
    (kept_here t.label c.args.patterns.now c.args.route.now c.requires.route c.loop-i.i (omega arith) (with_triple h t) h c.loop-i.indexes.items c.get-pattern.result.now c.index_mut.result.now
    c.loop-i.invariant.moved c.get-pattern.ensures c.index_mut.ensures.value).belongs

pub delete-requires-clause-was : goal.delete-requires-clause-was
delete-requires-clause-was g c =
    let h = g.G.HoldGraph.graph c.args.graph.now in
    let t = c.args.triple.now in
    (kept_here t.label c.args.patterns.now c.args.route.now c.requires.route c.loop-i.i (omega arith) (with_triple h t) h c.loop-i.indexes.items c.get-pattern.result.now c.index_mut.result.now
    c.loop-i.invariant.moved c.get-pattern.ensures c.index_mut.ensures.value).exact

pub loop-i-preserved : goal.loop-i-preserved
loop-i-preserved g c =
    let h = g.G.HoldGraph.graph c.args.graph.now in
    let t = c.args.triple.now in
    let qs = c.args.patterns.now in
    let places = c.args.route.now in
    let k = get_or places c.loop-i.i 0 in
    let indexes = c.loop-i.indexes.items in
    let index = c.index_mut.result.now in
    let turn = turn_here t.label qs places c.requires.route c.loop-i.i (omega arith) in
    let kept = kept_here t.label qs places c.requires.route c.loop-i.i (omega arith) (with_triple h t) h indexes c.get-pattern.result.now index c.loop-i.invariant.moved c.get-pattern.ensures c.index_mut.ensures.value in
    let here : slice_get indexes k ≡ Some index = slice_get_read indexes (length qs) k index (sym c.loop-i.invariant.moved.count) turn.inside c.index_mut.ensures.value in
    record {
      moved = moved_from t.label (with_triple h t) h (same_taken h t) qs places c.requires.route c.loop-i.i (omega arith) indexes (set indexes k c.delete.new.self) c.get-pattern.result.now index c.delete.new.self
          c.loop-i.invariant.moved c.get-pattern.ensures refl kept.belongs c.delete.ensures.tree c.delete.ensures.exact;
      trees = trees_stay indexes k index c.delete.new.self here c.delete.ensures.tree ∙ c.loop-i.invariant.trees;
      steps = spent_turn (rows_cost h (with_triple h t) t) (zip qs (trees_of c.args.indexes.now.items)) t.label qs places c.requires.route c.args.steps.now c.loop-i.i (omega arith) (c.get-pattern.result.now, index.tree) c.loop-i.steps c.delete.new.steps
          c.loop-i.invariant.steps (pair_here qs c.args.indexes.now.items indexes k c.get-pattern.result.now index c.loop-i.invariant.trees c.get-pattern.ensures here) c.delete.ensures.steps;
    }

pub returns-clause-kept : goal.returns-clause-kept
returns-clause-kept g c =
    let h = g.G.HoldGraph.graph c.args.graph.now in
    let t = c.args.triple.now in
    moved_end t.label (with_triple h t) h (same_taken h t) c.args.patterns.now c.args.route.now c.loop-i.i c.loop-i.indexes.items (omega arith) c.loop-i.invariant.moved

pub returns-clause-steps : goal.returns-clause-steps
returns-clause-steps g c =
    let h = g.G.HoldGraph.graph c.args.graph.now in
    let t = c.args.triple.now in
    spent_last (rows_cost h (with_triple h t) t) (zip c.args.patterns.now (trees_of c.args.indexes.now.items)) c.args.steps.now (place_at c.args.route.now c.loop-i.i (length c.args.patterns.now)) c.loop-i.steps c.loop-i.invariant.steps
