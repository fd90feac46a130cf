use Rattle.std.proofs.Common.{◌≡◌, length, get_or, set, refl, sym, ◌∙◌, arith}
use Rattle.std.specs.Prelude.{Some}
use Rattle.std.specs.List.{slice_get}
use Rattle.std.proofs.lemmas.Option.{slice_get_read}
use Rattle.flux_model.specs.Graph.{without_triple}
use Rattle.flux_model.specs.declared.maps.Delta.{Delta}
use Rattle.pattern_registry.specs.MovedRows.{gain}
use Rattle.pattern_registry.specs.Routes.{place_at}
use Rattle.pattern_registry.proofs.RouteLemmas.{first_passed}
use Rattle.pattern_registry.proofs.MovedLemmas.{moved_first, moved_from, moved_end, same_added, trees_stay, turn_here, kept_here}
use Rattle.pattern_registry.proofs.TurnLemmas.{deltas_first, deltas_turn, below_turn, above_here, deltas_last, no_gain, gain_is}
use Rattle.std.specs.List.{zip}
use Rattle.pattern_registry.specs.UpdateCosts.{both_costs}
use Rattle.pattern_registry.specs.MovedRows.{trees_of}
use Rattle.pattern_registry.proofs.SpendLemmas.{pair_here, spent_turn, spent_last}
use Rattle.pattern_registry.proofs.triples.insert_along.Goals as goal

pub loop-i-init : goal.loop-i-init
loop-i-init g c =
    let h = g.G.HoldGraph.graph c.args.graph.now in
    let t = c.args.triple.now in
    let qs = c.args.patterns.now in
    record {
      moved = moved_first t.label (without_triple h t) h (same_added h t c.edge_count-count.ensures.held.graph c.requires.stands) qs c.args.indexes.now.items (place_at c.args.route.now 0 (length qs)) c.requires.was (first_passed t.label qs c.args.route.now c.requires.route);
      deltas = deltas_first t.label (gain (without_triple h t) h) (no_gain h t c.edge_count-count.ensures.held.graph c.requires.stands) qs c.args.route.now c.requires.route c.new-deltas.result c.new-deltas.ensures;
      below = rw c.new-deltas.ensures tt;
      trees = refl;
      steps = omega arith;
    }

pub get-pattern-requires : goal.get-pattern-requires
get-pattern-requires g c = (turn_here c.args.triple.now.label c.args.patterns.now c.args.route.now c.requires.route c.loop-i.i (omega arith)).inside

pub index_mut-requires : goal.index_mut-requires
index_mut-requires g c =
    let turn = turn_here c.args.triple.now.label c.args.patterns.now c.args.route.now c.requires.route c.loop-i.i (omega arith) in
    omega (arith, turn.inside, c.loop-i.invariant.moved.count, c.loop-i.indexes.ok.0)

pub insert-requires-clause-belongs : goal.insert-requires-clause-belongs
insert-requires-clause-belongs g c =
    let h = g.G.HoldGraph.graph c.args.graph.now in
    let t = c.args.triple.now in
    (kept_here t.label c.args.patterns.now c.args.route.now c.requires.route c.loop-i.i (omega arith) (without_triple h t) h c.loop-i.indexes.items c.get-pattern.result.now c.index_mut.result.now
    c.loop-i.invariant.moved c.get-pattern.ensures c.index_mut.ensures.value).belongs

pub insert-requires-clause-was : goal.insert-requires-clause-was
insert-requires-clause-was g c =
    let h = g.G.HoldGraph.graph c.args.graph.now in
    let t = c.args.triple.now in
    (kept_here t.label c.args.patterns.now c.args.route.now c.requires.route c.loop-i.i (omega arith) (without_triple h t) h c.loop-i.indexes.items c.get-pattern.result.now c.index_mut.result.now
    c.loop-i.invariant.moved c.get-pattern.ensures c.index_mut.ensures.value).exact

pub add_unless_empty-requires : goal.add_unless_empty-requires
add_unless_empty-requires g c =
    let h = g.G.HoldGraph.graph c.args.graph.now in
    let t = c.args.triple.now in
    above_here t.label (gain (without_triple h t) h) (no_gain h t c.edge_count-count.ensures.held.graph c.requires.stands) c.args.patterns.now c.args.route.now c.requires.route c.loop-i.i (omega arith) c.loop-i.deltas c.loop-i.invariant.below

pub loop-i-preserved : goal.loop-i-preserved
loop-i-preserved g c =
    let h = g.G.HoldGraph.graph c.args.graph.now in
    let t = c.args.triple.now in
    let qs = c.args.patterns.now in
    let places = c.args.route.now in
    let k = get_or places c.loop-i.i 0 in
    let q = c.get-pattern.result.now in
    let indexes = c.loop-i.indexes.items in
    let index = c.index_mut.result.now in
    let graph = c.edge_count-count.ensures.held.graph in
    let turn = turn_here t.label qs places c.requires.route c.loop-i.i (omega arith) in
    let kept = kept_here t.label qs places c.requires.route c.loop-i.i (omega arith) (without_triple h t) h indexes q index c.loop-i.invariant.moved c.get-pattern.ensures c.index_mut.ensures.value in
    let here : slice_get indexes k ≡ Some index = slice_get_read indexes (length qs) k index (sym c.loop-i.invariant.moved.count) turn.inside c.index_mut.ensures.value in
    let d : Delta = record { pattern = k; gained = c.in_ok-gained.gained; lost = c.new.result } in
    record {
      moved = moved_from t.label (without_triple h t) h (same_added h t graph c.requires.stands) qs places c.requires.route c.loop-i.i (omega arith) indexes (set indexes k c.insert.new.self) q index c.insert.new.self
          c.loop-i.invariant.moved c.get-pattern.ensures refl kept.belongs c.insert.ensures.tree c.in_ok-gained.ensures.exact;
      deltas = deltas_turn t.label (gain (without_triple h t) h) (no_gain h t graph c.requires.stands) qs places c.requires.route c.loop-i.i (omega arith)
          q d c.loop-i.deltas c.add_unless_empty.new.self c.loop-i.invariant.deltas c.get-pattern.ensures
          (gain_is (without_triple h t) h k q c.in_ok-gained.gained c.new.result c.in_ok-gained.ensures.gained c.new.ensures) c.in_ok-add_unless_empty.ensures.ok;
      below = below_turn t.label (gain (without_triple h t) h) (no_gain h t graph c.requires.stands) qs places c.requires.route c.loop-i.i (omega arith)
          d c.loop-i.deltas c.add_unless_empty.new.self c.loop-i.invariant.below refl c.in_ok-add_unless_empty.ensures.ok;
      trees = trees_stay indexes k index c.insert.new.self here c.insert.ensures.tree ∙ c.loop-i.invariant.trees;
      steps = spent_turn (both_costs (without_triple h t) h t) (zip qs (trees_of c.args.indexes.now.items)) t.label qs places c.requires.route c.args.steps.now c.loop-i.i (omega arith) (q, index.tree) c.loop-i.steps c.insert.new.steps
          c.loop-i.invariant.steps (pair_here qs c.args.indexes.now.items indexes k q index c.loop-i.invariant.trees c.get-pattern.ensures here) c.in_ok-gained.ensures.steps;
    }

pub returns-clause-kept : goal.returns-clause-kept
returns-clause-kept g c =
    let h = g.G.HoldGraph.graph c.args.graph.now in
    let t = c.args.triple.now in
    moved_end t.label (without_triple h t) h (same_added h t c.edge_count-count.ensures.held.graph c.requires.stands) c.args.patterns.now c.args.route.now c.loop-i.i c.loop-i.indexes.items (omega arith) c.loop-i.invariant.moved

pub returns-clause-deltas : goal.returns-clause-deltas
returns-clause-deltas g c =
    let h = g.G.HoldGraph.graph c.args.graph.now in
    let t = c.args.triple.now in
    deltas_last t.label (gain (without_triple h t) h) (no_gain h t c.edge_count-count.ensures.held.graph c.requires.stands) c.args.patterns.now c.args.route.now c.requires.route c.loop-i.i c.loop-i.deltas (omega arith) c.loop-i.invariant.deltas

pub returns-in_err-gained-clause-trees : goal.returns-in_err-gained-clause-trees
returns-in_err-gained-clause-trees g c =
    let k = get_or c.args.route.now c.loop-i.i 0 in
    let indexes = c.loop-i.indexes.items in
    let turn = turn_here c.args.triple.now.label c.args.patterns.now c.args.route.now c.requires.route c.loop-i.i (omega arith) in
    trees_stay indexes k c.index_mut.result.now c.insert.new.self
    (slice_get_read indexes (length c.args.patterns.now) k c.index_mut.result.now (sym c.loop-i.invariant.moved.count) turn.inside c.index_mut.ensures.value) c.insert.ensures.tree ∙ c.loop-i.invariant.trees

pub returns-in_err-add_unless_empty-clause-trees : goal.returns-in_err-add_unless_empty-clause-trees
returns-in_err-add_unless_empty-clause-trees g c =
    let k = get_or c.args.route.now c.loop-i.i 0 in
    let indexes = c.loop-i.indexes.items in
    let turn = turn_here c.args.triple.now.label c.args.patterns.now c.args.route.now c.requires.route c.loop-i.i (omega arith) in
    trees_stay indexes k c.index_mut.result.now c.insert.new.self
    (slice_get_read indexes (length c.args.patterns.now) k c.index_mut.result.now (sym c.loop-i.invariant.moved.count) turn.inside c.index_mut.ensures.value) c.insert.ensures.tree ∙ c.loop-i.invariant.trees

pub returns-clause-steps : goal.returns-clause-steps
returns-clause-steps g c =
    let h = g.G.HoldGraph.graph c.args.graph.now in
    let t = c.args.triple.now in
    spent_last (both_costs (without_triple h t) h t) (zip c.args.patterns.now (trees_of c.args.indexes.now.items)) c.args.steps.now (place_at c.args.route.now c.loop-i.i (length c.args.patterns.now)) c.loop-i.steps c.loop-i.invariant.steps
