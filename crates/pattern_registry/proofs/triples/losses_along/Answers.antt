use Rattle.std.proofs.Common.{length, get_or, refl, sym, arith}
use Rattle.std.proofs.lemmas.Option.{slice_get_read}
use Rattle.flux_model.specs.Graph.{without_triple}
use Rattle.flux_model.specs.declared.maps.Delta.{Delta}
use Rattle.pattern_registry.specs.MovedRows.{loss}
use Rattle.pattern_registry.proofs.MovedLemmas.{turn_here}
use Rattle.pattern_registry.proofs.TurnLemmas.{deltas_first, deltas_turn, below_turn, above_here, deltas_last, no_loss, loss_is}
use Rattle.std.specs.List.{zip}
use Rattle.pattern_registry.specs.Routes.{place_at}
use Rattle.pattern_registry.specs.UpdateCosts.{looks_cost}
use Rattle.pattern_registry.specs.MovedRows.{trees_of}
use Rattle.pattern_registry.proofs.SpendLemmas.{pair_here, spent_turn, spent_last}
use Rattle.pattern_registry.proofs.triples.losses_along.Goals as goal

pub loop-i-init : goal.loop-i-init
loop-i-init g c =
    let h = g.G.HoldGraph.graph c.args.graph.now in
    let t = c.args.triple.now in
    record {
      deltas = deltas_first t.label (loss h (without_triple h t)) (no_loss h t c.edge_count-count.ensures.held.graph c.requires.stands) c.args.patterns.now c.args.route.now c.requires.route c.new-deltas.result c.new-deltas.ensures;
      below = rw c.new-deltas.ensures tt;
      steps = omega arith;
    }

pub get-pattern-requires : goal.get-pattern-requires
get-pattern-requires g c = (turn_here c.args.triple.now.label c.args.patterns.now c.args.route.now c.requires.route c.loop-i.i (omega arith)).inside

pub index-requires : goal.index-requires
index-requires g c =
    let turn = turn_here c.args.triple.now.label c.args.patterns.now c.args.route.now c.requires.route c.loop-i.i (omega arith) in
    omega (arith, turn.inside, c.requires.kept.count, c.args.indexes.now.ok.0)

pub embeddings_using-requires-clause-belongs : goal.embeddings_using-requires-clause-belongs
embeddings_using-requires-clause-belongs g c =
    let k = get_or c.args.route.now c.loop-i.i 0 in
    let turn = turn_here c.args.triple.now.label c.args.patterns.now c.args.route.now c.requires.route c.loop-i.i (omega arith) in
    (c.requires.kept.each k c.get-pattern.result.now c.index.result.now c.get-pattern.ensures
    (slice_get_read c.args.indexes.now.items (length c.args.patterns.now) k c.index.result.now (sym c.requires.kept.count) turn.inside c.index.ensures)).belongs

pub embeddings_using-requires-clause-exact : goal.embeddings_using-requires-clause-exact
embeddings_using-requires-clause-exact g c =
    let k = get_or c.args.route.now c.loop-i.i 0 in
    let turn = turn_here c.args.triple.now.label c.args.patterns.now c.args.route.now c.requires.route c.loop-i.i (omega arith) in
    (c.requires.kept.each k c.get-pattern.result.now c.index.result.now c.get-pattern.ensures
    (slice_get_read c.args.indexes.now.items (length c.args.patterns.now) k c.index.result.now (sym c.requires.kept.count) turn.inside c.index.ensures)).exact

pub add_unless_empty-requires : goal.add_unless_empty-requires
add_unless_empty-requires g c =
    let h = g.G.HoldGraph.graph c.args.graph.now in
    let t = c.args.triple.now in
    above_here t.label (loss h (without_triple h t)) (no_loss h t c.edge_count-count.ensures.held.graph c.requires.stands) c.args.patterns.now c.args.route.now c.requires.route c.loop-i.i (omega arith) c.loop-i.deltas c.loop-i.invariant.below

pub loop-i-preserved : goal.loop-i-preserved
loop-i-preserved g c =
    let h = g.G.HoldGraph.graph c.args.graph.now in
    let t = c.args.triple.now in
    let k = get_or c.args.route.now c.loop-i.i 0 in
    let d : Delta = record { pattern = k; gained = c.new.result; lost = c.in_ok-lost.lost } in
    record {
      deltas = deltas_turn t.label (loss h (without_triple h t)) (no_loss h t c.edge_count-count.ensures.held.graph c.requires.stands) c.args.patterns.now c.args.route.now c.requires.route c.loop-i.i (omega arith)
          c.get-pattern.result.now d c.loop-i.deltas c.add_unless_empty.new.self c.loop-i.invariant.deltas c.get-pattern.ensures
          (loss_is h (without_triple h t) k c.get-pattern.result.now c.in_ok-lost.lost c.new.result c.in_ok-lost.ensures.gained c.new.ensures) c.in_ok-add_unless_empty.ensures.ok;
      below = below_turn t.label (loss h (without_triple h t)) (no_loss h t c.edge_count-count.ensures.held.graph c.requires.stands) c.args.patterns.now c.args.route.now c.requires.route c.loop-i.i (omega arith)
          d c.loop-i.deltas c.add_unless_empty.new.self c.loop-i.invariant.below refl c.in_ok-add_unless_empty.ensures.ok;
      steps = spent_turn (looks_cost h t) (zip c.args.patterns.now (trees_of c.args.indexes.now.items)) t.label c.args.patterns.now c.args.route.now c.requires.route c.args.steps.now c.loop-i.i (omega arith) (c.get-pattern.result.now, c.index.result.now.tree) c.loop-i.steps c.embeddings_using.new.steps
          c.loop-i.invariant.steps (pair_here c.args.patterns.now c.args.indexes.now.items c.args.indexes.now.items k c.get-pattern.result.now c.index.result.now refl c.get-pattern.ensures
          (slice_get_read c.args.indexes.now.items (length c.args.patterns.now) k c.index.result.now (sym c.requires.kept.count) (turn_here t.label c.args.patterns.now c.args.route.now c.requires.route c.loop-i.i (omega arith)).inside c.index.ensures)) c.in_ok-lost.ensures.steps;
    }

pub returns-clause-deltas : goal.returns-clause-deltas
returns-clause-deltas g c =
    let h = g.G.HoldGraph.graph c.args.graph.now in
    let t = c.args.triple.now in
    deltas_last t.label (loss h (without_triple h t)) (no_loss h t c.edge_count-count.ensures.held.graph c.requires.stands) c.args.patterns.now c.args.route.now c.requires.route c.loop-i.i c.loop-i.deltas (omega arith) c.loop-i.invariant.deltas

pub returns-clause-steps : goal.returns-clause-steps
returns-clause-steps g c =
    let h = g.G.HoldGraph.graph c.args.graph.now in
    spent_last (looks_cost h c.args.triple.now) (zip c.args.patterns.now (trees_of c.args.indexes.now.items)) c.args.steps.now (place_at c.args.route.now c.loop-i.i (length c.args.patterns.now)) c.loop-i.steps c.loop-i.invariant.steps
