use Rattle.std.proofs.lemmas.List.{take_all}
use Rattle.pattern_registry.specs.UpdateCosts.{looks_from}
use Rattle.std.proofs.Common.{◌+◌, take, ◌≡◌, length, subst, arith, ◌≤◌}
use Rattle.std.specs.Prelude.{IsPermutation, flat_map}
use Rattle.std.specs.List.{range_with_len}
use Rattle.std.proofs.lemmas.List.Sorted.{IsPermutation-trans}
use Rattle.flux_model.specs.Change.{gained}
use Rattle.flux_model.specs.Graph.{without_triple}
use Rattle.flux_model.specs.Classes.{edge_class}
use Rattle.flux_laws.proofs.ClassesLemmas.{gained_by_classes}
use Rattle.pattern_registry.proofs.ClassLemmas.{classes_next, nothing_gained}
use Rattle.pattern_registry.proofs.SpendLemmas.{looks_next}
use Rattle.pattern_registry.proofs.index.PatternIndex.embeddings_using.Goals as goal

pub returns-then-has_none-clause-gained : goal.returns-then-has_none-clause-gained
returns-then-has_none-clause-gained g c =
    let h = g.G.HoldGraph.graph c.args.graph.now in
    nothing_gained c.args.pattern.now (without_triple h c.args.triple.now) h c.new-maps.result (c.has_none.ensures.none c.if-has_none.true) c.new-maps.ensures

pub loop-i-preserved : goal.loop-i-preserved
loop-i-preserved g c = record {
  found = classes_next (edge_class c.args.pattern.now (g.G.HoldGraph.graph c.args.graph.now) c.args.triple.now) c.loop-i.i c.loop-i.maps c.at_edge.new.found c.loop-i.invariant.found c.in_ok-at_edge.ensures.found;
  steps = looks_next c.args.pattern.now c.args.self.now.tree (g.G.HoldGraph.graph c.args.graph.now) c.args.triple.now c.loop-i.i c.args.steps.now c.loop-i.steps c.at_edge.new.steps (omega arith) c.loop-i.invariant.steps c.in_ok-at_edge.ensures.steps;
}

pub returns-clause-gained : goal.returns-clause-gained
returns-clause-gained g c =
    let q = c.args.pattern.now in
    let h = g.G.HoldGraph.graph c.args.graph.now in
    let t = c.args.triple.now in
    let count : c.loop-i.i ≡ length q.edges = omega arith in
    IsPermutation-trans (gained q (without_triple h t) h) (flat_map (edge_class q h t) (range_with_len 0 (length q.edges))) c.loop-i.maps
    (gained_by_classes q h t c.edge_count-count.ensures.held.graph c.requires.stands)
    (subst (λ n. IsPermutation (flat_map (edge_class q h t) (range_with_len 0 n)) c.loop-i.maps) count c.loop-i.invariant.found)

pub returns-clause-steps : goal.returns-clause-steps
returns-clause-steps g c =
    let q = c.args.pattern.now in
    let all : take c.loop-i.i q.edges ≡ q.edges = take_all c.loop-i.i q.edges (omega arith) in
    subst (λ es. c.loop-i.steps ≤ c.args.steps.now + looks_from q c.args.self.now.tree (g.G.HoldGraph.graph c.args.graph.now) c.args.triple.now es) all c.loop-i.invariant.steps
