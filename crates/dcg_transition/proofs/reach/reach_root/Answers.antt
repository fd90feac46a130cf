use Rattle.std.proofs.Common.{◌≡◌, ℕ, ◌<◌, List, length, refl, ap, subst, ◌∙◌, arith}
use Rattle.std.specs.Prelude.{Some, slice_get, slice_index}
use Rattle.std.proofs.lemmas.Option.{slice_get-get_or}
use Rattle.flux_model.specs.Exact.{StateRows, row_at}
use Rattle.dcg_transition.proofs.BegunLemmas.{none_more}
use Rattle.dcg_transition.proofs.LevelLemmas.{length-child_counts}
use Rattle.dcg_transition.proofs.RootLemmas.{root_begins, root_few, root_room, root_next, root_reached}
use Rattle.dcg_transition.proofs.reach.reach_root.Goals as goal

pub loop-v-init : goal.loop-v-init
loop-v-init g c =
    let labels = subst (λ u. slice_get c.args.pattern.now.labels u ≡ Some c.labels-labels.result.now) c.root-root.ensures.root c.labels-labels.ensures in
    record {
      reached = none_more c.args.tree.now.root c.args.dcg.now c.args.dcg.now _
          (root_begins c.args.pattern.now c.args.tree.now c.requires.belongs (g.G.HoldGraph.graph c.args.graph.now) c.labels-labels.result.now labels c.args.dcg.now c.requires.empty) refl (λ w. refl);
      steps = omega arith;
    }

pub raise_in-requires-clause-vertex : goal.raise_in-requires-clause-vertex
raise_in-requires-clause-vertex g c =
    let size = ap (λ (l : List ℕ). length l) (c.loop-v.invariant.reached.beside.children ∙ ap (λ (d : StateRows). d.children) c.requires.empty) in
    omega (arith, size, length-child_counts c.args.tree.now, c.root-root.ensures.root, c.requires.belongs.tree.root)

pub raise_in-requires-clause-room : goal.raise_in-requires-clause-room
raise_in-requires-clause-room g c =
    let graph = c.args.graph.now in
    let labels = subst (λ u. slice_get c.args.pattern.now.labels u ≡ Some c.labels-labels.result.now) c.root-root.ensures.root c.labels-labels.ensures in
    let known = c.vertex_count-count.ensures in
    let v = slice_index c.args.roots.now c.loop-v.v-index in
    λ row e.
    root_room c.args.pattern.now c.args.tree.now c.requires.belongs (g.G.HoldGraph.graph graph) c.labels-labels.result.now labels c.args.dcg.now c.requires.empty
    (g.G.HoldGraph.limits graph) known.held (g.G.HoldGraph.listed graph) known.listed c.args.roots.now c.requires.roots c.loop-v.v-index v c.loop-v.dcg row c.loop-v.invariant.reached
    (subst (λ u. row_at c.loop-v.dcg u v ≡ Some row) c.root-root.ensures.root e)

pub loop-v-preserved : goal.loop-v-preserved
loop-v-preserved g c =
    let graph = c.args.graph.now in
    let labels = subst (λ u. slice_get c.args.pattern.now.labels u ≡ Some c.labels-labels.result.now) c.root-root.ensures.root c.labels-labels.ensures in
    let known = c.vertex_count-count.ensures in
    let within : c.loop-v.v-index < length c.args.roots.now = omega (arith, c.loop-v-test.true) in
    record {
      reached = root_next c.args.pattern.now c.args.tree.now c.requires.belongs (g.G.HoldGraph.graph graph) c.labels-labels.result.now labels c.args.dcg.now c.requires.empty
          (g.G.HoldGraph.limits graph) known.held (g.G.HoldGraph.listed graph) known.listed c.args.roots.now c.requires.roots c.loop-v.v-index (slice_index c.args.roots.now c.loop-v.v-index) c.root-root.result c.loop-v.dcg c.raise_in.new.self
          (slice_get-get_or c.args.roots.now c.loop-v.v-index 0 within) c.root-root.ensures.root c.loop-v.invariant.reached c.in_ok-raise_in.ensures.ok;
      steps = omega (arith, c.raise_in.ensures.step, c.loop-v.invariant.steps);
    }

pub returns-clause-reached : goal.returns-clause-reached
returns-clause-reached g c =
    let graph = c.args.graph.now in
    let labels = subst (λ u. slice_get c.args.pattern.now.labels u ≡ Some c.labels-labels.result.now) c.root-root.ensures.root c.labels-labels.ensures in
    let known = c.vertex_count-count.ensures in
    root_reached c.args.pattern.now c.args.tree.now c.requires.belongs (g.G.HoldGraph.graph graph) c.labels-labels.result.now labels c.args.dcg.now c.requires.empty
    (g.G.HoldGraph.limits graph) known.held (g.G.HoldGraph.listed graph) known.listed c.args.roots.now c.requires.roots c.loop-v.v-index c.loop-v.dcg (omega (arith, c.loop-v-test.false)) c.loop-v.invariant.reached

pub returns-clause-steps : goal.returns-clause-steps
returns-clause-steps g c =
    let graph = c.args.graph.now in
    let labels = subst (λ u. slice_get c.args.pattern.now.labels u ≡ Some c.labels-labels.result.now) c.root-root.ensures.root c.labels-labels.ensures in
    let known = c.vertex_count-count.ensures in
    let few = root_few c.args.pattern.now c.args.tree.now c.requires.belongs (g.G.HoldGraph.graph graph) c.labels-labels.result.now labels c.args.dcg.now c.requires.empty
    (g.G.HoldGraph.limits graph) known.held (g.G.HoldGraph.listed graph) known.listed c.args.roots.now c.requires.roots in
    omega (arith, c.loop-v.invariant.steps, c.loop-v.auto.v-index-end, few)
