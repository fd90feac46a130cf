use Rattle.std.proofs.Common.{◌≡◌, ℕ, ◌+◌, ◌<◌, List, length, refl, sym, ap, subst, ◌∙◌, arith}
use Rattle.std.specs.Prelude.{nat_eq, slice_index}
use Rattle.std.specs.List.{list_any, IsDistinct}
use Rattle.std.proofs.lemmas.Option.{slice_get-get_or}
use Rattle.flux_model.specs.States.{joined}
use Rattle.query_tree.specs.Depth.{depth}
use Rattle.query_tree.proofs.CallerLemmas.{link_within, parent_within}
use Rattle.dcg_transition.specs.Levels.{is_before, IsReached}
use Rattle.dcg_transition.proofs.BegunLemmas.{none_more}
use Rattle.dcg_transition.proofs.LevelLemmas.{length-child_counts}
use Rattle.dcg_transition.proofs.ReachLemmas.{any_at, begins, in_rows, row_stands, room, one_further, vertex_reached}
use Rattle.dcg_transition.proofs.StepLemmas.{rows-turn, rows-end}
use Rattle.dcg_transition.proofs.reach.reach_vertex.Goals as goal

pub row_vertices-requires-clause-vertex : goal.row_vertices-requires-clause-vertex
row_vertices-requires-clause-vertex g c =
    let t = c.args.tree.now in
    let b = c.of-branch.result in
    let size = ap (λ (l : List ℕ). length l) c.requires.reached.children in
    omega (arith, size, length-child_counts t, parent_within t c.requires.belongs.tree b.child b.link c.of-branch.ensures.branch.link)

pub loop-v-init : goal.loop-v-init
loop-v-init g c =
    let q = c.args.pattern.now in
    let t = c.args.tree.now in
    let graph = g.G.HoldGraph.graph c.args.graph.now in
    let b = c.of-branch.result in
    let reached = subst (λ u. IsReached (joined q t graph) (is_before t (depth t u) u) c.args.dcg.now) (sym c.of-branch.ensures.child) c.requires.reached in
    record {
      ins = none_more b.child c.args.dcg.now c.args.dcg.now _ (begins q t c.requires.belongs b c.of-branch.ensures.branch graph c.args.dcg.now reached) refl (λ w. refl);
      steps = omega arith;
    }

pub reach_ends-requires-clause-stands : goal.reach_ends-requires-clause-stands
reach_ends-requires-clause-stands g c =
    let q = c.args.pattern.now in
    let t = c.args.tree.now in
    let graph = g.G.HoldGraph.graph c.args.graph.now in
    let b = c.of-branch.result in
    let reached = subst (λ u. IsReached (joined q t graph) (is_before t (depth t u) u) c.args.dcg.now) (sym c.of-branch.ensures.child) c.requires.reached in
    let vs = c.deref-v-items.result.now in
    let same : c.deref-v-items.result.now ≡ c.row_vertices.result.now = c.deref-v-items.ensures.value ∙ c.in_ok-vertices.ensures.items in
    let rows = λ (v : ℕ). ap (list_any (nat_eq v)) same ∙ c.row_vertices.ensures.rows v in
    let within : c.loop-v.v-index < length c.deref-v-items.result.now = omega (arith, c.loop-v-test.true) in
    let some = sym (rows (slice_index vs c.loop-v.v-index)) ∙ any_at vs c.loop-v.v-index within in
    row_stands q t c.requires.belongs b c.of-branch.ensures.branch graph c.args.dcg.now reached (slice_index vs c.loop-v.v-index) some

pub reach_ends-requires-clause-child : goal.reach_ends-requires-clause-child
reach_ends-requires-clause-child g c =
    let t = c.args.tree.now in
    let b = c.of-branch.result in
    let size = ap (λ (l : List ℕ). length l) (c.loop-v.invariant.ins.beside.children ∙ c.requires.reached.children) in
    omega (arith, size, length-child_counts t, link_within t b.child b.link c.of-branch.ensures.branch.link)

pub reach_ends-requires-clause-room : goal.reach_ends-requires-clause-room
reach_ends-requires-clause-room g c =
    let q = c.args.pattern.now in
    let t = c.args.tree.now in
    let graph = g.G.HoldGraph.graph c.args.graph.now in
    let b = c.of-branch.result in
    let reached = subst (λ u. IsReached (joined q t graph) (is_before t (depth t u) u) c.args.dcg.now) (sym c.of-branch.ensures.child) c.requires.reached in
    let vs = c.deref-v-items.result.now in
    let same : c.deref-v-items.result.now ≡ c.row_vertices.result.now = c.deref-v-items.ensures.value ∙ c.in_ok-vertices.ensures.items in
    let rows = λ (v : ℕ). ap (list_any (nat_eq v)) same ∙ c.row_vertices.ensures.rows v in
    let distinct : IsDistinct nat_eq c.deref-v-items.result.now = subst (IsDistinct nat_eq) (sym same) c.row_vertices.ensures.once in
    let inside = in_rows q t c.requires.belongs b c.of-branch.ensures.branch graph c.args.dcg.now reached vs rows in
    λ w.
    room q t c.requires.belongs b c.of-branch.ensures.branch graph c.args.dcg.now reached (g.G.HoldGraph.limits c.args.graph.now) c.edge_count-count.ensures.held vs distinct inside c.loop-v.v-index (slice_index vs c.loop-v.v-index) w c.loop-v.dcg c.loop-v.invariant.ins

pub loop-v-preserved : goal.loop-v-preserved
loop-v-preserved g c =
    let q = c.args.pattern.now in
    let t = c.args.tree.now in
    let graph = g.G.HoldGraph.graph c.args.graph.now in
    let b = c.of-branch.result in
    let reached = subst (λ u. IsReached (joined q t graph) (is_before t (depth t u) u) c.args.dcg.now) (sym c.of-branch.ensures.child) c.requires.reached in
    let vs = c.deref-v-items.result.now in
    let same : c.deref-v-items.result.now ≡ c.row_vertices.result.now = c.deref-v-items.ensures.value ∙ c.in_ok-vertices.ensures.items in
    let rows = λ (v : ℕ). ap (list_any (nat_eq v)) same ∙ c.row_vertices.ensures.rows v in
    let distinct : IsDistinct nat_eq c.deref-v-items.result.now = subst (IsDistinct nat_eq) (sym same) c.row_vertices.ensures.once in
    let inside = in_rows q t c.requires.belongs b c.of-branch.ensures.branch graph c.args.dcg.now reached vs rows in
    let within : c.loop-v.v-index < length c.deref-v-items.result.now = omega (arith, c.loop-v-test.true) in
    let some = sym (rows (slice_index vs c.loop-v.v-index)) ∙ any_at vs c.loop-v.v-index within in
    record {
      ins = one_further q t c.requires.belongs b c.of-branch.ensures.branch graph c.args.dcg.now reached (g.G.HoldGraph.limits c.args.graph.now) c.edge_count-count.ensures.held vs distinct inside c.loop-v.v-index c.loop-v.dcg c.reach_ends.new.dcg within some c.loop-v.invariant.ins c.in_ok-reach_ends.ensures.ins;
      steps = rows-turn b.direction graph vs c.loop-v.v-index (slice_index vs c.loop-v.v-index) c.args.steps.now c.loop-v.steps c.reach_ends.new.steps (slice_get-get_or vs c.loop-v.v-index 0 within)
          c.loop-v.invariant.steps c.in_ok-reach_ends.ensures.steps;
    }

pub returns-clause-reached : goal.returns-clause-reached
returns-clause-reached g c =
    let q = c.args.pattern.now in
    let t = c.args.tree.now in
    let graph = g.G.HoldGraph.graph c.args.graph.now in
    let b = c.of-branch.result in
    let reached = subst (λ u. IsReached (joined q t graph) (is_before t (depth t u) u) c.args.dcg.now) (sym c.of-branch.ensures.child) c.requires.reached in
    let vs = c.deref-v-items.result.now in
    let same : c.deref-v-items.result.now ≡ c.row_vertices.result.now = c.deref-v-items.ensures.value ∙ c.in_ok-vertices.ensures.items in
    let rows = λ (v : ℕ). ap (list_any (nat_eq v)) same ∙ c.row_vertices.ensures.rows v in
    let distinct : IsDistinct nat_eq c.deref-v-items.result.now = subst (IsDistinct nat_eq) (sym same) c.row_vertices.ensures.once in
    let inside = in_rows q t c.requires.belongs b c.of-branch.ensures.branch graph c.args.dcg.now reached vs rows in
    subst (λ u. IsReached (joined q t graph) (is_before t (depth t u) (u + 1)) c.loop-v.dcg) c.of-branch.ensures.child
    (vertex_reached q t c.requires.belongs b c.of-branch.ensures.branch graph c.args.dcg.now reached (g.G.HoldGraph.limits c.args.graph.now) c.edge_count-count.ensures.held vs distinct inside c.loop-v.v-index c.loop-v.dcg
    (omega (arith, c.loop-v-test.false)) c.loop-v.invariant.ins)

pub returns-clause-steps : goal.returns-clause-steps
returns-clause-steps g c =
    let q = c.args.pattern.now in
    let t = c.args.tree.now in
    let graph = g.G.HoldGraph.graph c.args.graph.now in
    let b = c.of-branch.result in
    let reached = subst (λ u. IsReached (joined q t graph) (is_before t (depth t u) u) c.args.dcg.now) (sym c.of-branch.ensures.child) c.requires.reached in
    let vs = c.deref-v-items.result.now in
    let same : c.deref-v-items.result.now ≡ c.row_vertices.result.now = c.deref-v-items.ensures.value ∙ c.in_ok-vertices.ensures.items in
    let rows = λ (v : ℕ). ap (list_any (nat_eq v)) same ∙ c.row_vertices.ensures.rows v in
    let distinct : IsDistinct nat_eq c.deref-v-items.result.now = subst (IsDistinct nat_eq) (sym same) c.row_vertices.ensures.once in
    rows-end b.direction graph vs c.loop-v.v-index c.args.steps.now c.loop-v.steps distinct
    (λ v there. row_stands q t c.requires.belongs b c.of-branch.ensures.branch graph c.args.dcg.now reached v (sym (rows v) ∙ there)) (omega (arith, c.loop-v.auto.v-index-end)) c.loop-v.invariant.steps
