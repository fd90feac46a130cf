use Rattle.std.proofs.Common.{◌≡◌, ℕ, ◌+◌, ◌<◌, List, length, take, sym, ap, subst, ◌∙◌, arith}
use Rattle.std.specs.Prelude.{nat_eq, slice_index}
use Rattle.std.specs.List.{list_any, IsDistinct}
use Rattle.std.proofs.lemmas.Option.{slice_get-get_or}
use Rattle.flux_model.specs.Exact.{row_at}
use Rattle.flux_model.specs.States.{joined}
use Rattle.query_tree.specs.Depth.{depth}
use Rattle.query_tree.proofs.CallerLemmas.{link_within, parent_within}
use Rattle.dcg_transition.specs.Tallies.{opens_from}
use Rattle.dcg_transition.specs.Filled.{HasRoomFor}
use Rattle.dcg_transition.specs.Levels.{is_after, IsCounted}
use Rattle.dcg_transition.proofs.LevelLemmas.{length-child_counts}
use Rattle.dcg_transition.proofs.ReachLemmas.{any_at}
use Rattle.dcg_transition.proofs.ExtendLemmas.{none_tallied, child_apart, number_counted, room_out, tallied_further, child_counted, in_rows_out, row_stands_out, stays_there, some_and}
use Rattle.dcg_transition.proofs.StepLemmas.{rows-turn, rows-end}
use Rattle.dcg_transition.proofs.extend.extend_to.Goals as goal

pub row_vertices-requires-clause-vertex : goal.row_vertices-requires-clause-vertex
row_vertices-requires-clause-vertex g c =
    let t = c.args.tree.now in
    let b = c.of-branch.result in
    let size = ap (λ (l : List ℕ). length l) c.requires.counted.children in
    omega (arith, size, length-child_counts t, parent_within t c.requires.belongs.tree b.child b.link c.of-branch.ensures.branch.link)

pub loop-v-init : goal.loop-v-init
loop-v-init g c =
    let q = c.args.pattern.now in
    let t = c.args.tree.now in
    let graph = g.G.HoldGraph.graph c.args.graph.now in
    let b = c.of-branch.result in
    let before = subst (λ u. IsCounted (joined q t graph) (is_after t (depth t u) u) c.args.dcg.now) (sym c.of-branch.ensures.child) c.requires.counted in
    record { tallied = none_tallied q t c.requires.belongs b c.of-branch.ensures.branch graph c.args.dcg.now before; steps = omega arith }

pub extend_ends-requires-clause-stands : goal.extend_ends-requires-clause-stands
extend_ends-requires-clause-stands g c =
    let q = c.args.pattern.now in
    let t = c.args.tree.now in
    let graph = g.G.HoldGraph.graph c.args.graph.now in
    let b = c.of-branch.result in
    let before = subst (λ u. IsCounted (joined q t graph) (is_after t (depth t u) u) c.args.dcg.now) (sym c.of-branch.ensures.child) c.requires.counted in
    let vs = c.deref-v-items.result.now in
    let same : c.deref-v-items.result.now ≡ c.row_vertices.result.now = c.deref-v-items.ensures.value ∙ c.in_ok-vertices.ensures.items in
    let rows = λ (v : ℕ). ap (list_any (nat_eq v)) same ∙ c.row_vertices.ensures.rows v in
    let within : c.loop-v.v-index < length c.deref-v-items.result.now = omega (arith, c.loop-v-test.true) in
    let some = sym (rows (slice_index vs c.loop-v.v-index)) ∙ any_at vs c.loop-v.v-index within in
    row_stands_out q t c.requires.belongs b c.of-branch.ensures.branch graph c.args.dcg.now before (slice_index vs c.loop-v.v-index) some

pub extend_ends-requires-clause-parent : goal.extend_ends-requires-clause-parent
extend_ends-requires-clause-parent g c =
    let t = c.args.tree.now in
    let b = c.of-branch.result in
    let size = ap (λ (l : List ℕ). length l) (c.loop-v.invariant.tallied.children ∙ c.requires.counted.children) in
    omega (arith, size, length-child_counts t, parent_within t c.requires.belongs.tree b.child b.link c.of-branch.ensures.branch.link)

pub extend_ends-requires-clause-child : goal.extend_ends-requires-clause-child
extend_ends-requires-clause-child g c =
    let t = c.args.tree.now in
    let b = c.of-branch.result in
    let size = ap (λ (l : List ℕ). length l) (c.loop-v.invariant.tallied.children ∙ c.requires.counted.children) in
    omega (arith, size, length-child_counts t, link_within t b.child b.link c.of-branch.ensures.branch.link)

pub extend_ends-requires-clause-apart : goal.extend_ends-requires-clause-apart
extend_ends-requires-clause-apart g c =
    let q = c.args.pattern.now in
    let t = c.args.tree.now in
    let graph = g.G.HoldGraph.graph c.args.graph.now in
    let b = c.of-branch.result in
    let before = subst (λ u. IsCounted (joined q t graph) (is_after t (depth t u) u) c.args.dcg.now) (sym c.of-branch.ensures.child) c.requires.counted in
    child_apart q t c.requires.belongs b c.of-branch.ensures.branch graph c.args.dcg.now before

pub extend_ends-requires-clause-number : goal.extend_ends-requires-clause-number
extend_ends-requires-clause-number g c =
    let q = c.args.pattern.now in
    let t = c.args.tree.now in
    let graph = g.G.HoldGraph.graph c.args.graph.now in
    let b = c.of-branch.result in
    let before = subst (λ u. IsCounted (joined q t graph) (is_after t (depth t u) u) c.args.dcg.now) (sym c.of-branch.ensures.child) c.requires.counted in
    number_counted q t c.requires.belongs b c.of-branch.ensures.branch graph c.args.dcg.now before c.loop-v.dcg.children (c.loop-v.invariant.tallied.children ∙ c.requires.counted.children)

pub extend_ends-requires-clause-row : goal.extend_ends-requires-clause-row
extend_ends-requires-clause-row g c =
    let q = c.args.pattern.now in
    let t = c.args.tree.now in
    let graph = g.G.HoldGraph.graph c.args.graph.now in
    let b = c.of-branch.result in
    let before = subst (λ u. IsCounted (joined q t graph) (is_after t (depth t u) u) c.args.dcg.now) (sym c.of-branch.ensures.child) c.requires.counted in
    let vs = c.deref-v-items.result.now in
    let same : c.deref-v-items.result.now ≡ c.row_vertices.result.now = c.deref-v-items.ensures.value ∙ c.in_ok-vertices.ensures.items in
    let rows = λ (v : ℕ). ap (list_any (nat_eq v)) same ∙ c.row_vertices.ensures.rows v in
    let distinct : IsDistinct nat_eq c.deref-v-items.result.now = subst (IsDistinct nat_eq) (sym same) c.row_vertices.ensures.once in
    let inside = in_rows_out q t c.requires.belongs b c.of-branch.ensures.branch graph c.args.dcg.now before vs rows in
    let within : c.loop-v.v-index < length c.deref-v-items.result.now = omega (arith, c.loop-v-test.true) in
    let some = sym (rows (slice_index vs c.loop-v.v-index)) ∙ any_at vs c.loop-v.v-index within in
    let v = slice_index vs c.loop-v.v-index in
    some_and (HasRoomFor b.number (opens_from c.loop-v.dcg b graph v)) (row_at c.loop-v.dcg b.link.parent v)
    (room_out q t c.requires.belongs b c.of-branch.ensures.branch graph c.args.dcg.now before (g.G.HoldGraph.limits c.args.graph.now) c.edge_count-count.ensures.held vs distinct inside c.loop-v.v-index v c.loop-v.dcg c.loop-v.invariant.tallied)
    (stays_there q t c.requires.belongs b c.of-branch.ensures.branch graph c.args.dcg.now before (take c.loop-v.v-index vs) c.loop-v.dcg v c.loop-v.invariant.tallied some)

pub loop-v-preserved : goal.loop-v-preserved
loop-v-preserved g c =
    let q = c.args.pattern.now in
    let t = c.args.tree.now in
    let graph = g.G.HoldGraph.graph c.args.graph.now in
    let b = c.of-branch.result in
    let before = subst (λ u. IsCounted (joined q t graph) (is_after t (depth t u) u) c.args.dcg.now) (sym c.of-branch.ensures.child) c.requires.counted in
    let vs = c.deref-v-items.result.now in
    let same : c.deref-v-items.result.now ≡ c.row_vertices.result.now = c.deref-v-items.ensures.value ∙ c.in_ok-vertices.ensures.items in
    let rows = λ (v : ℕ). ap (list_any (nat_eq v)) same ∙ c.row_vertices.ensures.rows v in
    let distinct : IsDistinct nat_eq c.deref-v-items.result.now = subst (IsDistinct nat_eq) (sym same) c.row_vertices.ensures.once in
    let inside = in_rows_out q t c.requires.belongs b c.of-branch.ensures.branch graph c.args.dcg.now before vs rows in
    let within : c.loop-v.v-index < length c.deref-v-items.result.now = omega (arith, c.loop-v-test.true) in
    record {
      tallied = tallied_further q t c.requires.belongs b c.of-branch.ensures.branch graph c.args.dcg.now before (g.G.HoldGraph.limits c.args.graph.now) c.edge_count-count.ensures.held vs distinct inside c.loop-v.v-index (slice_index vs c.loop-v.v-index) c.loop-v.dcg c.extend_ends.new.dcg (slice_get-get_or vs c.loop-v.v-index 0 within) c.loop-v.invariant.tallied c.extend_ends.ensures.outs;
      steps = rows-turn b.direction graph vs c.loop-v.v-index (slice_index vs c.loop-v.v-index) c.args.steps.now c.loop-v.steps c.extend_ends.new.steps (slice_get-get_or vs c.loop-v.v-index 0 within)
          c.loop-v.invariant.steps c.extend_ends.ensures.steps;
    }

pub returns-clause-counted : goal.returns-clause-counted
returns-clause-counted g c =
    let q = c.args.pattern.now in
    let t = c.args.tree.now in
    let graph = g.G.HoldGraph.graph c.args.graph.now in
    let b = c.of-branch.result in
    let before = subst (λ u. IsCounted (joined q t graph) (is_after t (depth t u) u) c.args.dcg.now) (sym c.of-branch.ensures.child) c.requires.counted in
    let vs = c.deref-v-items.result.now in
    let same : c.deref-v-items.result.now ≡ c.row_vertices.result.now = c.deref-v-items.ensures.value ∙ c.in_ok-vertices.ensures.items in
    let rows = λ (v : ℕ). ap (list_any (nat_eq v)) same ∙ c.row_vertices.ensures.rows v in
    let distinct : IsDistinct nat_eq c.deref-v-items.result.now = subst (IsDistinct nat_eq) (sym same) c.row_vertices.ensures.once in
    let inside = in_rows_out q t c.requires.belongs b c.of-branch.ensures.branch graph c.args.dcg.now before vs rows in
    subst (λ u. IsCounted (joined q t graph) (is_after t (depth t u) (u + 1)) c.loop-v.dcg) c.of-branch.ensures.child
    (child_counted q t c.requires.belongs b c.of-branch.ensures.branch graph c.args.dcg.now before (g.G.HoldGraph.limits c.args.graph.now) c.edge_count-count.ensures.held vs distinct inside c.loop-v.v-index c.loop-v.dcg (omega (arith, c.loop-v-test.false)) c.loop-v.invariant.tallied)

pub returns-clause-steps : goal.returns-clause-steps
returns-clause-steps g c =
    let q = c.args.pattern.now in
    let t = c.args.tree.now in
    let graph = g.G.HoldGraph.graph c.args.graph.now in
    let b = c.of-branch.result in
    let before = subst (λ u. IsCounted (joined q t graph) (is_after t (depth t u) u) c.args.dcg.now) (sym c.of-branch.ensures.child) c.requires.counted in
    let vs = c.deref-v-items.result.now in
    let same : c.deref-v-items.result.now ≡ c.row_vertices.result.now = c.deref-v-items.ensures.value ∙ c.in_ok-vertices.ensures.items in
    let rows = λ (v : ℕ). ap (list_any (nat_eq v)) same ∙ c.row_vertices.ensures.rows v in
    let distinct : IsDistinct nat_eq c.deref-v-items.result.now = subst (IsDistinct nat_eq) (sym same) c.row_vertices.ensures.once in
    rows-end b.direction graph vs c.loop-v.v-index c.args.steps.now c.loop-v.steps distinct
    (λ v there. row_stands_out q t c.requires.belongs b c.of-branch.ensures.branch graph c.args.dcg.now before v (sym (rows v) ∙ there)) (omega (arith, c.loop-v.auto.v-index-end)) c.loop-v.invariant.steps
