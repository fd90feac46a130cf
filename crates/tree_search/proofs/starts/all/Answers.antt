use Rattle.std.proofs.Common.{ℕ, ◌+◌, List, drop, replicate, slice_index, None, Option, refl, sym, ap, ◌∙◌, subst, arith}
use Rattle.std.proofs.lemmas.Option.{slice_get-get_or}
use Rattle.flux_model.specs.Embedding.{embeddings}
use Rattle.flux_model.specs.Pattern.{vertex_count}
use Rattle.tree_search.specs.Given.{IsReady}
use Rattle.tree_search.specs.Members.{members_over, GrewUpTo}
use Rattle.tree_search.proofs.GrowthLemmas.{any_err}
use Rattle.tree_search.proofs.BarrenLemmas.{barren_none}
use Rattle.tree_search.proofs.EdgeLemmas.{grew_by_no}
use Rattle.tree_search.proofs.TieLemmas.{children_sized, children_count}
use Rattle.tree_search.proofs.LookLemmas.{layer_few}
use Rattle.tree_search.proofs.TurnLemmas.{root_start, root_split, root_open, next_vertex, root_given, root_back, root_found, root_stop, root_skip, root_end}
use Rattle.std.specs.List.{sum_by}
use Rattle.std.proofs.lemmas.List.Sorted.{sum_by-IsPermutation}
use Rattle.flux_model.specs.Costs.{embedding_cost}
use Rattle.tree_search.specs.SearchCosts.{members_cost}
use Rattle.tree_search.proofs.CostLemmas.{root_paid, root_steps, loose_steps, not_explicit}
use Rattle.tree_search.proofs.starts.all.Goals as goal
use Rattle.tree_search.proofs.starts.all.Goals.{then-may_have+in_ok-extend, else-may_have}

pub order_by_live-requires-clause-vertices : goal.order_by_live-requires-clause-vertices
order_by_live-requires-clause-vertices g c = children_sized c.args.pattern.now c.args.tree.now c.args.dcg.now (g.G.HoldGraph.graph c.args.graph.now) c.requires.belongs c.requires.exact

pub loop-i-init : goal.loop-i-init
loop-i-init g c =
    let q = c.args.pattern.now in
    let graph = g.G.HoldGraph.graph c.args.graph.now in
    let o = c.order_by_live.result in
    let ready : IsReady q c.args.tree.now c.args.dcg.now graph o = record { pattern = c.vertex_count.ensures.pattern; belongs = c.requires.belongs; exact = c.requires.exact; graph = c.vertex_count-count.ensures.held.graph; order = c.order_by_live.ensures.order } in
    record {
      partial = c.new-partial.ensures ∙ ap (λ n. replicate n None) c.vertex_count.ensures.count;
      found = root_start q c.args.tree.now c.args.dcg.now graph o ready c.root-root.result c.root-root.ensures.root (c.order_by_live.ensures.start ∙ c.root-root.ensures.root) c.row_vertices-roots.result.now c.row_vertices-roots.ensures.once c.row_vertices-roots.ensures.rows (g.F.Found.list c.args.found.now);
      steps = λ live.
          (let over = members_over q graph (replicate (vertex_count q) None) c.root-root.result c.row_vertices-roots.result.now in
          let same = sum_by-IsPermutation (embedding_cost q c.args.tree.now graph) over (embeddings q graph) (root_split q c.args.tree.now c.args.dcg.now graph o ready c.root-root.result c.root-root.ensures.root (c.order_by_live.ensures.start ∙ c.root-root.ensures.root) c.row_vertices-roots.result.now c.row_vertices-roots.ensures.once c.row_vertices-roots.ensures.rows) in
          omega (arith, same));
    }

pub may_have-requires-clause-open : goal.may_have-requires-clause-open
may_have-requires-clause-open g c =
    let q = c.args.pattern.now in
    let graph = g.G.HoldGraph.graph c.args.graph.now in
    let o = c.order_by_live.result in
    let ready : IsReady q c.args.tree.now c.args.dcg.now graph o = record { pattern = c.vertex_count.ensures.pattern; belongs = c.requires.belongs; exact = c.requires.exact; graph = c.vertex_count-count.ensures.held.graph; order = c.order_by_live.ensures.order } in
    root_open q c.args.tree.now c.args.dcg.now graph o ready c.root-root.result c.root-root.ensures.root (c.order_by_live.ensures.start ∙ c.root-root.ensures.root) c.loop-i.partial c.loop-i.invariant.partial

pub extend-requires-clause-given : goal.extend-requires-clause-given
extend-requires-clause-given g c =
    let q = c.args.pattern.now in
    let graph = g.G.HoldGraph.graph c.args.graph.now in
    let o = c.order_by_live.result in
    let ready : IsReady q c.args.tree.now c.args.dcg.now graph o = record { pattern = c.vertex_count.ensures.pattern; belongs = c.requires.belongs; exact = c.requires.exact; graph = c.vertex_count-count.ensures.held.graph; order = c.order_by_live.ensures.order } in
    root_given q c.args.tree.now c.args.dcg.now graph o ready c.root-root.result c.root-root.ensures.root (c.order_by_live.ensures.start ∙ c.root-root.ensures.root) c.loop-i.partial c.loop-i.invariant.partial (slice_index c.row_vertices-roots.result.now c.loop-i.i) c.may_have.result c.may_have.ensures.value c.if-may_have.true c.put.new.self c.put.ensures

pub returns-in_err-extend-clause-some : goal.returns-in_err-extend-clause-some
returns-in_err-extend-clause-some g c =
    let q = c.args.pattern.now in
    let graph = g.G.HoldGraph.graph c.args.graph.now in
    let list = g.F.Found.list in
    let o = c.order_by_live.result in
    let ready : IsReady q c.args.tree.now c.args.dcg.now graph o = record { pattern = c.vertex_count.ensures.pattern; belongs = c.requires.belongs; exact = c.requires.exact; graph = c.vertex_count-count.ensures.held.graph; order = c.order_by_live.ensures.order } in
    any_err c.from_residual.result (root_stop q c.args.tree.now c.args.dcg.now graph o ready c.root-root.result c.root-root.ensures.root (c.order_by_live.ensures.start ∙ c.root-root.ensures.root) c.loop-i.partial c.loop-i.invariant.partial c.row_vertices-roots.result.now c.loop-i.i (slice_index c.row_vertices-roots.result.now c.loop-i.i) (slice_get-get_or c.row_vertices-roots.result.now c.loop-i.i 0 c.loop-i-test.true) (list c.args.found.now) (list c.loop-i.found) c.loop-i.invariant.found c.put.new.self c.put.ensures (list c.extend.new.found) c.in_err-extend.ensures.some)

pub loop-i-preserved : goal.loop-i-preserved
loop-i-preserved g c =
    let q = c.args.pattern.now in
    let graph = g.G.HoldGraph.graph c.args.graph.now in
    let list = g.F.Found.list in
    let o = c.order_by_live.result in
    let listed = c.row_vertices-roots.result.now in
    let none : List (Option ℕ) = replicate (vertex_count q) None in
    let ready : IsReady q c.args.tree.now c.args.dcg.now graph o = record { pattern = c.vertex_count.ensures.pattern; belongs = c.requires.belongs; exact = c.requires.exact; graph = c.vertex_count-count.ensures.held.graph; order = c.order_by_live.ensures.order } in
    elim c.if-may_have.branch [
      | then-may_have+in_ok-extend w ↦ record {
        partial = w.partial-is ∙ root_back q c.args.tree.now c.args.dcg.now graph o ready c.root-root.result c.root-root.ensures.root (c.order_by_live.ensures.start ∙ c.root-root.ensures.root) c.loop-i.partial c.loop-i.invariant.partial (slice_index c.row_vertices-roots.result.now c.loop-i.i) w.put.new.self w.extend.new.partial w.clear.new.self w.put.ensures w.in_ok-extend.ensures.partial w.clear.ensures;
        found = subst (λ f. GrewUpTo (list c.args.found.now) (list f) (members_over q graph none c.root-root.result (drop (c.loop-i.i + 1) listed)) (embeddings q graph)) (sym w.found-is) (root_found q c.args.tree.now c.args.dcg.now graph o ready c.root-root.result c.root-root.ensures.root (c.order_by_live.ensures.start ∙ c.root-root.ensures.root) c.loop-i.partial c.loop-i.invariant.partial listed c.loop-i.i (slice_index c.row_vertices-roots.result.now c.loop-i.i) (slice_get-get_or c.row_vertices-roots.result.now c.loop-i.i 0 c.loop-i-test.true) (list c.args.found.now) (list c.loop-i.found) c.loop-i.invariant.found w.put.new.self w.put.ensures (list w.extend.new.found) w.in_ok-extend.ensures.found);
        steps = λ live.
            (let given = root_given q c.args.tree.now c.args.dcg.now graph o ready c.root-root.result c.root-root.ensures.root (c.order_by_live.ensures.start ∙ c.root-root.ensures.root) c.loop-i.partial c.loop-i.invariant.partial (slice_index c.row_vertices-roots.result.now c.loop-i.i) c.may_have.result c.may_have.ensures.value w.if-may_have.true w.put.new.self w.put.ensures in
            let paid = root_paid q c.args.tree.now c.args.dcg.now graph o ready (c.order_by_live.ensures.start ∙ c.root-root.ensures.root) live w.put.new.self given in
            let spent = root_steps q c.args.tree.now graph none c.root-root.result c.loop-i.partial c.loop-i.invariant.partial (slice_index c.row_vertices-roots.result.now c.loop-i.i) (drop c.loop-i.i listed) (drop (c.loop-i.i + 1) listed) (next_vertex listed c.loop-i.i (slice_index c.row_vertices-roots.result.now c.loop-i.i) (slice_get-get_or c.row_vertices-roots.result.now c.loop-i.i 0 c.loop-i-test.true)) (embedding_cost q c.args.tree.now graph) w.put.new.self w.put.ensures c.loop-i.steps c.may_have.new.steps w.extend.new.steps c.args.steps.now c.loop-i.i (sum_by (embedding_cost q c.args.tree.now graph) (embeddings q graph)) (members_cost q c.args.tree.now graph o 1 w.put.new.self) c.may_have.ensures.steps (w.in_ok-extend.ensures.steps live (c.order_by_live.ensures.start ∙ c.root-root.ensures.root) refl) paid (c.loop-i.invariant.steps live) in
            omega (arith, w.steps-is, spent));
      }
      | else-may_have w ↦ record {
        partial = w.partial-is ∙ c.loop-i.invariant.partial;
        found = subst (λ f. GrewUpTo (list c.args.found.now) (list f) (members_over q graph none c.root-root.result (drop (c.loop-i.i + 1) listed)) (embeddings q graph)) (sym w.found-is) (root_skip q c.args.tree.now c.args.dcg.now graph o ready c.root-root.result c.root-root.ensures.root (c.order_by_live.ensures.start ∙ c.root-root.ensures.root) c.loop-i.partial c.loop-i.invariant.partial listed c.loop-i.i (slice_index c.row_vertices-roots.result.now c.loop-i.i) (slice_get-get_or c.row_vertices-roots.result.now c.loop-i.i 0 c.loop-i-test.true) (list c.args.found.now) (list c.loop-i.found) c.loop-i.invariant.found c.may_have.result c.may_have.ensures.value w.if-may_have.false);
        steps = λ live.
            (let fails = not_explicit q c.args.tree.now graph live c.loop-i.partial c.root-root.result (slice_index c.row_vertices-roots.result.now c.loop-i.i) c.may_have.result c.may_have.ensures.value w.if-may_have.false in
            let spent = loose_steps q c.args.tree.now graph none c.root-root.result c.loop-i.partial c.loop-i.invariant.partial (slice_index c.row_vertices-roots.result.now c.loop-i.i) (drop c.loop-i.i listed) (drop (c.loop-i.i + 1) listed) (next_vertex listed c.loop-i.i (slice_index c.row_vertices-roots.result.now c.loop-i.i) (slice_get-get_or c.row_vertices-roots.result.now c.loop-i.i 0 c.loop-i-test.true)) (embedding_cost q c.args.tree.now graph) c.loop-i.steps c.may_have.new.steps c.args.steps.now c.loop-i.i (sum_by (embedding_cost q c.args.tree.now graph) (embeddings q graph)) c.may_have.ensures.steps fails (c.loop-i.invariant.steps live) in
            omega (arith, w.steps-is, spent));
      }
    ]

pub returns-clause-found : goal.returns-clause-found
returns-clause-found g c =
    let q = c.args.pattern.now in
    let graph = g.G.HoldGraph.graph c.args.graph.now in
    let list = g.F.Found.list in
    let o = c.order_by_live.result in
    let ready : IsReady q c.args.tree.now c.args.dcg.now graph o = record { pattern = c.vertex_count.ensures.pattern; belongs = c.requires.belongs; exact = c.requires.exact; graph = c.vertex_count-count.ensures.held.graph; order = c.order_by_live.ensures.order } in
    root_end q c.args.tree.now c.args.dcg.now graph o ready c.root-root.result c.root-root.ensures.root (c.order_by_live.ensures.start ∙ c.root-root.ensures.root) c.row_vertices-roots.result.now c.loop-i.i c.loop-i-test.false (list c.args.found.now) (list c.loop-i.found) c.loop-i.invariant.found

pub returns-clause-steps : goal.returns-clause-steps
returns-clause-steps g c = λ live.
    (let few = layer_few c.args.pattern.now c.args.tree.now c.args.dcg.now (g.G.HoldGraph.graph c.args.graph.now) c.requires.exact c.root-root.result c.row_vertices-roots.result.now c.row_vertices-roots.ensures.once c.row_vertices-roots.ensures.rows in
    omega (arith, c.loop-i.invariant.steps live, c.loop-i.auto.i-end, few))

pub is_barren-requires-clause-vertices : goal.is_barren-requires-clause-vertices
is_barren-requires-clause-vertices g c = children_sized c.args.pattern.now c.args.tree.now c.args.dcg.now (g.G.HoldGraph.graph c.args.graph.now) c.requires.belongs c.requires.exact

pub returns-then-is_barren-clause-found : goal.returns-then-is_barren-clause-found
returns-then-is_barren-clause-found g c =
    let graph = g.G.HoldGraph.graph c.args.graph.now in
    grew_by_no (g.F.Found.list c.args.found.now) (embeddings c.args.pattern.now graph)
    (barren_none c.args.pattern.now c.args.tree.now c.args.dcg.now graph c.requires.belongs c.requires.exact c.vertex_count-count.ensures.held.graph (sym c.is_barren.ensures ∙ c.if-is_barren.true))

pub row_vertices-roots-requires-clause-vertex : goal.row_vertices-roots-requires-clause-vertex
row_vertices-roots-requires-clause-vertex g c =
    let count = children_count c.args.pattern.now c.args.tree.now c.args.dcg.now (g.G.HoldGraph.graph c.args.graph.now) c.requires.belongs c.requires.exact in
    omega (arith, count, c.root-root.ensures.root, c.requires.belongs.tree.root, c.requires.belongs.vertices)
