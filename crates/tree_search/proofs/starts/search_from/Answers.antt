use Rattle.std.proofs.Common.{◌≡◌, None, refl, sym, ap, ◌∙◌, subst, replicate}
use Rattle.std.specs.Prelude.{OnOk, OnErr}
use Rattle.std.proofs.lemmas.Result.{on_ok_weaker}
use Rattle.flux_model.specs.Exact.{live_counts}
use Rattle.flux_model.specs.Order.{search_order}
use Rattle.flux_model.specs.Partial.{with_id}
use Rattle.flux_model.specs.Pattern.{vertex_count}
use Rattle.flux_model.specs.States.{joined}
use Rattle.flux_model.specs.Tree.{edge_at}
use Rattle.flux_model.specs.declared.pattern.PatternEdge.{PatternEdge}
use Rattle.nontree_test.proofs.SentLemmas.{edge_read}
use Rattle.tree_search.specs.Aim.{IsEdgeFor}
use Rattle.flux_model.specs.Classes.{edge_class}
use Rattle.tree_search.specs.Given.{IsReady}
use Rattle.tree_search.specs.Members.{GrewByAll, GrewBySome}
use Rattle.tree_search.proofs.TieLemmas.{children_sized, live_told}
use Rattle.tree_search.proofs.EdgeLemmas.{grew_by_no, edge_for, edge_open, refused_class, edge_given, edge_aimed, edge_members, refused_steps, edge_steps}
use Rattle.tree_search.proofs.starts.search_from.Goals as goal

pub order_by_live-requires-clause-vertices : goal.order_by_live-requires-clause-vertices
order_by_live-requires-clause-vertices g c = children_sized c.args.pattern.now c.args.tree.now c.args.dcg.now (g.G.HoldGraph.graph c.args.graph.now) c.requires.belongs c.requires.exact

pub may_take-requires-clause-ready : goal.may_take-requires-clause-ready
may_take-requires-clause-ready g c =
    record { pattern = c.vertex_count.ensures.pattern; belongs = c.requires.belongs; exact = c.requires.exact; graph = c.vertex_count-count.ensures.held.graph; order = c.order_by_live.ensures.order }

pub may_take-requires-clause-aim : goal.may_take-requires-clause-aim
may_take-requires-clause-aim g c =
    let q = c.args.pattern.now in
    let read : edge_at q c.args.number ≡ c.edge-edge.result.now = edge_read q c.args.number c.edge-edge.result.now c.edge-edge.ensures.edge in
    edge_for q (g.G.HoldGraph.graph c.args.graph.now) c.args.number c.args.triple.now c.requires.edge c.requires.sent

pub may_take-requires-clause-open : goal.may_take-requires-clause-open
may_take-requires-clause-open g c =
    let q = c.args.pattern.now in
    let t = c.args.tree.now in
    let graph = g.G.HoldGraph.graph c.args.graph.now in
    let o = c.order_by_live.result in
    let ready : IsReady q t c.args.dcg.now graph o = record { pattern = c.vertex_count.ensures.pattern; belongs = c.requires.belongs; exact = c.requires.exact; graph = c.vertex_count-count.ensures.held.graph; order = c.order_by_live.ensures.order } in
    let read : edge_at q c.args.number ≡ c.edge-edge.result.now = edge_read q c.args.number c.edge-edge.result.now c.edge-edge.ensures.edge in
    let edge : IsEdgeFor q c.args.number c.args.triple.now = edge_for q graph c.args.number c.args.triple.now c.requires.edge c.requires.sent in
    let tail : c.edge-edge.result.now.tail ≡ (edge_at q c.args.number).tail = ap (λ (e : PatternEdge). e.tail) (sym read) in
    let none : c.new-partial.result ≡ replicate (vertex_count q) None = c.new-partial.ensures ∙ ap (λ n. replicate n None) c.vertex_count.ensures.count in
    edge_open q t c.args.dcg.now graph o ready c.args.number c.args.triple edge c.edge-edge.result.now.tail c.order_by_live.ensures.start tail c.new-partial.result none

pub returns-then-not-may_take-clause-found : goal.returns-then-not-may_take-clause-found
returns-then-not-may_take-clause-found g c =
    let q = c.args.pattern.now in
    let t = c.args.tree.now in
    let graph = g.G.HoldGraph.graph c.args.graph.now in
    let o = c.order_by_live.result in
    let ready : IsReady q t c.args.dcg.now graph o = record { pattern = c.vertex_count.ensures.pattern; belongs = c.requires.belongs; exact = c.requires.exact; graph = c.vertex_count-count.ensures.held.graph; order = c.order_by_live.ensures.order } in
    let read : edge_at q c.args.number ≡ c.edge-edge.result.now = edge_read q c.args.number c.edge-edge.result.now c.edge-edge.ensures.edge in
    let edge : IsEdgeFor q c.args.number c.args.triple.now = edge_for q graph c.args.number c.args.triple.now c.requires.edge c.requires.sent in
    let tail : c.edge-edge.result.now.tail ≡ (edge_at q c.args.number).tail = ap (λ (e : PatternEdge). e.tail) (sym read) in
    let none : c.new-partial.result ≡ replicate (vertex_count q) None = c.new-partial.ensures ∙ ap (λ n. replicate n None) c.vertex_count.ensures.count in
    grew_by_no (g.F.Found.list c.args.found.now) (edge_class q graph c.args.triple.now c.args.number)
    (refused_class q t c.args.dcg.now graph o ready c.args.number c.args.triple edge c.edge-edge.result.now.tail c.order_by_live.ensures.start tail c.new-partial.result none c.args.triple.now.src refl c.may_take.result c.may_take.ensures.value c.if-not-may_take.true)

pub extend-requires-clause-given : goal.extend-requires-clause-given
extend-requires-clause-given g c =
    let q = c.args.pattern.now in
    let t = c.args.tree.now in
    let graph = g.G.HoldGraph.graph c.args.graph.now in
    let o = c.order_by_live.result in
    let ready : IsReady q t c.args.dcg.now graph o = record { pattern = c.vertex_count.ensures.pattern; belongs = c.requires.belongs; exact = c.requires.exact; graph = c.vertex_count-count.ensures.held.graph; order = c.order_by_live.ensures.order } in
    let read : edge_at q c.args.number ≡ c.edge-edge.result.now = edge_read q c.args.number c.edge-edge.result.now c.edge-edge.ensures.edge in
    let edge : IsEdgeFor q c.args.number c.args.triple.now = edge_for q graph c.args.number c.args.triple.now c.requires.edge c.requires.sent in
    let tail : c.edge-edge.result.now.tail ≡ (edge_at q c.args.number).tail = ap (λ (e : PatternEdge). e.tail) (sym read) in
    let none : c.new-partial.result ≡ replicate (vertex_count q) None = c.new-partial.ensures ∙ ap (λ n. replicate n None) c.vertex_count.ensures.count in
    edge_given q t c.args.dcg.now graph o ready c.args.number c.args.triple edge c.edge-edge.result.now.tail c.order_by_live.ensures.start tail c.new-partial.result none c.args.triple.now.src refl c.may_take.result c.may_take.ensures.value c.if-not-may_take.false c.put.new.self c.put.ensures

pub extend-requires-clause-aimed : goal.extend-requires-clause-aimed
extend-requires-clause-aimed g c =
    let q = c.args.pattern.now in
    let t = c.args.tree.now in
    let graph = g.G.HoldGraph.graph c.args.graph.now in
    let o = c.order_by_live.result in
    let ready : IsReady q t c.args.dcg.now graph o = record { pattern = c.vertex_count.ensures.pattern; belongs = c.requires.belongs; exact = c.requires.exact; graph = c.vertex_count-count.ensures.held.graph; order = c.order_by_live.ensures.order } in
    let read : edge_at q c.args.number ≡ c.edge-edge.result.now = edge_read q c.args.number c.edge-edge.result.now c.edge-edge.ensures.edge in
    let edge : IsEdgeFor q c.args.number c.args.triple.now = edge_for q graph c.args.number c.args.triple.now c.requires.edge c.requires.sent in
    let tail : c.edge-edge.result.now.tail ≡ (edge_at q c.args.number).tail = ap (λ (e : PatternEdge). e.tail) (sym read) in
    let none : c.new-partial.result ≡ replicate (vertex_count q) None = c.new-partial.ensures ∙ ap (λ n. replicate n None) c.vertex_count.ensures.count in
    edge_aimed q t c.args.dcg.now graph o ready c.args.number c.args.triple edge c.edge-edge.result.now.tail c.order_by_live.ensures.start tail c.new-partial.result none c.args.triple.now.src refl c.may_take.result c.may_take.ensures.value c.if-not-may_take.false c.put.new.self c.put.ensures

pub returns-clause-found : goal.returns-clause-found
returns-clause-found g c =
    let q = c.args.pattern.now in
    let t = c.args.tree.now in
    let graph = g.G.HoldGraph.graph c.args.graph.now in
    let o = c.order_by_live.result in
    let ready : IsReady q t c.args.dcg.now graph o = record { pattern = c.vertex_count.ensures.pattern; belongs = c.requires.belongs; exact = c.requires.exact; graph = c.vertex_count-count.ensures.held.graph; order = c.order_by_live.ensures.order } in
    let read : edge_at q c.args.number ≡ c.edge-edge.result.now = edge_read q c.args.number c.edge-edge.result.now c.edge-edge.ensures.edge in
    let edge : IsEdgeFor q c.args.number c.args.triple.now = edge_for q graph c.args.number c.args.triple.now c.requires.edge c.requires.sent in
    let tail : c.edge-edge.result.now.tail ≡ (edge_at q c.args.number).tail = ap (λ (e : PatternEdge). e.tail) (sym read) in
    let none : c.new-partial.result ≡ replicate (vertex_count q) None = c.new-partial.ensures ∙ ap (λ n. replicate n None) c.vertex_count.ensures.count in
    let same = edge_members q t c.args.dcg.now graph o ready c.args.number c.args.triple edge c.edge-edge.result.now.tail c.order_by_live.ensures.start tail c.new-partial.result none c.args.triple.now.src refl c.may_take.result c.may_take.ensures.value c.if-not-may_take.false c.put.new.self c.put.ensures in
    subst (λ l. OnOk c.extend.result (GrewByAll (g.F.Found.list c.args.found.now) (g.F.Found.list c.extend.new.found) l)) same c.extend.ensures.found

pub returns-clause-some : goal.returns-clause-some
returns-clause-some g c =
    let q = c.args.pattern.now in
    let t = c.args.tree.now in
    let graph = g.G.HoldGraph.graph c.args.graph.now in
    let o = c.order_by_live.result in
    let ready : IsReady q t c.args.dcg.now graph o = record { pattern = c.vertex_count.ensures.pattern; belongs = c.requires.belongs; exact = c.requires.exact; graph = c.vertex_count-count.ensures.held.graph; order = c.order_by_live.ensures.order } in
    let read : edge_at q c.args.number ≡ c.edge-edge.result.now = edge_read q c.args.number c.edge-edge.result.now c.edge-edge.ensures.edge in
    let edge : IsEdgeFor q c.args.number c.args.triple.now = edge_for q graph c.args.number c.args.triple.now c.requires.edge c.requires.sent in
    let tail : c.edge-edge.result.now.tail ≡ (edge_at q c.args.number).tail = ap (λ (e : PatternEdge). e.tail) (sym read) in
    let none : c.new-partial.result ≡ replicate (vertex_count q) None = c.new-partial.ensures ∙ ap (λ n. replicate n None) c.vertex_count.ensures.count in
    let same = edge_members q t c.args.dcg.now graph o ready c.args.number c.args.triple edge c.edge-edge.result.now.tail c.order_by_live.ensures.start tail c.new-partial.result none c.args.triple.now.src refl c.may_take.result c.may_take.ensures.value c.if-not-may_take.false c.put.new.self c.put.ensures in
    subst (λ l. OnErr c.extend.result (GrewBySome (g.F.Found.list c.args.found.now) (g.F.Found.list c.extend.new.found) l)) same c.extend.ensures.some

pub returns-then-not-may_take-clause-steps : goal.returns-then-not-may_take-clause-steps
returns-then-not-may_take-clause-steps g c =
    let q = c.args.pattern.now in
    let graph = g.G.HoldGraph.graph c.args.graph.now in
    let read : edge_at q c.args.number ≡ c.edge-edge.result.now = edge_read q c.args.number c.edge-edge.result.now c.edge-edge.ensures.edge in
    refused_steps q c.args.tree.now graph c.args.number c.args.triple.now c.requires.sent
    c.requires.entered
    c.edge-edge.result.now.tail c.args.triple.now.src c.args.steps.now c.may_take.new.steps c.may_take.ensures.steps

pub returns-clause-steps : goal.returns-clause-steps
returns-clause-steps g c =
    let q = c.args.pattern.now in
    let t = c.args.tree.now in
    let graph = g.G.HoldGraph.graph c.args.graph.now in
    let o = c.order_by_live.result in
    let ready : IsReady q t c.args.dcg.now graph o = record { pattern = c.vertex_count.ensures.pattern; belongs = c.requires.belongs; exact = c.requires.exact; graph = c.vertex_count-count.ensures.held.graph; order = c.order_by_live.ensures.order } in
    let read : edge_at q c.args.number ≡ c.edge-edge.result.now = edge_read q c.args.number c.edge-edge.result.now c.edge-edge.ensures.edge in
    let edge : IsEdgeFor q c.args.number c.args.triple.now = edge_for q graph c.args.number c.args.triple.now c.requires.edge c.requires.sent in
    let tail : c.edge-edge.result.now.tail ≡ (edge_at q c.args.number).tail = ap (λ (e : PatternEdge). e.tail) (sym read) in
    let none : c.new-partial.result ≡ replicate (vertex_count q) None = c.new-partial.ensures ∙ ap (λ n. replicate n None) c.vertex_count.ensures.count in
    let live : o ≡ search_order t (edge_at q c.args.number).tail (live_counts graph (joined q t graph)) =
    c.order_by_live.ensures.live
    ∙ (λ i. search_order t (tail i) (live_told q t c.args.dcg.now graph c.requires.belongs c.requires.exact ready.graph i)) in
    let placed : c.put.new.self ≡ with_id (replicate (vertex_count q) None) (edge_at q c.args.number).tail c.args.triple.now.src =
    c.put.ensures ∙ (λ i. with_id (none i) (tail i) c.args.triple.now.src) in
    on_ok_weaker c.extend.result
    (λ read_most. edge_steps q t graph c.args.number c.args.triple.now c.requires.sent
    c.requires.entered
    c.edge-edge.result.now.tail c.args.triple.now.src c.args.steps.now c.may_take.new.steps c.may_take.ensures.steps
    o live c.args.triple refl c.put.new.self placed c.extend.new.steps read_most)
    c.extend.ensures.look
