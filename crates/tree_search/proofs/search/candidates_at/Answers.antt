use Rattle.tree_search.specs.Ways.{IsWay}
use Rattle.tree_search.proofs.WayLemmas.{walked_way, walked_short}
use Rattle.tree_search.specs.Given.{nth_vertex}
use Rattle.tree_search.proofs.GivenLemmas.{anchor_stands, member_in_row}
use Rattle.tree_search.proofs.search.candidates_at.Goals as goal

pub shortest_row-shortest-requires-clause-stands : goal.shortest_row-shortest-requires-clause-stands
shortest_row-shortest-requires-clause-stands g c =
    let s = c.args.search.now in
    let r = c.row_to-row.result in
    anchor_stands s.pattern.now s.tree.now s.dcg.now (g.G.HoldGraph.graph s.graph.now) s.order c.requires.ready c.args.k c.requires.few c.args.partial.now c.requires.given c.requires.some r.vertex r.direction r.label.now c.row_to-row.ensures.row

pub returns-clause-way : goal.returns-clause-way
returns-clause-way g c =
    let s = c.args.search.now in
    let q = s.pattern.now in
    let graph = g.G.HoldGraph.graph s.graph.now in
    let r = c.row_to-row.result in
    let p = c.args.partial.now in
    let w = nth_vertex s.order c.args.k in
    let own : IsWay (g.G.HoldGraph.label_text s.graph.now) q graph p w r = record {
      stands = anchor_stands q s.tree.now s.dcg.now graph s.order c.requires.ready c.args.k c.requires.few p c.requires.given c.requires.some r.vertex r.direction r.label.now c.row_to-row.ensures.row;
      number = c.row_to-row.ensures.number;
      leads = member_in_row q s.tree.now s.dcg.now graph s.order c.requires.ready c.args.k c.requires.few p c.requires.given c.requires.some r.vertex r.direction r.label.now c.row_to-row.ensures.row;
    } in
    walked_way (g.G.HoldGraph.label_text s.graph.now) q graph p w r own c.shortest_row-shortest.result.row c.shortest_row-shortest.ensures.row

pub returns-clause-short : goal.returns-clause-short
returns-clause-short g c =
    let s = c.args.search.now in
    walked_short (g.G.HoldGraph.label_text s.graph.now) s.pattern.now (g.G.HoldGraph.graph s.graph.now) c.args.partial.now (nth_vertex s.order c.args.k) c.row_to-row.result c.shortest_row-shortest.result.row c.shortest_row-shortest.ensures.row

pub returns-clause-counted : goal.returns-clause-counted
returns-clause-counted g c = c.shortest_row-shortest.ensures.turns
