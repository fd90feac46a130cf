use Rattle.std.proofs.Common.{◌≡◌, ℕ, ◌+◌, ◌-◌, ◌*◌, ◌≤◌, IsTrue, length, filter}
use Rattle.std.specs.List.{sum_by}
use Rattle.flux_model.specs.Members.{In}
use Rattle.match_order.specs.Whole.{vertices}
use Rattle.tree_search.specs.AimedMembers.{members_at, members_over_at}
use Rattle.tree_search.specs.LookCost.{look_from, look_over, goes_next}
use Rattle.tree_search.specs.CandidatesLeft.{leads_to, left, reads, IsCursor}
use Rattle.tree_search.specs.Members.{ids_of, members_over, GrewUpTo}
use Rattle.tree_search.specs.SearchCosts.{MeetsNoDeadEnd, cost_from, members_cost}
use Rattle.tree_search.specs.declared.aim.Aim.TheVariants.{All}
use Rattle.tree_search.proofs.search.+extend.Given as goal

abbrev pub decreases-extend : goal.decreases-extend
decreases-extend g l = length (vertices l.search.now.order) - l.k

-- what was found, with the embeddings over the candidates still to come, is all
abbrev pub invariant-loop-x : goal.invariant-loop-x
invariant-loop-x g l =
    let q = l.search.pattern.now in
    let graph = g.G.HoldGraph.graph l.search.graph.now in
    let more = reads (g.G.HoldGraph.outs_from l.search.graph.now) (g.G.HoldGraph.ins_from l.search.graph.now) l.candidates in
    let ends = left (g.G.HoldGraph.outs_from l.search.graph.now) (g.G.HoldGraph.ins_from l.search.graph.now) graph l.candidates in
    let list = g.F.Found.list in
    record {
      place : IsCursor (g.G.HoldGraph.is_out_place l.search.graph.now) (g.G.HoldGraph.is_in_place l.search.graph.now) l.candidates l.at;
      partial : l.partial ≡ l.fn.partial;
      stand : (x : ℕ) → In (ends l.at) x → IsTrue (leads_to graph l.candidates x);
      found : GrewUpTo (list l.fn.found) (list l.found) (members_over_at q graph l.search.aim l.fn.partial l.w (ends l.at)) (members_at q graph l.search.aim l.fn.partial);
      steps : MeetsNoDeadEnd q l.search.tree.now → l.search.order.start ≡ l.search.tree.now.root → l.search.aim ≡ All
          → l.steps + ((length q.edges + 4) * (more l.at + 1) + sum_by (cost_from q l.search.tree.now graph l.search.order (l.k + 1)) (members_over q graph l.fn.partial l.w (ends l.at)))
          ≤ l.fn.steps + members_cost q l.search.tree.now graph l.search.order l.k l.fn.partial;
      look : l.steps + ((length q.edges + 4) * (more l.at + 1) + sum_by (look_over q l.search.tree.now graph l.search.aim l.search.order l.k (ids_of l.fn.partial) l.w) (filter (goes_next q l.search.tree.now graph l.search.aim l.search.order l.k (ids_of l.fn.partial)) (ends l.at)))
          ≤ l.fn.steps + look_from q l.search.tree.now graph l.search.aim l.search.order l.k (ids_of l.fn.partial);
    }

abbrev pub decreases-loop-x : goal.decreases-loop-x
decreases-loop-x g l =
    reads (g.G.HoldGraph.outs_from l.search.graph.now) (g.G.HoldGraph.ins_from l.search.graph.now) l.candidates l.at
