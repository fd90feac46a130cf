use Rattle.std.proofs.Common.{◌≡◌, ◌-◌, ◌≤◌, length}
use Rattle.flux_model.specs.Order.{search_order}
use Rattle.match_order.specs.FrontierState.{AreMarks}
use Rattle.match_order.specs.Whole.{latest_first}
use Rattle.match_order.proofs.PlaceLemmas.{completed}
use Rattle.match_order.proofs.search_order.order.Given as goal

-- the steps that are left make the order
abbrev pub invariant-loop : goal.invariant-loop
invariant-loop l = record {
  room : length l.growth.order.places ≤ l.counter;
  marks : AreMarks l.tree (latest_first l.growth.order) l.growth.frontier;
  left : completed (length l.tree.links - l.counter) l.tree l.live l.growth.order ≡ search_order l.tree l.start l.live;
}
