-- A change that is accepted keeps a graph within fair limits.
use Rattle.std.proofs.Common.{◌≡◌, Ok}
use Rattle.flux_model.specs.Graph.{Graph, apply}
use Rattle.flux_model.specs.declared.graph.Update.{Update}
use Rattle.flux_model.specs.declared.limits.Limits.{Limits}
use Rattle.flux_laws.specs.GraphsLaws.{IsSound}
use Rattle.flux_laws.proofs.GraphsLemmas.{keeps_graph, keeps_limits}
use Rattle.graph_traits.specs.WithinLimits.{IsWithinLimits}

-- a change that is made keeps a graph within its limits
pub held_after : (limits : Limits) (g h : Graph) (update : Update) → IsWithinLimits limits g → IsSound update →
    apply limits g update ≡ Ok h → IsWithinLimits limits h
held_after limits g h update held sound e = record {
  graph = keeps_graph limits g h update held.graph sound e;
  fair = held.fair;
  within = keeps_limits limits g h update held.within e;
}
