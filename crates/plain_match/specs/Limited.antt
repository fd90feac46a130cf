-- What a `PlainGraph` keeps to.
use Rattle.flux_model.specs.Graph.{LimitedGraph, IsGraph, IsWithin}

-- a graph that does not pass its limits
pub record KeepsLimits (kept : LimitedGraph) : Type 0 where
  pub graph : IsGraph kept.graph
  pub within : IsWithin kept.limits kept.graph
