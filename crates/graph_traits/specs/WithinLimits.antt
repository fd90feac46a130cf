-- What every store keeps.
use Rattle.flux_model.specs.Graph.{Graph, IsGraph, IsWithin}
use Rattle.flux_model.specs.Limits.{IsFair}
use Rattle.flux_model.specs.declared.limits.Limits.{Limits}

-- a graph within fair limits
pub record IsWithinLimits (limits : Limits) (g : Graph) : Type 0 where
  pub graph : IsGraph g
  pub fair : IsFair limits
  pub within : IsWithin limits g
