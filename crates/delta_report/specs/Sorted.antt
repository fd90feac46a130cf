-- Lists of deltas whose maps were put in order.
use Rattle.std.specs.Prelude.{List}
use Rattle.std.specs.List.{AllZip}
use Rattle.flux_model.specs.Deltas.{IsReordered, IsInOrder}
use Rattle.flux_model.specs.declared.maps.Delta.{Delta}

-- the same delta, with both lists of maps in ascending order
pub record IsSortedDelta (before after : Delta) : Type 0 where
  pub same : IsReordered before after
  pub order : IsInOrder after

-- as many deltas, each with the same maps in ascending order
abbrev pub AreSorted : List Delta → List Delta → Type 0
AreSorted before after = AllZip IsSortedDelta before after
