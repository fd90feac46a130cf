-- Refusals that a graph file may bring about.
use Rattle.std.specs.Prelude.{Bool, true, false}
use Rattle.flux_model.specs.declared.code.Code.{Code}
use Rattle.flux_model.specs.declared.code.Code.TheVariants as code
use Rattle.flux_model.specs.declared.graph.Update.{Update}
use Rattle.flux_model.specs.declared.graph.Update.TheVariants.{AddEdge}

-- the refusal of an edge that is there already
abbrev pub is_repeat : Update → Code → Bool
is_repeat (AddEdge t) code.Exists = true
is_repeat _ _ = false
