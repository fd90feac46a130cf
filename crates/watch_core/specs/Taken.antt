-- What a line of the updates came to, as a session answers it.
use Rattle.std.specs.Prelude.{◌≡◌, List}
use Rattle.flux_model.specs.Graph.{Graph, IsGraph}
use Rattle.flux_model.specs.Pattern.{PatternGraph}
use Rattle.flux_model.specs.Report.{Outcome, Ignored, Rejected, Changed, graph_after}
use Rattle.flux_model.specs.Deltas.{change_deltas, AreReordered}
use Rattle.watch_core.specs.declared.taken.Taken.{Taken}
use Rattle.watch_core.specs.declared.taken.Taken.TheVariants as taken

-- the answer is what the line came to over the graph g: nothing, the same refusal, or a change, with what each pattern gained and lost by it
abbrev pub IsTaken : List PatternGraph → Graph → Outcome → Taken → Type 0
IsTaken patterns g came_to taken.Ignored = came_to ≡ Ignored
IsTaken patterns g came_to (taken.Refused code) = came_to ≡ Rejected code
IsTaken patterns g came_to (taken.Changed deltas) = (h : Graph) × (came_to ≡ Changed h) × AreReordered (change_deltas 0 g h patterns) deltas

-- and what stands before and after the line is a graph
pub record IsTakenOver (patterns : List PatternGraph) (g : Graph) (came_to : Outcome) (answer : Taken) : Type 0 where
  pub before : IsGraph g
  pub after : IsGraph (graph_after g came_to)
  pub taken : IsTaken patterns g came_to answer
