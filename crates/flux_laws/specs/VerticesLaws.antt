-- What holds of updates that add or remove a vertex.
use Rattle.std.specs.Prelude.{◌≡◌, ◌⊎◌, ℕ, ◌<◌, List, [], length, Ok}
use Rattle.flux_model.specs.Graph.{Graph, IsGraph, apply}
use Rattle.flux_model.specs.Pattern.{PatternGraph, IsPattern, vertex_count}
use Rattle.flux_model.specs.Change.{gained, lost}
use Rattle.flux_model.specs.declared.graph.Update.TheVariants.{AddVertex, DropVertex}
use Rattle.flux_model.specs.declared.limits.Limits.{Limits}

-- more than one vertex, or an edge
abbrev pub HasMore : PatternGraph → Type 0
HasMore q = (1 < vertex_count q) ⊎ (0 < length q.edges)

-- the same embeddings before and after
abbrev pub ChangesNothing : PatternGraph → Graph → Graph → Type 0
ChangesNothing q old new = (gained q old new ≡ []) × (lost q old new ≡ [])

abbrev pub AddedVertexChangesNoEmbedding : Type 0
AddedVertexChangesNoEmbedding =
    (limits : Limits) (q : PatternGraph) (old new : Graph) (id : ℕ) (labels : List (List ℕ)) →
    IsPattern q → HasMore q → IsGraph old → apply limits old (AddVertex id labels) ≡ Ok new → ChangesNothing q old new

abbrev pub DroppedVertexChangesNoEmbedding : Type 0
DroppedVertexChangesNoEmbedding =
    (limits : Limits) (q : PatternGraph) (old new : Graph) (id : ℕ) →
    IsPattern q → HasMore q → apply limits old (DropVertex id) ≡ Ok new → ChangesNothing q old new
