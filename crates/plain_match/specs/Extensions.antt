-- The embeddings that begin with given ids.
use Rattle.std.specs.Prelude.{ℕ, List, ◌++◌, filter, map}
use Rattle.flux_model.specs.Graph.{Graph, ids}
use Rattle.flux_model.specs.Pattern.{PatternGraph}
use Rattle.flux_model.specs.Embedding.{is_embedding, id_lists}

-- those that have so many more ids
abbrev pub extensions : PatternGraph → Graph → List ℕ → ℕ → List (List ℕ)
extensions q g prefix left = filter (is_embedding q g) (map (λ m. prefix ++ m) (id_lists (ids g) left))
