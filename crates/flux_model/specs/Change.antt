-- What a change of the graph does to the embeddings of a pattern.
use Rattle.std.specs.Prelude.{ℕ, not, Bool, List, filter, nat_eq}
use Rattle.std.specs.List.{list_any}
use Rattle.std.specs.Cmp.Lexicographic.{pointwise}
use Rattle.flux_model.specs.Graph.{Graph}
use Rattle.flux_model.specs.Pattern.{PatternGraph}
use Rattle.flux_model.specs.Embedding.{embeddings}

-- the same ids in the same places
abbrev pub same_map : List ℕ → List ℕ → Bool
same_map = pointwise nat_eq

-- the members of the first list that are not in the second, in their order
abbrev pub without : List (List ℕ) → List (List ℕ) → List (List ℕ)
without ms others = filter (λ m. not (list_any (same_map m) others)) ms

-- the embeddings that the new graph has and the old one lacked
abbrev pub gained : PatternGraph → Graph → Graph → List (List ℕ)
gained q old new = without (embeddings q new) (embeddings q old)

-- those that the old graph had and the new one lacks
abbrev pub lost : PatternGraph → Graph → Graph → List (List ℕ)
lost q old new = without (embeddings q old) (embeddings q new)
