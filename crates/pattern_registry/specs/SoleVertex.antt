-- What a vertex at which no triple ends brings to the patterns of one vertex without an edge.
use Rattle.std.specs.Prelude.{ℕ, ◌||◌, ◌&&◌, not, nat_lt, Bool, List, [], ◌∷◌, length, if◌then◌else◌}
use Rattle.flux_model.specs.Graph.{Graph}
use Rattle.flux_model.specs.Pattern.{PatternGraph, vertex_count, fits}
use Rattle.flux_model.specs.declared.maps.Delta.{Delta}

-- one vertex, and no edge
abbrev pub is_sole : PatternGraph → Bool
is_sole q = not (nat_lt 1 (vertex_count q) || nat_lt 0 (length q.edges))

-- the id, where it fits the only vertex
abbrev pub sole_maps : PatternGraph → Graph → ℕ → List (List ℕ)
sole_maps q g id = if is_sole q && fits q 0 g id then (id ∷ []) ∷ [] else []

abbrev pub sole_gain : Graph → ℕ → ℕ → PatternGraph → Delta
sole_gain g id i q = record { pattern = i; gained = sole_maps q g id; lost = [] }

abbrev pub sole_loss : Graph → ℕ → ℕ → PatternGraph → Delta
sole_loss g id i q = record { pattern = i; gained = []; lost = sole_maps q g id }
