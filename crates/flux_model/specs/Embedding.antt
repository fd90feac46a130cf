-- The embeddings of a pattern in a graph: homomorphisms, or isomorphisms where no id may occur twice.
use Rattle.std.specs.Prelude.{ℕ, zero, suc, ◌&&◌, Bool, true, List, [], ◌∷◌, map, filter, slice_index, flat_map, nat_eq, IsTrue}
use Rattle.std.specs.List.{list_all}
use Rattle.std.specs.Cmp.Lexicographic.{pointwise}
use Rattle.flux_model.specs.Ordered.{are_distinct_by}
use Rattle.flux_model.specs.Graph.{Graph, ids, has_triple}
use Rattle.flux_model.specs.Pattern.{PatternGraph, vertex_count, fits_labels}
use Rattle.flux_model.specs.declared.graph.Triple.{Triple}
use Rattle.flux_model.specs.declared.pattern.Mode.{Mode}
use Rattle.flux_model.specs.declared.pattern.Mode.TheVariants.{Hom, Iso}
use Rattle.flux_model.specs.declared.pattern.PatternEdge.{PatternEdge}

-- there is an id for each pattern vertex, which fits its labels
abbrev pub fit_all : PatternGraph → Graph → List ℕ → Bool
fit_all q g m = pointwise (fits_labels g) q.labels m

-- the triple to which the map sends a pattern edge
abbrev pub image : List ℕ → PatternEdge → Triple
image m e = record { src = slice_index m e.tail; label = e.label; dst = slice_index m e.head }

-- each pattern edge is sent to a triple of the graph
abbrev pub keeps_edges : PatternGraph → Graph → List ℕ → Bool
keeps_edges q g m = list_all (λ e. has_triple g (image m e)) q.edges

-- an isomorphism is injective: no id occurs twice
abbrev pub keeps_mode : Mode → List ℕ → Bool
keeps_mode Hom m = true
keeps_mode Iso m = are_distinct_by nat_eq m

abbrev pub is_embedding : PatternGraph → Graph → List ℕ → Bool
is_embedding q g m = fit_all q g m && keeps_edges q g m && keeps_mode q.mode m

abbrev pub IsEmbedding : PatternGraph → Graph → List ℕ → Type 0
IsEmbedding q g m = IsTrue (is_embedding q g m)

-- all lists of n of these ids, ascending element by element
abbrev pub id_lists : List ℕ → ℕ → List (List ℕ)
id_lists vs zero = [] ∷ []
id_lists vs (suc n) = in_front (id_lists vs n)
  where
    in_front : List (List ℕ) → List (List ℕ)
    in_front ms = flat_map (λ v. map (λ m. v ∷ m) ms) vs

-- all embeddings, in ascending order
abbrev pub embeddings : PatternGraph → Graph → List (List ℕ)
embeddings q g = filter (is_embedding q g) (id_lists (ids g) (vertex_count q))
