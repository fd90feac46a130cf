-- Worked examples of the classes of a triple and of the deltas of a change, computed from the definitions.
use Rattle.std.specs.Prelude.{◌≡◌, ℕ, List, [], ◌∷◌, codes, refl}
use Rattle.flux_model.specs.Graph.{Graph}
use Rattle.flux_model.specs.Pattern.{PatternGraph}
use Rattle.flux_model.specs.Embedding.{embeddings}
use Rattle.flux_model.specs.Change.{gained}
use Rattle.flux_model.specs.Classes.{edge_class}
use Rattle.flux_model.specs.Deltas.{with_delta, change_deltas, answer_deltas}
use Rattle.flux_model.specs.declared.graph.Triple.{Triple}
use Rattle.flux_model.specs.declared.maps.Delta.{Delta}
use Rattle.flux_model.proofs.TreeRows.{graph, pattern}

-- ---- a path of two edges with one label, over a vertex with a loop and an edge there and back

abbrev path : PatternGraph
path = pattern (codes "p path hom\nv 0\nv 1\nv 2\ne 0 1 r\ne 1 2 r\n")

abbrev there_and_back : Graph
there_and_back = graph (codes "v 1\nv 2\ne 1 2 r\ne 2 1 r\n")

abbrev with_loop : Graph
with_loop = graph (codes "v 1\nv 2\ne 1 1 r\ne 1 2 r\ne 2 1 r\n")

abbrev loop : Triple
loop = record { src = 1; label = codes "r"; dst = 1 }

abbrev ids : ℕ → ℕ → ℕ → List ℕ
ids a b c = a ∷ b ∷ c ∷ []

all_paths : embeddings path with_loop ≡ ids 1 1 1 ∷ ids 1 1 2 ∷ ids 1 2 1 ∷ ids 2 1 1 ∷ ids 2 1 2 ∷ []
all_paths = refl

-- the first edge is sent to the loop by two of them, of which the one sends the second edge there too; the second edge alone by one more
loop_classes : (edge_class path with_loop loop 0 ≡ ids 1 1 1 ∷ ids 1 1 2 ∷ []) × (edge_class path with_loop loop 1 ≡ ids 2 1 1 ∷ []) × (edge_class path with_loop loop 2 ≡ [])
loop_classes = (refl, refl, refl)

-- together they are what the loop brings
loop_gained : gained path there_and_back with_loop ≡ ids 1 1 1 ∷ ids 1 1 2 ∷ ids 2 1 1 ∷ []
loop_gained = refl

-- ---- deltas

abbrev changed : ℕ → List (List ℕ) → List (List ℕ) → Delta
changed k gained lost = record { pattern = k; gained = gained; lost = lost }

-- one without a map is left out, and one that only loses is kept
left_out : (with_delta (changed 0 [] []) (changed 1 (ids 1 2 3 ∷ []) [] ∷ []) ≡ changed 1 (ids 1 2 3 ∷ []) [] ∷ []) × (with_delta (changed 0 [] ((1 ∷ []) ∷ [])) [] ≡ changed 0 [] ((1 ∷ []) ∷ []) ∷ [])
left_out = (refl, refl)

abbrev alone : PatternGraph
alone = pattern (codes "p alone hom\nv 0\n")

-- the loop brings nothing to a pattern of one vertex, so the path keeps its number 1
second_alone : (change_deltas 0 there_and_back with_loop (alone ∷ path ∷ []) ≡ changed 1 (ids 1 1 1 ∷ ids 1 1 2 ∷ ids 2 1 1 ∷ []) [] ∷ [])
    × (change_deltas 0 with_loop there_and_back (alone ∷ path ∷ []) ≡ changed 1 [] (ids 1 1 1 ∷ ids 1 1 2 ∷ ids 2 1 1 ∷ []) ∷ [])
second_alone = (refl, refl)

-- a pattern without an embedding is left out of a listing
listed : answer_deltas 0 (graph (codes "v 1\n")) (path ∷ alone ∷ []) ≡ changed 1 ((1 ∷ []) ∷ []) [] ∷ []
listed = refl
