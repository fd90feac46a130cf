-- What the rows of a vertex list, and which vertices a graph has.
use Rattle.std.specs.Prelude.{◌≡◌, ℕ, ◌==◌, List, Option, filter}
use Rattle.std.specs.List.{find}
use Rattle.flux_model.specs.Graph.{Graph}
use Rattle.flux_model.specs.declared.graph.Vertex.{Vertex}
use Rattle.flux_model.specs.declared.graph.Triple.{Triple}
use Rattle.graph_traits.specs.declared.spot.Spot.{Spot}

-- the triples that begin at v, and those that end there
abbrev pub triples_from : Graph → ℕ → List Triple
triples_from g v = filter (λ t. t.src == v) g.triples

abbrev pub triples_to : Graph → ℕ → List Triple
triples_to g v = filter (λ t. t.dst == v) g.triples

-- the vertex with this id
abbrev pub vertex_of_id : Graph → ℕ → Option Vertex
vertex_of_id g id = find (λ v. v.id == id) g.vertices

-- a row of each vertex from each of its places on, as it was
abbrev pub SameRows : (ℕ → Spot → List Triple) → (ℕ → Spot → List Triple) → Type 0
SameRows rows others = (v : ℕ) (at : Spot) → rows v at ≡ others v at
