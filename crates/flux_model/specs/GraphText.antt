-- The one text of a graph.
use Rattle.std.specs.Prelude.{ℕ, List, [], ◌∷◌, ◌++◌, codes, flat_map}
use Rattle.std.specs.List.{join_with_byte}
use Rattle.std.specs.Fmt.{decimal}
use Rattle.flux_model.specs.Graph.{Graph}
use Rattle.flux_model.specs.declared.graph.Triple.{Triple}
use Rattle.flux_model.specs.declared.graph.Vertex.{Vertex}

-- words with a space between each two, and a line's end
abbrev pub text_line : List (List ℕ) → List ℕ
text_line words = join_with_byte 32 words ++ (10 ∷ [])

abbrev pub vertex_line : Vertex → List ℕ
vertex_line v = text_line (codes "v" ∷ decimal v.id ∷ v.labels)

abbrev pub triple_line : Triple → List ℕ
triple_line t = text_line (codes "e" ∷ decimal t.src ∷ decimal t.dst ∷ t.label ∷ [])

-- first the vertices, and then the triples, each in ascending order
abbrev pub graph_text : Graph → List ℕ
graph_text g = flat_map vertex_line g.vertices ++ flat_map triple_line g.triples
