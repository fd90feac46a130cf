-- Corner cases, computed from the definitions.
use Rattle.std.specs.Prelude.{◌≡◌, ℕ, true, false, List, [], ◌∷◌, ◌++◌, codes, Option, Some, None, Ok, Err, refl}
use Rattle.flux_model.specs.Limits.{standard}
use Rattle.flux_model.specs.Lines.{held, long, lines, rest}
use Rattle.flux_model.specs.Reading.{update_reading, pattern_reading}
use Rattle.flux_model.specs.Graph.{Graph, apply}
use Rattle.flux_model.specs.GraphFile.{graph_of}
use Rattle.flux_model.specs.Pattern.{PatternGraph, reached, is_connected}
use Rattle.flux_model.specs.PatternFile.{patterns_of}
use Rattle.flux_model.specs.Tree.{QueryTree, edge_cards, tree_for}
use Rattle.flux_model.specs.declared.tree.TreeLink.{TreeLink}
use Rattle.flux_model.specs.States.{joined, reaches, extends}
use Rattle.flux_model.specs.declared.code.Code.TheVariants as code
use Rattle.flux_model.specs.declared.said.Said.TheVariants.{Says, Refused}
use Rattle.flux_model.specs.declared.graph.Update.TheVariants.{AddVertex, AddEdge}
use Rattle.flux_model.specs.declared.pattern.PatternEdge.{PatternEdge}
use Rattle.flux_model.specs.declared.graph.Triple.{Triple}
use Rattle.flux_model.specs.declared.graph.Vertex.{Vertex}
use Rattle.flux_model.specs.declared.pattern.Mode.TheVariants.{Hom}

-- a rest keeps one byte more than a line may have, for a byte 13
rest_one_more : (rest 2 (codes "aaa") ≡ held (codes "aaa")) × (rest 2 (codes "aaaa") ≡ long) × (lines 2 (codes "aaa") ≡ long ∷ [])
rest_one_more = (refl, refl, refl)

-- one byte 13 is dropped, and a second belongs to the line
returns : lines 2 (codes "aa\r\naa\r\r\n\r") ≡ held (codes "aa") ∷ long ∷ held [] ∷ []
returns = refl

-- sixteen label words at most, repeated ones included
sixteen_labels : update_reading (held (codes "v 1 a a a a a a a a a a a a a a a b")) ≡ Says (AddVertex 1 (codes "a" ∷ codes "b" ∷ []))
sixteen_labels = refl

seventeen_labels : update_reading (held (codes "v 1 a a a a a a a a a a a a a a a a a")) ≡ Refused code.Arity
seventeen_labels = refl

-- a broken name comes before a broken mode, and a number before a label
name_before_mode : pattern_reading (held (codes "p " ++ 127 ∷ codes " any")) ≡ Refused code.Label
name_before_mode = refl

number_before_label : update_reading (held (codes "e 1 x " ++ 127 ∷ [])) ≡ Refused code.Number
number_before_label = refl

abbrev vertex : ℕ → List (List ℕ) → Vertex
vertex id labels = record { id = id; labels = labels }

abbrev edge : ℕ → ℕ → Triple
edge src dst = record { src = src; label = codes "r"; dst = dst }

-- the labels of a new vertex count, and a name on a vertex and on a triple counts once
new_name : apply (record standard { labels = 1 }) (record { vertices = vertex 1 (codes "r" ∷ []) ∷ []; triples = [] }) (AddVertex 2 (codes "A" ∷ [])) ≡ Err code.Full
new_name = refl

same_name : apply (record standard { labels = 1 }) (record { vertices = vertex 1 (codes "r" ∷ []) ∷ []; triples = [] }) (AddEdge (edge 1 1)) ≡ Ok (record { vertices = vertex 1 (codes "r" ∷ []) ∷ []; triples = edge 1 1 ∷ [] })
same_name = refl

-- the names on triples count, and only new ones of the vertex
abbrev looped : Graph
looped = record { vertices = vertex 1 [] ∷ []; triples = edge 1 1 ∷ [] }

triple_name : apply (record standard { labels = 1 }) looped (AddVertex 2 (codes "A" ∷ [])) ≡ Err code.Full
triple_name = refl

name_of_a_triple : apply (record standard { labels = 1 }) looped (AddVertex 2 (codes "r" ∷ [])) ≡ Ok (record looped { vertices = vertex 1 [] ∷ vertex 2 (codes "r" ∷ []) ∷ [] })
name_of_a_triple = refl

-- triples ascend by source, then by label, then by target
triple_order : graph_of standard (codes "v 1\nv 2\ne 2 1 a\ne 1 1 s\ne 1 2 r\ne 1 1 r\n")
    ≡ Ok (record { vertices = vertex 1 [] ∷ vertex 2 [] ∷ []; triples = edge 1 1 ∷ edge 1 2 ∷ record { src = 1; label = codes "s"; dst = 1 } ∷ record { src = 2; label = codes "a"; dst = 1 } ∷ [] })
triple_order = refl

-- a name that is there already is looked for before the number of patterns
name_before_number : (patterns_of (record standard { patterns = 1 }) (codes "p a hom\nv 0\np a iso") ≡ Err (record { line = 3; code = code.Exists }))
    × (patterns_of (record standard { patterns = 1 }) (codes "p a hom\nv 0\np b iso") ≡ Err (record { line = 3; code = code.Full }))
name_before_number = (refl, refl)

-- pattern vertices come in order
lower_number : patterns_of standard (codes "p a hom\nv 0\nv 0") ≡ Err (record { line = 3; code = code.Order })
lower_number = refl

abbrev no_labels : List (List (List ℕ))
no_labels = [] ∷ [] ∷ []

abbrev wanted : ℕ → ℕ → PatternEdge
wanted tail head = record { tail = tail; label = codes "r"; head = head }

abbrev two : Graph
two = record { vertices = vertex 1 [] ∷ vertex 2 [] ∷ []; triples = edge 1 1 ∷ edge 1 2 ∷ [] }

-- vertex 2 is reached against the direction of its edge, two edges away
abbrev meeting : List PatternEdge
meeting = wanted 0 1 ∷ wanted 2 1 ∷ []

against_direction : (reached meeting 3 1 ≡ 0 ∷ 1 ∷ []) × (reached meeting 3 2 ≡ 0 ∷ 1 ∷ 2 ∷ []) × (is_connected (record { name = codes "p"; mode = Hom; labels = [] ∷ no_labels; edges = meeting }) ≡ true)
against_direction = (refl, refl, refl)

-- a loop fits loops alone
loop_cards : edge_cards (record { name = codes "p"; mode = Hom; labels = no_labels; edges = wanted 0 0 ∷ wanted 0 1 ∷ [] }) two ≡ 1 ∷ 2 ∷ []
loop_cards = refl

abbrev under : ℕ → ℕ → Option TreeLink
under parent edge = Some (record { parent = parent; edge = edge })

-- of two ends with the same card the root is the lower, also where it is the head
head_root : tree_for (record { name = codes "p"; mode = Hom; labels = no_labels; edges = wanted 1 0 ∷ [] }) (1 ∷ []) (2 ∷ 2 ∷ []) ≡ record { root = 0; links = None ∷ under 0 0 ∷ []; edge_count = 1 }
head_root = refl

abbrev stem : QueryTree
stem = record { root = 0; links = None ∷ under 0 0 ∷ []; edge_count = 1 }

-- a vertex that is joined and does not fit is not reached
abbrev labelled : PatternGraph
labelled = record { name = codes "p"; mode = Hom; labels = [] ∷ (codes "A" ∷ []) ∷ []; edges = wanted 0 1 ∷ [] }

not_reached : reaches (joined labelled stem two) 1 2 ≡ false
not_reached = refl

-- to extend, each child counts
abbrev fork : PatternGraph
fork = record { name = codes "p"; mode = Hom; labels = [] ∷ (codes "A" ∷ []) ∷ [] ∷ []; edges = wanted 0 1 ∷ wanted 0 2 ∷ [] }

each_child : extends (joined fork (record { root = 0; links = None ∷ under 0 0 ∷ under 0 1 ∷ []; edge_count = 2 }) two) 0 1 ≡ false
each_child = refl

-- and so does the vertex itself
abbrev tight : PatternGraph
tight = record { name = codes "p"; mode = Hom; labels = (codes "A" ∷ []) ∷ [] ∷ []; edges = wanted 0 1 ∷ [] }

itself : extends (joined tight stem two) 0 1 ≡ false
itself = refl

-- also where the vertex is a leaf
unfit_leaf : extends (joined labelled stem two) 1 2 ≡ false
unfit_leaf = refl
