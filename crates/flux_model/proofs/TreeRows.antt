-- Worked examples of cards, trees, states, rows and orders, computed from the definitions.
use Rattle.std.specs.Prelude.{◌≡◌, ℕ, ◌+◌, ◌*◌, List, [], ◌∷◌, codes, Option, Some, None, Result, Ok, Err, refl, map}
use Rattle.flux_model.specs.Limits.{standard}
use Rattle.flux_model.specs.Graph.{Graph, empty_graph}
use Rattle.flux_model.specs.GraphFile.{graph_of}
use Rattle.flux_model.specs.Pattern.{PatternGraph}
use Rattle.flux_model.specs.PatternFile.{patterns_of}
use Rattle.flux_model.specs.Tree.{QueryTree, cards, children, tree, tree_for, non_tree}
use Rattle.flux_model.specs.States.{joined, state, edge_state}
use Rattle.flux_model.specs.Exact.{row_of, live_counts}
use Rattle.flux_model.specs.Order.{search_order}
use Rattle.flux_model.specs.Costs.{no_dead_end_cost}
use Rattle.flux_model.specs.declared.code.Bad.{Bad}
use Rattle.flux_model.specs.declared.pattern.Mode.TheVariants.{Hom}
use Rattle.flux_model.specs.declared.state.State.{State}
use Rattle.flux_model.specs.declared.state.State.TheVariants.{Null, Implicit, Explicit}
use Rattle.flux_model.specs.declared.tree.TreeLink.{TreeLink}

abbrev graph_in : Result Graph Bad → Graph
graph_in (Ok g) = g
graph_in (Err _) = empty_graph

abbrev first_in : Result (List PatternGraph) Bad → PatternGraph
first_in (Ok (q ∷ qs)) = q
first_in (Ok []) = record { name = []; mode = Hom; labels = []; edges = [] }
first_in (Err _) = record { name = []; mode = Hom; labels = []; edges = [] }

-- the graph of a file
abbrev pub graph : List ℕ → Graph
graph text = graph_in (graph_of standard text)

-- the first pattern of a file
abbrev pub pattern : List ℕ → PatternGraph
pattern text = first_in (patterns_of standard text)

-- the link of a vertex: its parent, and the number of its edge
abbrev pub under : ℕ → ℕ → Option TreeLink
under parent edge = Some (record { parent = parent; edge = edge })

-- the states of a pattern vertex with each of the ids
abbrev states : PatternGraph → QueryTree → Graph → ℕ → List ℕ → List State
states q t g u ids = map (state (joined q t g) u) ids

-- ---- a chain, whose second edge comes with an update

abbrev chain : PatternGraph
chain = pattern (codes "p chain hom\nv 0 A\nv 1 B\nv 2 C\ne 0 1 r\ne 1 2 r\n")

abbrev chain_before : Graph
chain_before = graph (codes "v 1 A\nv 2 B\nv 3 C\ne 1 2 r\n")

abbrev chain_after : Graph
chain_after = graph (codes "v 1 A\nv 2 B\nv 3 C\ne 1 2 r\ne 2 3 r\n")

abbrev chain_tree : QueryTree
chain_tree = record { root = 1; links = under 1 0 ∷ None ∷ under 1 1 ∷ []; edge_count = 2 }

chain_cards : cards chain chain_before ≡ record { edges = 1 ∷ 0 ∷ []; vertices = 1 ∷ 1 ∷ 1 ∷ [] }
chain_cards = refl

chain_tree_is : tree chain chain_before ≡ chain_tree
chain_tree_is = refl

chain_children : (children chain_tree 1 ≡ 0 ∷ 2 ∷ []) × (non_tree chain_tree ≡ [])
chain_children = (refl, refl)

chain_states_before : (states chain chain_tree chain_before 0 (1 ∷ 2 ∷ []) ≡ Explicit ∷ Null ∷ []) × (states chain chain_tree chain_before 1 (2 ∷ 3 ∷ []) ≡ Implicit ∷ Null ∷ []) × (states chain chain_tree chain_before 2 (3 ∷ []) ≡ Null ∷ [])
chain_states_before = (refl, refl, refl)

chain_states_after : (states chain chain_tree chain_after 0 (1 ∷ []) ≡ Explicit ∷ []) × (states chain chain_tree chain_after 1 (2 ∷ []) ≡ Explicit ∷ []) × (states chain chain_tree chain_after 2 (3 ∷ []) ≡ Explicit ∷ [])
chain_states_after = (refl, refl, refl)

-- the root's in counter is 1, and each child has its out counter
chain_rows : (row_of (joined chain chain_tree chain_before) 1 2 ≡ Some (record { ins = 1; outs = 1 ∷ 0 ∷ [] })) × (row_of (joined chain chain_tree chain_before) 0 1 ≡ Some (record { ins = 1; outs = [] }))
chain_rows = (refl, refl)

-- an edge's state is its lower end's, where its upper end is not null
chain_edges : (edge_state (joined chain chain_tree chain_before) 0 2 1 ≡ Explicit) × (edge_state (joined chain chain_tree chain_before) 0 3 1 ≡ Null)
chain_edges = (refl, refl)

chain_order : search_order chain_tree 0 (1 ∷ 0 ∷ 0 ∷ []) ≡ record { start = 0; places = record { vertex = 1; anchor = 0 } ∷ record { vertex = 2; anchor = 1 } ∷ [] }
chain_order = refl

-- three vertices and no embedding; then one, whose root 2 has the degree 2
chain_cost : (no_dead_end_cost chain chain_tree chain_before ≡ 8) × (no_dead_end_cost chain chain_tree chain_after ≡ 8 + 6 * (1 + (3 + 3)))
chain_cost = (refl, refl)

-- ---- trees for given cards

triangle : tree_for (pattern (codes "p tri hom\nv 0\nv 1\nv 2\ne 0 1 r\ne 1 2 r\ne 2 0 r\n")) (2 ∷ 1 ∷ 1 ∷ []) (3 ∷ 3 ∷ 3 ∷ []) ≡ record { root = 1; links = under 2 2 ∷ None ∷ under 1 1 ∷ []; edge_count = 3 }
triangle = refl

triangle_rest : non_tree (record { root = 1; links = under 2 2 ∷ None ∷ under 1 1 ∷ []; edge_count = 3 }) ≡ 0 ∷ []
triangle_rest = refl

-- a self-loop is no tree edge, though it has the least card
self_loop : tree_for (pattern (codes "p q hom\nv 0\nv 1\ne 0 1 r\ne 1 1 r\n")) (2 ∷ 1 ∷ []) (2 ∷ 2 ∷ []) ≡ record { root = 1; links = under 1 0 ∷ None ∷ []; edge_count = 2 }
self_loop = refl

-- of equal numbers of explicit pairs the lower vertex comes first
star_order : search_order (record { root = 0; links = None ∷ under 0 0 ∷ under 0 1 ∷ under 0 2 ∷ []; edge_count = 3 }) 2 (4 ∷ 3 ∷ 3 ∷ 2 ∷ []) ≡
    record { start = 2; places = record { vertex = 0; anchor = 2 } ∷ record { vertex = 3; anchor = 0 } ∷ record { vertex = 1; anchor = 0 } ∷ [] }
star_order = refl

-- ---- a path with its root at its start

abbrev path : PatternGraph
path = pattern (codes "p path hom\nv 0\nv 1\nv 2\ne 0 1 r\ne 1 2 r\n")

abbrev path_tree : QueryTree
path_tree = record { root = 0; links = None ∷ under 0 0 ∷ under 1 1 ∷ []; edge_count = 2 }

abbrev one_way : Graph
one_way = graph (codes "v 1\nv 2\ne 1 2 r\n")

abbrev both_ways : Graph
both_ways = graph (codes "v 1\nv 2\ne 1 2 r\ne 2 1 r\n")

path_one_way : map (λ u. states path path_tree one_way u (1 ∷ 2 ∷ [])) (0 ∷ 1 ∷ 2 ∷ []) ≡ (Implicit ∷ Implicit ∷ []) ∷ (Null ∷ Implicit ∷ []) ∷ (Null ∷ Null ∷ []) ∷ []
path_one_way = refl

path_both_ways : map (λ u. states path path_tree both_ways u (1 ∷ 2 ∷ [])) (0 ∷ 1 ∷ 2 ∷ []) ≡ (Explicit ∷ Explicit ∷ []) ∷ (Explicit ∷ Explicit ∷ []) ∷ (Explicit ∷ Explicit ∷ []) ∷ []
path_both_ways = refl

path_live : (live_counts one_way (joined path path_tree one_way) ≡ 0 ∷ 0 ∷ 0 ∷ []) × (live_counts both_ways (joined path path_tree both_ways) ≡ 2 ∷ 2 ∷ 2 ∷ [])
path_live = (refl, refl)
