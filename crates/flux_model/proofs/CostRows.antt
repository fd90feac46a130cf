-- Worked examples of costs, computed from the definitions.
use Rattle.std.specs.Prelude.{◌≡◌, ℕ, ◌+◌, ◌*◌, List, [], ◌∷◌, codes, refl}
use Rattle.flux_model.specs.Limits.{standard}
use Rattle.flux_model.specs.Lines.{held}
use Rattle.flux_model.specs.Reading.{update_reading}
use Rattle.flux_model.specs.Graph.{Graph}
use Rattle.flux_model.specs.Pattern.{PatternGraph}
use Rattle.flux_model.specs.Tree.{tree}
use Rattle.flux_model.specs.Costs.{start_cost, line_cost}
use Rattle.flux_model.proofs.TreeRows.{graph, pattern}

-- what a line of the updates may cost, for one pattern that was started over the graph
abbrev cost_of : PatternGraph → Graph → List ℕ → ℕ
cost_of q g line = line_cost standard ((q, tree q g) ∷ []) g (update_reading (held line))

abbrev ab : PatternGraph
ab = pattern (codes "p ab hom\nv 0 A\nv 1 B\ne 0 1 r\n")

abbrev two : Graph
two = graph (codes "v 1 A\nv 2 B\n")

-- two vertices and one edge of the pattern, over two vertices without a triple
ab_start : start_cost ab two ≡ 32 * 3 * 3
ab_start = refl

-- one edge has the label; both pairs come to be explicit, with the degree 1 each; the search from the triple reads one row, of one turn
ab_joined : cost_of ab two (codes "e 1 2 r") ≡ 2 + 4 + 16 * 2 * 4 + 5 * 4
ab_joined = refl

-- both again, as numbers
ab_numbers : (start_cost ab two ≡ 288) × (cost_of ab two (codes "e 1 2 r") ≡ 154)
ab_numbers = (refl, refl)

-- a line that is refused, or says nothing, costs two steps
ab_refused : (cost_of ab two (codes "e 1 9 r") ≡ 2) × (cost_of ab two (codes "e 1 2") ≡ 2) × (cost_of ab two (codes "# e 1 2 r") ≡ 2)
ab_refused = (refl, refl, refl)

-- a vertex costs four more for each pattern
ab_vertex : cost_of ab two (codes "v 3 A") ≡ 2 + 4
ab_vertex = refl

-- an edge that is accepted, and whose label no pattern has, costs two steps as well
other_label : cost_of ab (graph (codes "v 1 A\nv 2 B\nv 3\n")) (codes "e 1 3 z") ≡ 2
other_label = refl

-- an edge of the pattern has the label, but the ends do not fit: no pair moves, and the search is not entered
unfit_ends : cost_of (pattern (codes "p ac hom\nv 0 A\nv 1 C\ne 0 1 s\n")) (graph (codes "v 0 A\nv 1 B\nv 2 B\ne 0 1 s\ne 0 2 s\n")) (codes "e 1 0 s") ≡ 8
unfit_ends = refl
