-- The rows of the graph by which a vertex can be reached from the ids that are given.
use Rattle.std.specs.Prelude.{ℕ, ◌≤◌, ◌==◌, List, length, Option, Some, None, IsTrue, slice_index, if◌then◌else◌}
use Rattle.flux_model.specs.Embedding.{is_embedding}
use Rattle.flux_model.specs.Graph.{Graph, has_vertex, has_triple}
use Rattle.flux_model.specs.Pattern.{PatternGraph}
use Rattle.flux_model.specs.declared.pattern.PatternEdge.{PatternEdge}
use Rattle.graph_traits.specs.Numbers.{IsNumberIn}
use Rattle.graph_rows.specs.Directions.{triple_of, whole_row}
use Rattle.graph_rows.specs.declared.graph_row.GraphRow.{GraphRow}
use Rattle.tree_search.specs.Members.{goes_on}

-- how many triples the row has, of any label
abbrev pub turns : Graph → GraphRow → ℕ
turns g r = length (whole_row r.direction g r.vertex)

-- the other end of an edge that has w as an end
abbrev pub end_beside : PatternEdge → ℕ → Option ℕ
end_beside e w = if e.head == w then Some e.tail else if e.tail == w then Some e.head else None

-- it leads to the id that w has in any embedding with the given ids
pub record IsWay (texts : ℕ → Option (List ℕ)) (q : PatternGraph) (g : Graph) (p : List (Option ℕ)) (w : ℕ) (r : GraphRow) : Type 0 where
  pub stands : IsTrue (has_vertex g r.vertex)
  pub number : IsNumberIn texts g r.label.now r.label_number
  pub leads : (m : List ℕ) → IsTrue (is_embedding q g m) → IsTrue (goes_on p m) → IsTrue (has_triple g (triple_of r.direction r.vertex r.label.now (slice_index m w)))

-- and it has no more triples than another
pub record IsShorterWay (texts : ℕ → Option (List ℕ)) (q : PatternGraph) (g : Graph) (p : List (Option ℕ)) (w : ℕ) (other r : GraphRow) : Type 0 where
  pub way : IsWay texts q g p w r
  pub few : turns g r ≤ turns g other
