-- What a search may read from a place on, by what it is for.
use Rattle.std.specs.Prelude.{ℕ, ◌+◌, ◌-◌, ◌*◌, drop, Bool, List, length, slice_set}
use Rattle.flux_model.specs.Costs.{is_next, rows_read}
use Rattle.flux_model.specs.Graph.{Graph}
use Rattle.flux_model.specs.Pattern.{PatternGraph, vertex_count}
use Rattle.flux_model.specs.Tree.{QueryTree, edge_at}
use Rattle.flux_model.specs.Order.{SearchOrder}
use Rattle.tree_search.specs.Given.{nth_vertex, nth_anchor}
use Rattle.tree_search.specs.declared.aim.Aim.{Aim}
use Rattle.tree_search.specs.declared.aim.Aim.TheVariants.{All, Edge}

-- ---- by what a search is for

-- the vertex that has to have one id; where all embeddings are looked for it is none
abbrev pub head_of : PatternGraph → Aim → ℕ
head_of q All = vertex_count q
head_of q (Edge i t) = (edge_at q i).head

-- the id that it has to have
abbrev pub target_of : Aim → ℕ
target_of All = 0
target_of (Edge i t) = t.now.dst

-- the rows that are read from place k on, each turn of them tested against every pattern edge
abbrev pub look_from : PatternGraph → QueryTree → Graph → Aim → SearchOrder → ℕ → List ℕ → ℕ
look_from q t g aim o k m = (length q.edges + 4) * rows_read q t g (head_of q aim) (target_of aim) (drop (k - 1) o.places) m

-- those with z for w
abbrev pub look_over : PatternGraph → QueryTree → Graph → Aim → SearchOrder → ℕ → List ℕ → ℕ → ℕ → ℕ
look_over q t g aim o k m w z = (length q.edges + 4) * rows_read q t g (head_of q aim) (target_of aim) (drop k o.places) (slice_set m w z)

-- whether z goes on with a partial map at place k
abbrev pub goes_next : PatternGraph → QueryTree → Graph → Aim → SearchOrder → ℕ → List ℕ → ℕ → Bool
goes_next q t g aim o k m z = is_next q t g (head_of q aim) (target_of aim) m (record { vertex = nth_vertex o k; anchor = nth_anchor o k }) z
