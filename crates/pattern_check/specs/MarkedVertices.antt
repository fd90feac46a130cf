-- Vertices that a search has marked.
use Rattle.std.specs.Prelude.{ℕ, Bool, false, ◌==◌, ◌&&◌, ◌||◌, List, filter, slice_index_or}
use Rattle.std.specs.List.{list_any, range_with_len}
use Rattle.flux_model.specs.declared.pattern.PatternEdge.{PatternEdge}

-- no vertex past the end of the marks is marked
abbrev pub is_marked : List Bool → ℕ → Bool
is_marked marks u = slice_index_or marks u false

-- the marked vertices below n
abbrev pub marked : List Bool → ℕ → List ℕ
marked marks n = filter (is_marked marks) (range_with_len 0 n)

-- whether the edge, in either direction, leads from a marked vertex to u
abbrev pub leads_to : List Bool → ℕ → PatternEdge → Bool
leads_to marks u e = (e.head == u && is_marked marks e.tail) || (e.tail == u && is_marked marks e.head)

-- whether u is marked, or next to a marked vertex
abbrev pub is_near : List PatternEdge → List Bool → ℕ → Bool
is_near edges marks u = is_marked marks u || list_any (leads_to marks u) edges
