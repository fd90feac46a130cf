-- Ids for some of a pattern's vertices, as a search gives them one after another.
use Rattle.std.specs.Prelude.{ℕ, ◌==◌, ◌&&◌, ◌||◌, not, Bool, true, false, List, Option, Some, None, slice_index_or, slice_set}
use Rattle.std.specs.List.{list_any, list_all, range_with_len}
use Rattle.std.specs.Str.{bytes_eq}
use Rattle.flux_model.specs.Ordered.{are_distinct_by}
use Rattle.flux_model.specs.Graph.{Graph, has_triple}
use Rattle.flux_model.specs.Pattern.{PatternGraph}
use Rattle.flux_model.specs.Tree.{QueryTree, edge_at, non_tree}
use Rattle.flux_model.specs.declared.graph.Triple.{Triple}
use Rattle.flux_model.specs.declared.pattern.Mode.{Mode}
use Rattle.flux_model.specs.declared.pattern.Mode.TheVariants.{Hom, Iso}
use Rattle.flux_model.specs.declared.pattern.PatternEdge.{PatternEdge}

-- the id of a vertex, if it has one
abbrev pub id_of : List (Option ℕ) → ℕ → Option ℕ
id_of m u = slice_index_or m u None

-- the ids, with x for w
abbrev pub with_id : List (Option ℕ) → ℕ → ℕ → List (Option ℕ)
with_id m w x = slice_set m w (Some x)

-- ---- edges

-- the graph has the triple of this label between two ids; true where one of them is not given
abbrev pub stands_between : Graph → List ℕ → Option ℕ → Option ℕ → Bool
stands_between g label (Some src) (Some dst) = has_triple g (record { src = src; label = label; dst = dst })
stands_between g label (Some src) None = true
stands_between g label None dst = true

-- the triple of the edge stands under the ids of its ends
abbrev pub stands_where_given : Graph → List (Option ℕ) → PatternEdge → Bool
stands_where_given g m e = stands_between g e.label (id_of m e.tail) (id_of m e.head)

-- each non-tree edge stands where given
abbrev pub keeps_non_tree : PatternGraph → QueryTree → Graph → List (Option ℕ) → Bool
keeps_non_tree q t g m = list_all (λ i. stands_where_given g m (edge_at q i)) (non_tree t)

-- whether w is an end of the edge
abbrev pub has_end : ℕ → PatternEdge → Bool
has_end w e = e.tail == w || e.head == w

-- with x for w, the edge stands where given, if w is an end of it
abbrev pub edge_joins : Graph → List (Option ℕ) → ℕ → ℕ → PatternEdge → Bool
edge_joins g m w x e = not (has_end w e) || stands_where_given g (with_id m w x) e

-- with x for w, each non-tree edge that has w as an end stands where given
abbrev pub joins : PatternGraph → QueryTree → Graph → List (Option ℕ) → ℕ → ℕ → Bool
joins q t g m w x = list_all (λ i. edge_joins g m w x (edge_at q i)) (non_tree t)

-- ---- modes

-- whether both are ids, and the same
abbrev pub same_id : Option ℕ → Option ℕ → Bool
same_id (Some x) (Some y) = x == y
same_id (Some x) None = false
same_id None o = false

-- whether x may be given: in an isomorphism only where no vertex has it
abbrev pub is_free : Mode → List (Option ℕ) → ℕ → Bool
is_free Hom m x = true
is_free Iso m x = not (list_any (same_id (Some x)) m)

-- in an isomorphism no two vertices have the same id
abbrev pub keeps_mode_where_given : Mode → List (Option ℕ) → Bool
keeps_mode_where_given Hom m = true
keeps_mode_where_given Iso m = are_distinct_by same_id m

-- ---- edges that are sent to a triple

-- both ends of the edge have ids, which with its label are the triple
abbrev pub is_sent_where_given : Triple → List (Option ℕ) → PatternEdge → Bool
is_sent_where_given t m e = same_id (Some t.src) (id_of m e.tail) && same_id (Some t.dst) (id_of m e.head) && bytes_eq e.label t.label

-- w is an end of the edge, which with x for w is sent to the triple
abbrev pub edge_sends : List (Option ℕ) → ℕ → ℕ → Triple → PatternEdge → Bool
edge_sends m w x t e = has_end w e && is_sent_where_given t (with_id m w x) e

-- with x for w, some edge of a number below i that has w as an end is sent to the triple
abbrev pub earlier : PatternGraph → ℕ → List (Option ℕ) → ℕ → ℕ → Triple → Bool
earlier q i m w x t = list_any (λ k. edge_sends m w x t (edge_at q k)) (range_with_len 0 i)
