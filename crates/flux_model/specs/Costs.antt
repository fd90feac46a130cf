-- What work may cost in steps: a search without dead ends, a move of the states, a search from a triple, a line, a start.
use Rattle.std.specs.Prelude.{ℕ, ◌+◌, ◌*◌, ◌==◌, ◌&&◌, ◌||◌, not, Bool, false, List, [], ◌∷◌, length, map, filter, flat_map, count_by, sum_by, slice_index, slice_set, replicate, Option, Some, None, Result, Ok, Err, if◌then◌else◌}
use Rattle.std.specs.Str.{bytes_eq}
use Rattle.std.specs.List.{list_any, range_with_len}
use Rattle.flux_model.specs.Graph.{Graph, ids, has_triple, apply}
use Rattle.flux_model.specs.Pattern.{PatternGraph, vertex_count, fits, fits_edge}
use Rattle.flux_model.specs.Embedding.{embeddings}
use Rattle.flux_model.specs.Tree.{QueryTree, link_at, edge_at, is_child}
use Rattle.flux_model.specs.States.{Joined, joined, reaches, is_explicit}
use Rattle.flux_model.specs.Exact.{live_counts}
use Rattle.flux_model.specs.Order.{Place, SearchOrder, search_order}
use Rattle.flux_model.specs.declared.tree.TreeLink.{TreeLink}
use Rattle.flux_model.specs.declared.graph.Triple.{Triple}
use Rattle.flux_model.specs.declared.graph.Update.{Update}
use Rattle.flux_model.specs.declared.graph.Update.TheVariants.{AddVertex, DropVertex, AddEdge, DropEdge}
use Rattle.flux_model.specs.declared.code.Code.{Code}
use Rattle.flux_model.specs.declared.said.Said.{Said}
use Rattle.flux_model.specs.declared.said.Said.TheVariants.{Nothing, Says, Refused}
use Rattle.flux_model.specs.declared.limits.Limits.{Limits}
use Rattle.flux_model.specs.declared.pattern.PatternEdge.{PatternEdge}

-- how many triples have v as their source, and how many as their target; a triple from v to itself counts twice
abbrev pub degree : Graph → ℕ → ℕ
degree g v = count_by (λ (t : Triple). t.src == v) g.triples + count_by (λ (t : Triple). t.dst == v) g.triples

-- ---- all embeddings, by a search that meets no dead end

-- one, and the degree of the id that m gives to the parent of u; nothing for the root
abbrev pub row_cost : QueryTree → Graph → List ℕ → ℕ → ℕ
row_cost t g m u = by_link (link_at t u)
  where
    by_link : Option TreeLink → ℕ
    by_link None = 0
    by_link (Some l) = 1 + degree g (slice_index m l.parent)

-- the rows that lead to an embedding, each turn of them tested against every pattern edge
abbrev pub embedding_cost : PatternGraph → QueryTree → Graph → List ℕ → ℕ
embedding_cost q t g m = (length q.edges + 4) * (1 + sum_by (row_cost t g m) (range_with_len 0 (vertex_count q)))

-- every vertex looked at for the root, and the cost of each embedding
abbrev pub no_dead_end_cost : PatternGraph → QueryTree → Graph → ℕ
no_dead_end_cost q t g = 2 * (length g.vertices + 1) + sum_by (embedding_cost q t g) (embeddings q g)

-- ---- a move of the states, from those over a graph to those over the same with a triple more, or back

abbrev pub same_bool : Bool → Bool → Bool
same_bool a b = a && b || not a && not b

-- the pair of u and v has another state: reached in one of the two alone, or explicit in one of the two alone
abbrev pub has_moved : Joined → Joined → ℕ → ℕ → Bool
has_moved small large u v = not (same_bool (reaches small u v) (reaches large u v) && same_bool (is_explicit small u v) (is_explicit large u v))

-- some pattern edge with the end u fits the triple with v there
abbrev pub is_end : PatternGraph → Graph → Triple → ℕ → ℕ → Bool
is_end q g triple u v =
    list_any (λ (e : PatternEdge). fits_edge q e g triple && (e.tail == u && triple.src == v || e.head == u && triple.dst == v)) q.edges

-- the pairs that the triple touches: those whose state moves, and its ends where a pattern edge fits it
abbrev pub touched : PatternGraph → QueryTree → Graph → Graph → Triple → List (ℕ × ℕ)
touched q t small large triple =
    filter (λ (p : ℕ × ℕ). has_moved (joined q t small) (joined q t large) p.0 p.1 || is_end q large triple p.0 p.1)
    (flat_map (λ u. map (λ v. (u, v)) (ids large)) (range_with_len 0 (vertex_count q)))

-- sixteen steps for each pattern vertex, each touched pair and each turn of its two rows
abbrev pub move_cost : PatternGraph → QueryTree → Graph → Graph → Triple → ℕ
move_cost q t small large triple =
    16 * vertex_count q * sum_by (λ (p : ℕ × ℕ). 1 + degree large p.1) (touched q t small large triple)

-- ---- a search from a triple, which a pattern edge is sent to

-- the triple of the tree edge between a vertex and its anchor stands, with z for the vertex and x for the anchor
abbrev pub is_joined : PatternGraph → QueryTree → Graph → Place → ℕ → ℕ → Bool
is_joined q t g p x z = by_link (if is_child t p.anchor p.vertex then link_at t p.vertex else link_at t p.anchor)
  where
    by_edge : PatternEdge → Bool
    by_edge e =
        if e.head == p.vertex then has_triple g (record { src = x; label = e.label; dst = z })
        else has_triple g (record { src = z; label = e.label; dst = x })

    by_link : Option TreeLink → Bool
    by_link None = false
    by_link (Some l) = by_edge (edge_at q l.edge)

-- an id that goes on with the ids m at a place: it fits and is joined to the anchor's, and for the head it is y
abbrev pub is_next : PatternGraph → QueryTree → Graph → ℕ → ℕ → List ℕ → Place → ℕ → Bool
is_next q t g head y m p z = fits q p.vertex g z && is_joined q t g p (slice_index m p.anchor) z && (not (p.vertex == head) || z == y)

abbrev pub next_ids : PatternGraph → QueryTree → Graph → ℕ → ℕ → List ℕ → Place → List ℕ
next_ids q t g head y m p = filter (is_next q t g head y m p) (ids g)

-- one and the degree of the anchor's id, over all ids that go on from m place by place and are not whole
abbrev pub rows_read : PatternGraph → QueryTree → Graph → ℕ → ℕ → List Place → List ℕ → ℕ
rows_read q t g head y [] m = 0
rows_read q t g head y (p ∷ ps) m =
    1 + degree g (slice_index m p.anchor) + sum_by (λ z. rows_read q t g head y ps (slice_set m p.vertex z)) (next_ids q t g head y m p)

-- the edge has the triple's label, and is no loop or the triple is one
abbrev pub may_be_sent : PatternEdge → Triple → Bool
may_be_sent e triple = bytes_eq e.label triple.label && (not (e.tail == e.head) || triple.src == triple.dst)

-- the pairs of both ends are explicit
abbrev pub are_explicit : Joined → PatternEdge → Triple → Bool
are_explicit j e triple = is_explicit j e.tail triple.src && is_explicit j e.head triple.dst

-- the search goes on from the triple
abbrev pub is_entered : Joined → PatternEdge → Triple → Bool
is_entered j e triple = are_explicit j e triple && (not (e.tail == e.head) || triple.src == triple.dst)

-- of one pattern edge: two steps where the search is not entered, else each turn that it reads tested against every pattern edge
abbrev pub look_cost : PatternGraph → QueryTree → Graph → PatternEdge → Triple → ℕ
look_cost q t g e triple = over (joined q t g)
  where
    rows : SearchOrder → ℕ
    rows o = rows_read q t g e.head triple.dst o.places (slice_set (replicate (vertex_count q) 0) e.tail triple.src)

    over : Joined → ℕ
    over j = if is_entered j e triple then (length q.edges + 4) * (2 + rows (search_order t e.tail (live_counts g j))) else 2

-- nothing where the edge has another label
abbrev pub edge_cost : PatternGraph → QueryTree → Graph → PatternEdge → Triple → ℕ
edge_cost q t g e triple = if bytes_eq e.label triple.label then look_cost q t g e triple else 0

-- ---- starts and lines

-- the cards, the tree and the rows of one pattern over a graph
abbrev pub start_cost : PatternGraph → Graph → ℕ
start_cost q g = 32 * (vertex_count q + length q.edges) * (length g.vertices + 2 * length g.triples + 1)

-- a triple that comes or goes, for one pattern with its tree
abbrev pub triple_cost : Graph → Graph → Triple → PatternGraph × QueryTree → ℕ
triple_cost small large triple p =
    let alike = filter (λ (e : PatternEdge). bytes_eq e.label triple.label) p.0.edges in
    4 * length alike + move_cost p.0 p.1 small large triple + sum_by (λ e. look_cost p.0 p.1 large e triple) alike

-- and for all patterns, each with its tree
abbrev pub triple_line_cost : Graph → Graph → Triple → List (PatternGraph × QueryTree) → ℕ
triple_line_cost small large triple patterns = 2 + sum_by (triple_cost small large triple) patterns

-- an update, by what it makes of the graph
abbrev pub update_cost : List (PatternGraph × QueryTree) → Graph → Update → Result Graph Code → ℕ
update_cost patterns g (AddEdge triple) (Ok h) = triple_line_cost g h triple patterns
update_cost patterns g (DropEdge triple) (Ok h) = triple_line_cost h g triple patterns
update_cost patterns g (AddVertex _ _) (Ok h) = 2 + 4 * length patterns
update_cost patterns g (DropVertex _) (Ok h) = 2 + 4 * length patterns
update_cost patterns g update (Err _) = 2

-- a line of the updates
abbrev pub line_cost : Limits → List (PatternGraph × QueryTree) → Graph → Said Update → ℕ
line_cost limits patterns g Nothing = 2
line_cost limits patterns g (Refused _) = 2
line_cost limits patterns g (Says update) = update_cost patterns g update (apply limits g update)
