-- Cards, and the spanning tree of a pattern that is chosen by them.
use Rattle.std.specs.Prelude.{◌≡◌, ◌<◌, IsTrue, ℕ, zero, suc, ◌==◌, ◌&&◌, ◌||◌, not, nat_le, Bool, false, List, [], ◌∷◌, length, map, filter, count_by, Option, Some, None, is_some, replicate, slice_index, slice_index_or, slice_set, if◌then◌else◌}
use Rattle.std.specs.Option.{unwrap_or}
use Rattle.std.specs.List.{list_any, range_with_len}
use Rattle.flux_model.specs.Graph.{Graph, ids}
use Rattle.flux_model.specs.Pattern.{PatternGraph, vertex_count, fits_labels, fits_edge}
use Rattle.flux_model.specs.declared.pattern.PatternEdge.{PatternEdge}
use Rattle.flux_model.specs.declared.tree.TreeLink.{TreeLink}

-- ---- cards: how many triples fit each edge, and how many vertices fit each vertex

abbrev pub edge_cards : PatternGraph → Graph → List ℕ
edge_cards q g = map (λ e. count_by (fits_edge q e g) g.triples) q.edges

abbrev pub vertex_cards : PatternGraph → Graph → List ℕ
vertex_cards q g = map (λ labels. count_by (fits_labels g labels) (ids g)) q.labels

-- both: what `Cards` has
pub record CardLists : Type 0 where
  pub edges : List ℕ
  pub vertices : List ℕ

abbrev pub cards : PatternGraph → Graph → CardLists
cards q g = record { edges = edge_cards q g; vertices = vertex_cards q g }

-- the first of the numbers that has the least key
abbrev pub least : (ℕ → ℕ) → List ℕ → Option ℕ
least key [] = None
least key (i ∷ is) = Some (choose (least key is))
  where
    choose : Option ℕ → ℕ
    choose None = i
    choose (Some j) = if nat_le (key i) (key j) then i else j

-- ---- the tree

-- the root, for each vertex its link, and how many edges the pattern has; the root, and a vertex that is not placed, has no link
pub record QueryTree : Type 0 where
  pub root : ℕ
  pub links : List (Option TreeLink)
  pub edge_count : ℕ

-- an edge, by its number
abbrev pub edge_at : PatternGraph → ℕ → PatternEdge
edge_at q i = slice_index_or q.edges i (record { tail = 0; label = []; head = 0 })

abbrev pub link_at : QueryTree → ℕ → Option TreeLink
link_at t u = slice_index_or t.links u None

-- whether u hangs from p
abbrev pub is_child : QueryTree → ℕ → ℕ → Bool
is_child t p u = hangs (link_at t u)
  where
    hangs : Option TreeLink → Bool
    hangs None = false
    hangs (Some l) = l.parent == p

-- ascending
abbrev pub children : QueryTree → ℕ → List ℕ
children t u = filter (is_child t u) (range_with_len 0 (length t.links))

abbrev pub is_placed : QueryTree → ℕ → Bool
is_placed t u = u == t.root || is_some (link_at t u)

-- exactly one end of the edge is placed
abbrev pub crosses : QueryTree → PatternEdge → Bool
crosses t e = is_placed t e.tail && not (is_placed t e.head) || not (is_placed t e.tail) && is_placed t e.head

-- the numbers of the edges that cross, ascending
abbrev pub crossing : PatternGraph → QueryTree → List ℕ
crossing q t = filter (λ i. crosses t (edge_at q i)) (range_with_len 0 (length q.edges))

-- the end of edge i that is not placed hangs from the end that is
abbrev pub with_link : PatternGraph → QueryTree → ℕ → QueryTree
with_link q t i =
    let e = edge_at q i in
    if is_placed t e.tail then record t { links = slice_set t.links e.head (Some (record { parent = e.tail; edge = i })) }
    else record t { links = slice_set t.links e.tail (Some (record { parent = e.head; edge = i })) }

-- the tree with the crossing edge of least card, of equals the lowest; where none crosses, the tree
abbrev pub next_tree : PatternGraph → List ℕ → QueryTree → QueryTree
next_tree q cards t = with_some (least (slice_index cards) (crossing q t))
  where
    with_some : Option ℕ → QueryTree
    with_some None = t
    with_some (Some i) = with_link q t i

abbrev pub tree_after : ℕ → PatternGraph → List ℕ → QueryTree → QueryTree
tree_after zero q cards t = t
tree_after (suc k) q cards t = tree_after k q cards (next_tree q cards t)

-- of the edge of least card the end of lower vertex card, then the lower number; without edges vertex 0
abbrev pub root_of : PatternGraph → List ℕ → List ℕ → ℕ
root_of q edges vertices = root (least (slice_index edges) (range_with_len 0 (length q.edges)))
  where
    lower_end : PatternEdge → Option ℕ
    lower_end e = least (slice_index vertices) (filter (λ u. u == e.tail || u == e.head) (range_with_len 0 (vertex_count q)))

    root : Option ℕ → ℕ
    root None = 0
    root (Some i) = unwrap_or (lower_end (edge_at q i)) 0

-- the tree for these cards: every vertex is placed after as many steps as there are vertices
abbrev pub tree_for : PatternGraph → List ℕ → List ℕ → QueryTree
tree_for q edges vertices =
    let n = vertex_count q in
    tree_after n q edges (record { root = root_of q edges vertices; links = replicate n None; edge_count = length q.edges })

abbrev pub tree : PatternGraph → Graph → QueryTree
tree q g = tree_for q (edge_cards q g) (vertex_cards q g)

-- the numbers of the pattern edges that no link names, ascending
abbrev pub non_tree : QueryTree → List ℕ
non_tree t = filter (λ i. not (list_any (names i) t.links)) (range_with_len 0 t.edge_count)
  where
    names : ℕ → Option TreeLink → Bool
    names i None = false
    names i (Some l) = l.edge == i

-- ---- what a tree is, and when it is a pattern's

-- u is the root, or its parent hangs from the root, k links up at most
abbrev pub hangs_within : ℕ → QueryTree → ℕ → Bool
hangs_within zero t u = u == t.root
hangs_within (suc k) t u = u == t.root || above (link_at t u) (hangs_within k t)
  where
    above : Option TreeLink → (ℕ → Bool) → Bool
    above None hangs = false
    above (Some l) hangs = hangs l.parent

-- links lead from u to the root
abbrev pub hangs : QueryTree → ℕ → Bool
hangs t u = hangs_within (length t.links) t u

-- every vertex hangs from the root, which has no link itself
pub record IsTree (t : QueryTree) : Type 0 where
  pub root : t.root < length t.links
  pub top : link_at t t.root ≡ None
  pub hanging : (u : ℕ) → u < length t.links → IsTrue (hangs t u)

-- whether the edge leads from the one vertex to the other, in either direction
abbrev pub is_between : PatternEdge → ℕ → ℕ → Bool
is_between e u p = e.tail == u && e.head == p || e.tail == p && e.head == u

-- the link names an edge of the pattern between the vertex and its parent
pub record IsLinkOf (q : PatternGraph) (u : ℕ) (l : TreeLink) : Type 0 where
  pub edge : l.edge < length q.edges
  pub between : IsTrue (is_between (edge_at q l.edge) u l.parent)

-- a tree of the pattern's vertices, whose links are edges of the pattern
pub record BelongsTo (q : PatternGraph) (t : QueryTree) : Type 0 where
  pub tree : IsTree t
  pub vertices : length t.links ≡ vertex_count q
  pub edges : t.edge_count ≡ length q.edges
  pub links : (u : ℕ) (l : TreeLink) → link_at t u ≡ Some l → IsLinkOf q u l
