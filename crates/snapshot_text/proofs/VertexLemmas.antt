-- The vertices of a graph in the order of their ids.
use Rattle.std.proofs.Common.{◌≡◌, ℕ, zero, suc, ◌+◌, ◌<◌, ◌≤◌, Bool, true, false, ◌&&◌, ◌||◌, ◌==◌, List, [], ◌∷◌, ◌++◌, length, map, get_or, take, refl, sym, ap, subst, ◌∙◌, Some, IsTrue, arith}
use Rattle.std.specs.declared.cmp.Ordering.TheVariants.{Less}
use Rattle.std.specs.Ordering.{is_lt, nat_cmp}
use Rattle.std.specs.List.{AllByRecursion, list_any, find, slice_get}
use Rattle.std.specs.List.Sorted.{IsSorted, IsStrictlySortedBy, IsPermutation}
use Rattle.std.proofs.lemmas.Bool.{eq-eqb, ne_eqb}
use Rattle.std.proofs.lemmas.Cmp.{nat_cmp_total, ranked}
use Rattle.std.proofs.lemmas.List.{length-map, take_all, take_more}
use Rattle.std.proofs.lemmas.List.Sorted.{length_permutation}
use Rattle.std.proofs.lemmas.Option.{slice_get_within, get_or_from_slice_get, slice_get-get_or}
use Rattle.flux_model.specs.Ordered.{is_ascending}
use Rattle.flux_model.specs.Graph.{Graph, IsGraph, ids, has_vertex, vertex_cmp}
use Rattle.flux_model.specs.declared.graph.Vertex.{Vertex}
use Rattle.graph_traits.specs.Rows.{vertex_of_id}
use Rattle.snapshot_text.proofs.OrderLemmas.{same_number}
use Rattle.flux_model.proofs.SortedLemmas.{strict_from_ascending, sorted_from_strict, sorted_form_unique}

abbrev vertex_ids : List Vertex → List ℕ
vertex_ids vs = map (λ (v : Vertex). v.id) vs

first_too : (b c d : Bool) → b && c ≡ true → (c ≡ true → d ≡ true) → b && d ≡ true
first_too true c d h f = f h
first_too false c d h f = h

ids-ascending : (vs : List Vertex) → is_ascending vertex_cmp vs ≡ true → is_ascending nat_cmp (vertex_ids vs) ≡ true
ids-ascending [] a = refl
ids-ascending (v ∷ []) a = refl
ids-ascending (v ∷ w ∷ vs) a =
    first_too (is_lt (nat_cmp v.id w.id)) (is_ascending vertex_cmp (w ∷ vs)) (is_ascending nat_cmp (vertex_ids (w ∷ vs))) a (ids-ascending (w ∷ vs))

-- the ids of a graph are strictly ascending
pub ids-strict : (g : Graph) → IsGraph g → IsStrictlySortedBy nat_cmp (ids g)
ids-strict g is = strict_from_ascending nat_cmp nat_cmp_total (ids g) (ids-ascending g.vertices is.ascending_vertices)

-- what was listed, once it is sorted
pub sorted_ids : (g : Graph) (listed found sorted : List ℕ) (count : ℕ) → IsGraph g → IsPermutation listed (ids g) → length g.vertices ≤ count
    → found ≡ take count listed → IsPermutation found sorted → IsSorted nat_cmp sorted → sorted ≡ ids g
sorted_ids g listed found sorted count is p enough read q s =
    let whole : length listed ≤ count = omega (arith, length_permutation listed (ids g) p, length-map g.vertices (λ (v : Vertex). v.id)) in
    let all : found ≡ listed = read ∙ take_all count listed whole in
    let moved : IsPermutation listed sorted = subst (λ l. IsPermutation l sorted) all q in
    sorted_form_unique nat_cmp nat_cmp_total same_number listed sorted (ids g) moved p s
    (sorted_from_strict nat_cmp nat_cmp_total (ids g) (ids-strict g is))

-- one more was listed
pub listed_more : (xs found : List ℕ) (i x : ℕ) → slice_get xs i ≡ Some x → found ≡ take i xs → found ++ x ∷ [] ≡ take (i + 1) xs
listed_more xs found i x e before =
    ap (λ l. l ++ x ∷ []) before
    ∙ ap (λ y. take i xs ++ y ∷ []) (sym (get_or_from_slice_get xs i x x e)) ∙ sym (take_more xs i x (slice_get_within xs i x e))

-- ---- the vertex at a place

has_at : (vs : List Vertex) (i id : ℕ) → slice_get (vertex_ids vs) i ≡ Some id → list_any (λ (v : Vertex). v.id == id) vs ≡ true
has_at [] i id e = cc
has_at (v ∷ vs) zero id e = let here : v.id ≡ id = cc in rw (eq-eqb v.id id here) refl
has_at (v ∷ vs) (suc i) id e = later (v.id == id) (has_at vs i id e)
  where
    later : (b : Bool) → list_any (λ (w : Vertex). w.id == id) vs ≡ true → b || list_any (λ (w : Vertex). w.id == id) vs ≡ true
    later true h = refl
    later false h = h

-- the graph has each vertex that stands among its ids
pub has_vertex-at : (g : Graph) (i id : ℕ) → slice_get (ids g) i ≡ Some id → IsTrue (has_vertex g id)
has_vertex-at g i id e = has_at g.vertices i id e

is_above : (x : ℕ) (ys : List ℕ) (i y : ℕ) → AllByRecursion (λ z. nat_cmp x z ≡ Less) ys → slice_get ys i ≡ Some y → x < y
is_above x [] i y a e = cc
is_above x (z ∷ zs) zero y a e = let here : z ≡ y = cc in let l = ranked x z Less (sym a.0) in omega arith
is_above x (z ∷ zs) (suc i) y a e = is_above x zs i y a.1 e

find_at : (vs : List Vertex) (i id : ℕ) (w : Vertex) → IsStrictlySortedBy nat_cmp (vertex_ids vs) → slice_get (vertex_ids vs) i ≡ Some id → find (λ (v : Vertex). v.id == id) vs ≡ Some w → slice_get vs i ≡ Some w
unfolding IsStrictlySortedBy
find_at [] i id w s e f = cc
find_at (v ∷ vs) zero id w s e f = let here : v.id ≡ id = cc in rw (eq-eqb v.id id here) at f
find_at (v ∷ vs) (suc i) id w s e f =
    let above : v.id < id = is_above v.id (vertex_ids vs) i id s.0 e in
    let other : (v.id == id) ≡ false = ne_eqb v.id id (λ q. omega arith) in
    find_at vs i id w s.1 e (rw other at f)

-- what is found by the id at a place stands at this place
pub vertex-at : (g : Graph) (i id : ℕ) (w : Vertex) → IsGraph g → slice_get (ids g) i ≡ Some id → vertex_of_id g id ≡ Some w → slice_get g.vertices i ≡ Some w
vertex-at g i id w is e f = find_at g.vertices i id w (ids-strict g is) e f

-- the id at a place of what are the graph's ids
pub id_at : (g : Graph) (listed : List ℕ) (i : ℕ) → listed ≡ ids g → i < length listed → slice_get (ids g) i ≡ Some (get_or listed i 0)
id_at g listed i e l = ap (λ xs. slice_get xs i) (sym e) ∙ slice_get-get_or listed i 0 l
