-- The embeddings of a pattern in a graph stand in strictly ascending order.
use Rattle.std.proofs.Common.{◌≡◌, ℕ, zero, suc, Bool, true, List, [], ◌∷◌, ◌++◌, map, filter, refl, IsTrue}
use Rattle.std.specs.declared.cmp.Ordering.{Ordering}
use Rattle.std.specs.declared.cmp.Ordering.TheVariants.{Less}
use Rattle.std.specs.Ordering.{is_lt, nat_cmp}
use Rattle.std.specs.Cmp.Lexicographic.{slice_cmp, nat_list_cmp_total}
use Rattle.std.specs.List.{AllByRecursion, flat_map}
use Rattle.std.specs.List.Sorted.{IsSorted, IsStrictlySortedBy}
use Rattle.std.proofs.lemmas.Cmp.{nat_cmp_total, tied_itself}
use Rattle.std.proofs.lemmas.List.Kept.{IsStrictlySortedBy-filter}
use Rattle.flux_model.specs.Ordered.{is_ascending}
use Rattle.flux_model.specs.Graph.{Graph, ids, vertex_cmp}
use Rattle.flux_model.specs.Pattern.{PatternGraph, vertex_count}
use Rattle.flux_model.specs.Embedding.{id_lists, is_embedding, embeddings}
use Rattle.flux_model.specs.declared.graph.Vertex.{Vertex}
use Rattle.flux_model.proofs.SortedLemmas.{both, strict_from_ascending, ascending_from_strict, sorted_from_strict}

all_append : {X : Type 0} (P : X → Type 0) (xs ys : List X) → AllByRecursion P xs → AllByRecursion P ys → AllByRecursion P (xs ++ ys)
all_append P [] ys a b = b
all_append P (x ∷ xs) ys a b = (a.0, all_append P xs ys a.1 b)

strict_append : {K : Type 0} (R : K → K → Ordering) (xs ys : List K) → IsStrictlySortedBy R xs → IsStrictlySortedBy R ys → AllByRecursion (λ x. AllByRecursion (λ y. R x y ≡ Less) ys) xs → IsStrictlySortedBy R (xs ++ ys)
unfolding IsStrictlySortedBy
strict_append R [] ys s t a = t
strict_append R (x ∷ xs) ys s t a = (all_append (λ y. R x y ≡ Less) xs ys s.0 a.0, strict_append R xs ys s.1 t a.1)

-- ---- lists of ids

abbrev map_cmp : List ℕ → List ℕ → Ordering
map_cmp = slice_cmp nat_cmp

-- two lists with the same first id compare as the rests
after_same : (v : ℕ) (m l : List ℕ) → map_cmp m l ≡ Less → map_cmp (v ∷ m) (v ∷ l) ≡ Less
after_same v m l e = rw (tied_itself nat_cmp_total v) e

above_in_front : (v : ℕ) (m : List ℕ) (ms : List (List ℕ)) → AllByRecursion (λ l. map_cmp m l ≡ Less) ms → AllByRecursion (λ l. map_cmp (v ∷ m) l ≡ Less) (map (λ l. v ∷ l) ms)
above_in_front v m [] a = tt
above_in_front v m (l ∷ ls) a = (after_same v m l a.0, above_in_front v m ls a.1)

strict_in_front : (v : ℕ) (ms : List (List ℕ)) → IsStrictlySortedBy map_cmp ms → IsStrictlySortedBy map_cmp (map (λ m. v ∷ m) ms)
unfolding IsStrictlySortedBy
strict_in_front v [] s = tt
strict_in_front v (m ∷ ms) s = (above_in_front v m ms s.0, strict_in_front v ms s.1)

-- a list whose first id is lower comes first
above_one : (v w : ℕ) (m : List ℕ) (ms : List (List ℕ)) → nat_cmp v w ≡ Less → AllByRecursion (λ l. map_cmp (v ∷ m) l ≡ Less) (map (λ l. w ∷ l) ms)
above_one v w m [] e = tt
above_one v w m (l ∷ ls) e = (rw e refl, above_one v w m ls e)

above_each : (v : ℕ) (m : List ℕ) (ms : List (List ℕ)) (ws : List ℕ) → AllByRecursion (λ w. nat_cmp v w ≡ Less) ws → AllByRecursion (λ l. map_cmp (v ∷ m) l ≡ Less) (flat_map (λ w. map (λ l. w ∷ l) ms) ws)
above_each v m ms [] a = tt
above_each v m ms (w ∷ ws) a =
    all_append (λ l. map_cmp (v ∷ m) l ≡ Less) (map (λ l. w ∷ l) ms) (flat_map (λ w. map (λ l. w ∷ l) ms) ws) (above_one v w m ms a.0) (above_each v m ms ws a.1)

all_above_each : (v : ℕ) (front ms : List (List ℕ)) (ws : List ℕ) → AllByRecursion (λ w. nat_cmp v w ≡ Less) ws → AllByRecursion (λ m. AllByRecursion (λ l. map_cmp m l ≡ Less) (flat_map (λ w. map (λ l. w ∷ l) ms) ws)) (map (λ m. v ∷ m) front)
all_above_each v [] ms ws a = tt
all_above_each v (m ∷ front) ms ws a = (above_each v m ms ws a, all_above_each v front ms ws a)

strict_each : (ms : List (List ℕ)) (vs : List ℕ) → IsStrictlySortedBy map_cmp ms → IsStrictlySortedBy nat_cmp vs → IsStrictlySortedBy map_cmp (flat_map (λ v. map (λ m. v ∷ m) ms) vs)
unfolding IsStrictlySortedBy
strict_each ms [] s t = tt
strict_each ms (v ∷ vs) s t =
    strict_append map_cmp (map (λ m. v ∷ m) ms) (flat_map (λ v. map (λ m. v ∷ m) ms) vs) (strict_in_front v ms s) (strict_each ms vs s t.1) (all_above_each v ms ms vs t.0)

-- all lists of ascending ids are strictly ascending
pub id_lists-strict : (vs : List ℕ) (n : ℕ) → IsStrictlySortedBy nat_cmp vs → IsStrictlySortedBy map_cmp (id_lists vs n)
unfolding IsStrictlySortedBy
id_lists-strict vs zero s = (tt, tt)
id_lists-strict vs (suc n) s = strict_each (id_lists vs n) vs (id_lists-strict vs n s) s

-- ---- embeddings

ids-ascending : (vs : List Vertex) → is_ascending vertex_cmp vs ≡ true → is_ascending nat_cmp (map (λ (v : Vertex). v.id) vs) ≡ true
ids-ascending [] a = refl
ids-ascending (v ∷ []) a = refl
ids-ascending (v ∷ w ∷ vs) a =
    let parts = both nat_cmp nat_cmp_total (is_lt (nat_cmp v.id w.id)) (is_ascending vertex_cmp (w ∷ vs)) a in
    rw parts.0 (ids-ascending (w ∷ vs) parts.1)

-- and so are the embeddings among them
pub embeddings-strict : (q : PatternGraph) (g : Graph) → IsTrue (is_ascending vertex_cmp g.vertices) → IsStrictlySortedBy map_cmp (embeddings q g)
embeddings-strict q g a =
    IsStrictlySortedBy-filter map_cmp (is_embedding q g) (id_lists (ids g) (vertex_count q))
    (id_lists-strict (ids g) (vertex_count q) (strict_from_ascending nat_cmp nat_cmp_total (ids g) (ids-ascending g.vertices a)))

-- each embedding stands once, below the next
pub embeddings-ascending : (q : PatternGraph) (g : Graph) → IsTrue (is_ascending vertex_cmp g.vertices) → IsTrue (is_ascending (slice_cmp nat_cmp) (embeddings q g))
embeddings-ascending q g a = ascending_from_strict map_cmp nat_list_cmp_total (embeddings q g) (embeddings-strict q g a)

-- so the embeddings stand in the order that a report wants
pub embeddings-sorted : (q : PatternGraph) (g : Graph) → IsTrue (is_ascending vertex_cmp g.vertices) → IsSorted (slice_cmp nat_cmp) (embeddings q g)
embeddings-sorted q g a = sorted_from_strict map_cmp nat_list_cmp_total (embeddings q g) (embeddings-strict q g a)

-- what is left of them where some are left out is in order
pub kept-sorted : (p : List ℕ → Bool) (q : PatternGraph) (g : Graph) → IsTrue (is_ascending vertex_cmp g.vertices) → IsSorted map_cmp (filter p (embeddings q g))
kept-sorted p q g a =
    sorted_from_strict map_cmp nat_list_cmp_total (filter p (embeddings q g))
    (IsStrictlySortedBy-filter map_cmp p (embeddings q g) (embeddings-strict q g a))
