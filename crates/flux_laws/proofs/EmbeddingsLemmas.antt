-- The embeddings of a pattern in a graph: their order, and which lists of ids they are.
use Rattle.std.proofs.Common.{◌≡◌, ℕ, zero, suc, Bool, true, false, ◌||◌, ◌&&◌, ◌==◌, List, [], ◌∷◌, length, map, refl, ◌∙◌, ap}
use Rattle.std.specs.declared.cmp.Ordering.{Ordering}
use Rattle.std.specs.declared.cmp.Ordering.TheVariants.{Less, Equal, Greater}
use Rattle.std.specs.Ordering.{nat_cmp, is_lt, is_eq}
use Rattle.std.specs.Cmp.{nat_cmp_total, nat_eq_equiv}
use Rattle.std.specs.Cmp.Lexicographic.{slice_cmp, nat_list_cmp_total, pointwise}
use Rattle.std.specs.List.{flat_map, list_all, list_any, filter}
use Rattle.std.proofs.lemmas.Cmp.{tied_itself, nat_list_eq_equiv}
use Rattle.std.proofs.lemmas.List.Folds.{list_all-append, list_any-append}
use Rattle.std.proofs.lemmas.Map.Lookups.{exact_bytes}
use Rattle.std.proofs.lemmas.Map.Text.{is_eq-slice_cmp}
use Rattle.std.proofs.lemmas.Map.Views.{Contains-from_any, list_any-from_Contains}
use Rattle.flux_model.specs.Ordered.{is_ascending}
use Rattle.flux_model.specs.Labels.{is_within}
use Rattle.flux_model.specs.Graph.{Graph, ids, vertex_cmp}
use Rattle.flux_model.specs.Pattern.{PatternGraph, vertex_count, fits_labels}
use Rattle.flux_model.specs.Embedding.{is_embedding, fit_all, keeps_edges, keeps_mode, id_lists, embeddings}
use Rattle.flux_model.specs.Change.{same_map}
use Rattle.flux_model.specs.declared.graph.Vertex.{Vertex}
use Rattle.flux_laws.specs.EmbeddingsLaws.{EmbeddingsAscend, EmbeddingsAreAll}
use Rattle.flux_laws.proofs.AscendingLemmas.{below_all, below_rest, tail_ascending, less, append-ascending, filter-ascending}
use Rattle.flux_laws.proofs.TestLemmas.{both, or_right}

-- the order of maps, id by id
abbrev pub map_cmp : List ℕ → List ℕ → Ordering
map_cmp = slice_cmp nat_cmp

-- each of these lists, with an id in front
abbrev led_by : ℕ → List (List ℕ) → List (List ℕ)
led_by v ms = map (λ m. v ∷ m) ms

led_by-ascending : (v : ℕ) (ms : List (List ℕ)) → is_ascending map_cmp ms ≡ true → is_ascending map_cmp (led_by v ms) ≡ true
led_by-ascending v [] a = refl
led_by-ascending v (m ∷ []) a = refl
led_by-ascending v (m ∷ n ∷ ns) a =
    let two = both (is_lt (map_cmp m n)) (is_ascending map_cmp (n ∷ ns)) a in
    rw (tied_itself nat_cmp_total v, two.0) (led_by-ascending v (n ∷ ns) two.1)

-- what begins with a lower id is below
below-led_by : (v w : ℕ) (m : List ℕ) (ms : List (List ℕ)) → nat_cmp v w ≡ Less → below_all map_cmp nat_list_cmp_total (v ∷ m) (led_by w ms) ≡ true
below-led_by v w m [] e = refl
below-led_by v w m (n ∷ ns) e = rw e (below-led_by v w m ns e)

below-front : (v : ℕ) (m : List ℕ) (ms : List (List ℕ)) (ws : List ℕ) → below_all nat_cmp nat_cmp_total v ws ≡ true → below_all map_cmp nat_list_cmp_total (v ∷ m) (flat_map (λ w. led_by w ms) ws) ≡ true
below-front v m ms [] b = refl
below-front v m ms (w ∷ ws) b =
    let two = both (is_lt (nat_cmp v w)) (below_all nat_cmp nat_cmp_total v ws) b in
    list_all-append (λ x. is_lt (map_cmp (v ∷ m) x)) (led_by w ms) (flat_map (λ k. led_by k ms) ws)
    ∙ rw (below-led_by v w m ms (less nat_cmp nat_cmp_total (nat_cmp v w) two.0), below-front v m ms ws two.1) refl

all_below : (v : ℕ) (ms ks : List (List ℕ)) (ws : List ℕ) → below_all nat_cmp nat_cmp_total v ws ≡ true → list_all (λ x. below_all map_cmp nat_list_cmp_total x (flat_map (λ w. led_by w ms) ws)) (led_by v ks) ≡ true
all_below v ms [] ws b = refl
all_below v ms (k ∷ ks) ws b = rw (below-front v k ms ws b) (all_below v ms ks ws b)

front-ascending : (ms : List (List ℕ)) (vs : List ℕ) → is_ascending map_cmp ms ≡ true → is_ascending nat_cmp vs ≡ true → is_ascending map_cmp (flat_map (λ v. led_by v ms) vs) ≡ true
front-ascending ms [] a b = refl
front-ascending ms (v ∷ vs) a b =
    append-ascending map_cmp nat_list_cmp_total (led_by v ms) (flat_map (λ w. led_by w ms) vs) (led_by-ascending v ms a)
    (front-ascending ms vs a (tail_ascending nat_cmp nat_cmp_total v vs b))
    (all_below v ms ms vs (below_rest nat_cmp nat_cmp_total v vs b))

id_lists-ascending : (vs : List ℕ) (n : ℕ) → is_ascending nat_cmp vs ≡ true → is_ascending map_cmp (id_lists vs n) ≡ true
id_lists-ascending vs zero a = refl
id_lists-ascending vs (suc n) a = front-ascending (id_lists vs n) vs (id_lists-ascending vs n a) a

ids-ascending : (vs : List Vertex) → is_ascending vertex_cmp vs ≡ true → is_ascending nat_cmp (map (λ (v : Vertex). v.id) vs) ≡ true
ids-ascending [] a = refl
ids-ascending (v ∷ []) a = refl
ids-ascending (v ∷ w ∷ ws) a =
    let two = both (is_lt (nat_cmp v.id w.id)) (is_ascending vertex_cmp (w ∷ ws)) a in
    rw two.0 (ids-ascending (w ∷ ws) two.1)

-- embeddings ascend where the vertices do
pub embeddings-ascending : (q : PatternGraph) (g : Graph) → is_ascending vertex_cmp g.vertices ≡ true → is_ascending (slice_cmp nat_cmp) (embeddings q g) ≡ true
embeddings-ascending q g a =
    filter-ascending map_cmp nat_list_cmp_total (is_embedding q g) (id_lists (ids g) (vertex_count q)) (id_lists-ascending (ids g) (vertex_count q) (ids-ascending g.vertices a))

-- embeddings ascend
pub ascend : EmbeddingsAscend
ascend = embeddings-ascending

-- ---- which lists they are

-- maps with the same ids are the same
pub same_exact : (m n : List ℕ) → same_map m n ≡ true → m ≡ n
same_exact m n e = exact_bytes m n (equal (slice_cmp nat_cmp m n) (is_eq-slice_cmp m n ∙ e))
  where
    equal : (r : Ordering) → is_eq r ≡ true → r ≡ Equal
    equal Less h = cc
    equal Equal h = refl
    equal Greater h = cc

-- what a filter keeps passes its test, and what passes is kept
pub passes : (p : List ℕ → Bool) (m : List ℕ) (xs : List (List ℕ)) → list_any (same_map m) (filter p xs) ≡ true → p m ≡ true
passes p m [] h = cc
passes p m (x ∷ xs) h = by (p x) refl (same_map m x) refl (passes p m xs)
  where
    by : (b : Bool) → p x ≡ b → (c : Bool) → same_map m x ≡ c → (list_any (same_map m) (filter p xs) ≡ true → p m ≡ true) → p m ≡ true
    by true e true f rest = ap p (same_exact m x f) ∙ e
    by true e false f rest = rest (rw (e, f) at h)
    by false e c f rest = rest (rw e at h)

-- a map of the list that passes is kept
pub kept : (p : List ℕ → Bool) (m : List ℕ) (xs : List (List ℕ)) → p m ≡ true → list_any (same_map m) xs ≡ true → list_any (same_map m) (filter p xs) ≡ true
kept p m [] t h = cc
kept p m (x ∷ xs) t h = by (p x) refl (same_map m x) refl (kept p m xs t)
  where
    by : (b : Bool) → p x ≡ b → (c : Bool) → same_map m x ≡ c → (list_any (same_map m) xs ≡ true → list_any (same_map m) (filter p xs) ≡ true) → list_any (same_map m) (filter p (x ∷ xs)) ≡ true
    by true e true f rest = rw (e, f) refl
    by true e false f rest = rw (e, f) (rest (rw f at h))
    by false e true f rest = let g : p m ≡ p x = ap p (same_exact m x f) in cc
    by false e false f rest = rw e (rest (rw f at h))

-- an id that fits is an id of the graph
id_there : (labels : List (List ℕ)) (i : ℕ) (vs : List Vertex) → list_any (λ (v : Vertex). v.id == i && is_within labels v.labels) vs ≡ true → list_any (λ w. i == w) (map (λ (v : Vertex). v.id) vs) ≡ true
id_there labels i [] h = cc
id_there labels i (v ∷ vs) h = by (v.id == i) refl (id_there labels i vs)
  where
    by : (b : Bool) → (v.id == i) ≡ b → (list_any (λ (w : Vertex). w.id == i && is_within labels w.labels) vs ≡ true → list_any (λ w. i == w) (map (λ (w : Vertex). w.id) vs) ≡ true) → list_any (λ w. i == w) (map (λ (w : Vertex). w.id) (v ∷ vs)) ≡ true
    by true e rest = rw (nat_eq_equiv.symm i v.id ∙ e) refl
    by false e rest = or_right (i == v.id) (list_any (λ w. i == w) (map (λ (w : Vertex). w.id) vs)) (rest (rw e at h))

led : (i : ℕ) (m : List ℕ) (w : ℕ) (ms : List (List ℕ)) → (i == w) ≡ true → list_any (same_map m) ms ≡ true → list_any (same_map (i ∷ m)) (led_by w ms) ≡ true
led i m w [] e h = cc
led i m w (n ∷ ns) e h = by (same_map m n) refl (led i m w ns e)
  where
    by : (b : Bool) → same_map m n ≡ b → (list_any (same_map m) ns ≡ true → list_any (same_map (i ∷ m)) (led_by w ns) ≡ true) → list_any (same_map (i ∷ m)) (led_by w (n ∷ ns)) ≡ true
    by true f rest = rw (e, f) refl
    by false f rest = rw (e, f) (rest (rw f at h))

in_front : (i : ℕ) (m : List ℕ) (ms : List (List ℕ)) (ws : List ℕ) → list_any (λ w. i == w) ws ≡ true → list_any (same_map m) ms ≡ true → list_any (same_map (i ∷ m)) (flat_map (λ w. led_by w ms) ws) ≡ true
in_front i m ms [] e h = cc
in_front i m ms (w ∷ ws) e h = list_any-append (same_map (i ∷ m)) (led_by w ms) (flat_map (λ k. led_by k ms) ws) ∙ by (i == w) refl (in_front i m ms ws)
  where
    first : Bool
    first = list_any (same_map (i ∷ m)) (led_by w ms)

    by : (b : Bool) → (i == w) ≡ b → (list_any (λ k. i == k) ws ≡ true → list_any (same_map m) ms ≡ true → list_any (same_map (i ∷ m)) (flat_map (λ k. led_by k ms) ws) ≡ true) → first || list_any (same_map (i ∷ m)) (flat_map (λ k. led_by k ms) ws) ≡ true
    by true f rest = rw (led i m w ms f h) refl
    by false f rest = or_right first (list_any (same_map (i ∷ m)) (flat_map (λ k. led_by k ms) ws)) (rest (rw f at e) h)

in_lists : (g : Graph) (ls : List (List (List ℕ))) (m : List ℕ) → pointwise (fits_labels g) ls m ≡ true → list_any (same_map m) (id_lists (ids g) (length ls)) ≡ true
in_lists g [] [] h = refl
in_lists g [] (i ∷ m) h = cc
in_lists g (l ∷ ls) [] h = cc
in_lists g (l ∷ ls) (i ∷ m) h =
    let two = both (fits_labels g l i) (pointwise (fits_labels g) ls m) h in
    in_front i m (id_lists (ids g) (length ls)) (ids g) (id_there l i g.vertices two.0) (in_lists g ls m two.1)

-- an embedding stands in the list
pub embedding_listed : (q : PatternGraph) (g : Graph) (m : List ℕ) → is_embedding q g m ≡ true → list_any (same_map m) (embeddings q g) ≡ true
embedding_listed q g m e =
    let two = both (fit_all q g m && keeps_edges q g m) (keeps_mode q.mode m) e in
    kept (is_embedding q g) m (id_lists (ids g) (vertex_count q)) e (in_lists g q.labels m (both (fit_all q g m) (keeps_edges q g m) two.0).0)

-- what stands in the list is an embedding
pub embeds : (q : PatternGraph) (g : Graph) (m : List ℕ) → list_any (same_map m) (embeddings q g) ≡ true → is_embedding q g m ≡ true
embeds q g m h = passes (is_embedding q g) m (id_lists (ids g) (vertex_count q)) h

-- the list has all embeddings, and nothing else
pub are_all : EmbeddingsAreAll
are_all q g m = (λ c. embeds q g m (list_any-from_Contains nat_list_eq_equiv m (embeddings q g) c), λ e. Contains-from_any same_exact m (embeddings q g) (embedding_listed q g m e))
