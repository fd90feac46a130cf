-- A vertex without an edge is in no embedding of a pattern whose vertices all have one.
use Rattle.std.proofs.Common.{◌≡◌, ◌⊎◌, inl, inr, ℕ, suc, ◌<◌, Bool, true, false, not, ◌&&◌, ◌||◌, ◌==◌, nat_le, nat_lt, List, [], ◌∷◌, length, get_or, Ok, refl, sym, ap, ◌∙◌, arith}
use Rattle.std.specs.declared.cmp.Ordering.{Ordering}
use Rattle.std.specs.declared.cmp.Ordering.TheVariants.{Less, Equal, Greater}
use Rattle.std.specs.Ordering.{is_eq}
use Rattle.std.specs.Cmp.Lexicographic.{pointwise}
use Rattle.std.specs.List.{list_any, list_all, filter}
use Rattle.std.proofs.lemmas.Bool.{eqb-true}
use Rattle.std.proofs.lemmas.Map.Views.{any-filter_same}
use Rattle.flux_model.specs.Ordered.{is_in, put}
use Rattle.flux_model.specs.Labels.{is_within}
use Rattle.flux_model.specs.Graph.{Graph, IsGraph, ids, vertex_cmp, triple_cmp, has_vertex, has_both_ends, has_incident_triple, with_vertex, without_vertex, name_count, add_vertex, drop_vertex}
use Rattle.flux_model.specs.Pattern.{PatternGraph, vertex_count, fits_labels}
use Rattle.flux_model.specs.Embedding.{image, fit_all, keeps_edges, keeps_mode, is_embedding, id_lists, embeddings}
use Rattle.flux_model.specs.Change.{same_map, without}
use Rattle.flux_model.specs.declared.graph.Triple.{Triple}
use Rattle.flux_model.specs.declared.graph.Vertex.{Vertex}
use Rattle.flux_model.specs.declared.pattern.PatternEdge.{PatternEdge}
use Rattle.flux_laws.specs.VerticesLaws.{AddedVertexChangesNoEmbedding, DroppedVertexChangesNoEmbedding}
use Rattle.flux_laws.proofs.SetsLemmas.{same_triple}
use Rattle.flux_laws.proofs.TouchedLemmas.{touches, all_touched}
use Rattle.flux_laws.proofs.TestLemmas.{both, either, or_right, eqb-refl}
use Rattle.flux_laws.proofs.EmbeddingsLemmas.{embedding_listed}

-- ---- each id of an embedding is the end of a triple

abbrev is_end : List Triple → ℕ → Bool
is_end ts i = list_any (λ (t : Triple). t.src == i || t.dst == i) ts

in_ends : (t : Triple) (ts : List Triple) → is_in triple_cmp t ts ≡ true → (is_end ts t.src ≡ true) × (is_end ts t.dst ≡ true)
in_ends t [] h = cc
in_ends t (s ∷ ts) h = by (triple_cmp t s) refl h (in_ends t ts)
  where
    later : (is_end ts t.src ≡ true) × (is_end ts t.dst ≡ true) → (is_end (s ∷ ts) t.src ≡ true) × (is_end (s ∷ ts) t.dst ≡ true)
    later ends = (or_right (s.src == t.src || s.dst == t.src) (is_end ts t.src) ends.0, or_right (s.src == t.dst || s.dst == t.dst) (is_end ts t.dst) ends.1)

    by : (r : Ordering) → triple_cmp t s ≡ r → is_eq r || is_in triple_cmp t ts ≡ true → (is_in triple_cmp t ts ≡ true → (is_end ts t.src ≡ true) × (is_end ts t.dst ≡ true))
        → (is_end (s ∷ ts) t.src ≡ true) × (is_end (s ∷ ts) t.dst ≡ true)
    by Less q k rest = later (rest k)
    by Greater q k rest = later (rest k)
    by Equal q k rest =
        let same : s ≡ t = sym (same_triple t s q) in
        let src : (s.src == t.src) ≡ true = ap (λ (u : Triple). u.src == t.src) same ∙ eqb-refl t.src in
        let dst : (s.dst == t.dst) ≡ true = ap (λ (u : Triple). u.dst == t.dst) same ∙ eqb-refl t.dst in
        (rw src refl, rw (or_right (s.src == t.dst) (s.dst == t.dst) dst) refl)

end_of_edge : (u : ℕ) (m : List ℕ) (ts : List Triple) (edges : List PatternEdge) → list_any (touches u) edges ≡ true
    → list_all (λ e. is_in triple_cmp (image m e) ts) edges ≡ true → is_end ts (get_or m u 0) ≡ true
end_of_edge u m ts [] h k = cc
end_of_edge u m ts (e ∷ es) h k =
    let kept = both (is_in triple_cmp (image m e) ts) (list_all (λ e. is_in triple_cmp (image m e) ts) es) k in
    by (either (touches u e) (list_any (touches u) es) h) (in_ends (image m e) ts kept.0) (λ l. end_of_edge u m ts es l kept.1)
  where
    by : (touches u e ≡ true) ⊎ (list_any (touches u) es ≡ true) → (is_end ts (get_or m e.tail 0) ≡ true) × (is_end ts (get_or m e.head 0) ≡ true)
        → (list_any (touches u) es ≡ true → is_end ts (get_or m u 0) ≡ true) → is_end ts (get_or m u 0) ≡ true
    by (inr later) ends rest = rest later
    by (inl here) ends rest =
        elim (either (e.tail == u) (e.head == u) here) [
          | inl tail ↦ ap (λ w. is_end ts (get_or m w 0)) (sym (eqb-true e.tail u tail)) ∙ ends.0
          | inr head ↦ ap (λ w. is_end ts (get_or m w 0)) (sym (eqb-true e.head u head)) ∙ ends.1
        ]

at_each_place : (p : ℕ → Bool) (m : List ℕ) → ((k : ℕ) → k < length m → p (get_or m k 0) ≡ true) → list_all p m ≡ true
at_each_place p [] h = refl
at_each_place p (v ∷ m) h =
    let first : p v ≡ true = h 0 (omega arith) in
    rw first (at_each_place p m (λ k l. h (suc k) (omega arith)))

-- ---- an embedding stays one where the ends of triples stay

abbrev graph_of : List Vertex → List Triple → Graph
graph_of vs ts = record { vertices = vs; triples = ts }

-- what fits in the one graph and is the end of a triple fits in the other
abbrev KeepsEnds : List Triple → List Vertex → List Vertex → Type 0
KeepsEnds ts vs ws =
    (labels : List (List ℕ)) (id : ℕ) → is_end ts id ≡ true
    → list_any (λ (v : Vertex). v.id == id && is_within labels v.labels) vs ≡ true → list_any (λ (v : Vertex). v.id == id && is_within labels v.labels) ws ≡ true

fit-kept : (ts : List Triple) (vs ws : List Vertex) → KeepsEnds ts vs ws → (ls : List (List (List ℕ))) (m : List ℕ) → list_all (is_end ts) m ≡ true
    → pointwise (fits_labels (graph_of vs ts)) ls m ≡ true → pointwise (fits_labels (graph_of ws ts)) ls m ≡ true
fit-kept ts vs ws keeps [] [] ends h = refl
fit-kept ts vs ws keeps [] (v ∷ m) ends h = cc
fit-kept ts vs ws keeps (l ∷ ls) [] ends h = cc
fit-kept ts vs ws keeps (l ∷ ls) (v ∷ m) ends h =
    let parts = both (fits_labels (graph_of vs ts) l v) (pointwise (fits_labels (graph_of vs ts)) ls m) h in
    let end = both (is_end ts v) (list_all (is_end ts) m) ends in
    let here : fits_labels (graph_of ws ts) l v ≡ true = keeps l v end.0 parts.0 in
    rw here (fit-kept ts vs ws keeps ls m end.1 parts.1)

-- what fits has an id for each vertex
fit-length : (g : Graph) (ls : List (List (List ℕ))) (m : List ℕ) → pointwise (fits_labels g) ls m ≡ true → length m ≡ length ls
fit-length g [] [] h = refl
fit-length g [] (v ∷ m) h = cc
fit-length g (l ∷ ls) [] h = cc
fit-length g (l ∷ ls) (v ∷ m) h = ap suc (fit-length g ls m (both (fits_labels g l v) (pointwise (fits_labels g) ls m) h).1)

embedding-kept : (q : PatternGraph) (ts : List Triple) (vs ws : List Vertex) → ((u : ℕ) → u < vertex_count q → list_any (touches u) q.edges ≡ true)
    → KeepsEnds ts vs ws → (m : List ℕ) → is_embedding q (graph_of vs ts) m ≡ true → is_embedding q (graph_of ws ts) m ≡ true
embedding-kept q ts vs ws touched keeps m h =
    let all = both (fit_all q (graph_of vs ts) m && keeps_edges q (graph_of vs ts) m) (keeps_mode q.mode m) h in
    let kept = both (fit_all q (graph_of vs ts) m) (keeps_edges q (graph_of vs ts) m) all.0 in
    let len = fit-length (graph_of vs ts) q.labels m kept.0 in
    let ends : list_all (is_end ts) m ≡ true =
    at_each_place (is_end ts) m (λ k l. end_of_edge k m ts q.edges (touched k (omega arith)) kept.1) in
    let fit : fit_all q (graph_of ws ts) m ≡ true = fit-kept ts vs ws keeps q.labels m ends kept.0 in
    rw (fit, kept.1) all.1

filter_none : {X : Type 0} (p r : X → Bool) → ((x : X) → r x ≡ true → p x ≡ false) → (xs : List X) → filter p (filter r xs) ≡ []
filter_none p r none [] = refl
filter_none p r none (x ∷ xs) = by (r x) refl (filter_none p r none xs)
  where
    by : (b : Bool) → r x ≡ b → filter p (filter r xs) ≡ [] → filter p (filter r (x ∷ xs)) ≡ []
    by true e rest = rw (e, none x e) rest
    by false e rest = rw e rest

none_more : (q : PatternGraph) (ts : List Triple) (vs ws : List Vertex) → ((u : ℕ) → u < vertex_count q → list_any (touches u) q.edges ≡ true)
    → KeepsEnds ts vs ws → without (embeddings q (graph_of vs ts)) (embeddings q (graph_of ws ts)) ≡ []
none_more q ts vs ws touched keeps =
    filter_none (λ m. not (list_any (same_map m) (embeddings q (graph_of ws ts)))) (is_embedding q (graph_of vs ts))
    (λ m h. ap not (embedding_listed q (graph_of ws ts) m (embedding-kept q ts vs ws touched keeps m h)))
    (id_lists (ids (graph_of vs ts)) (vertex_count q))

-- ---- one vertex more

put-any : (p : Vertex → Bool) (v : Vertex) (vs : List Vertex) → list_any p vs ≡ true → list_any p (put vertex_cmp v vs) ≡ true
put-any p v [] h = cc
put-any p v (w ∷ ws) h = by (vertex_cmp v w) refl h (put-any p v ws)
  where
    by : (r : Ordering) → vertex_cmp v w ≡ r → p w || list_any p ws ≡ true → (list_any p ws ≡ true → list_any p (put vertex_cmp v ws) ≡ true)
        → list_any p (put vertex_cmp v (w ∷ ws)) ≡ true
    by Less e k rest = rw e (or_right (p v) (list_any p (w ∷ ws)) k)
    by Equal e k rest = rw e k
    by Greater e k rest = rw e (cases (either (p w) (list_any p ws) k))
      where
        cases : (p w ≡ true) ⊎ (list_any p ws ≡ true) → p w || list_any p (put vertex_cmp v ws) ≡ true
        cases (inl first) = rw first refl
        cases (inr later) = or_right (p w) (list_any p (put vertex_cmp v ws)) (rest later)

any-put : (p : Vertex → Bool) (v : Vertex) (vs : List Vertex) → p v ≡ false → list_any p (put vertex_cmp v vs) ≡ true → list_any p vs ≡ true
any-put p v [] f h = let g : p v || false ≡ true = h in let k : false || false ≡ true = rw f at g in cc
any-put p v (w ∷ ws) f h = by (vertex_cmp v w) refl h (any-put p v ws f)
  where
    by : (r : Ordering) → vertex_cmp v w ≡ r → list_any p (put vertex_cmp v (w ∷ ws)) ≡ true → (list_any p (put vertex_cmp v ws) ≡ true → list_any p ws ≡ true)
        → list_any p (w ∷ ws) ≡ true
    by Less e k rest = rw (e, f) at k
    by Equal e k rest = rw e at k
    by Greater e k rest = cases (either (p w) (list_any p (put vertex_cmp v ws)) (rw e at k))
      where
        cases : (p w ≡ true) ⊎ (list_any p (put vertex_cmp v ws) ≡ true) → list_any p (w ∷ ws) ≡ true
        cases (inl first) = rw first refl
        cases (inr later) = or_right (p w) (list_any p ws) (rest later)

-- an end of a triple is a vertex
end_is_vertex : (g : Graph) (ts : List Triple) (id : ℕ) → list_all (has_both_ends g) ts ≡ true → is_end ts id ≡ true → has_vertex g id ≡ true
end_is_vertex g [] id a h = cc
end_is_vertex g (t ∷ ts) id a h =
    let parts = both (has_both_ends g t) (list_all (has_both_ends g) ts) a in
    by (both (has_vertex g t.src) (has_vertex g t.dst) parts.0) (either (t.src == id || t.dst == id) (is_end ts id) h) (end_is_vertex g ts id parts.1)
  where
    by : (has_vertex g t.src ≡ true) × (has_vertex g t.dst ≡ true) → (t.src == id || t.dst == id ≡ true) ⊎ (is_end ts id ≡ true)
        → (is_end ts id ≡ true → has_vertex g id ≡ true) → has_vertex g id ≡ true
    by ends (inr later) rest = rest later
    by ends (inl here) rest =
        elim (either (t.src == id) (t.dst == id) here) [
          | inl src ↦ ap (has_vertex g) (sym (eqb-true t.src id src)) ∙ ends.0
          | inr dst ↦ ap (has_vertex g) (sym (eqb-true t.dst id dst)) ∙ ends.1
        ]

-- ids of which the test tells the one from the other are not the same
other_id : (p : ℕ → Bool) (v w : ℕ) → p v ≡ false → p w ≡ true → (v == w) ≡ false
other_id p v w fails passes = by (v == w) refl
  where
    by : (b : Bool) → (v == w) ≡ b → (v == w) ≡ false
    by false e = e
    by true e = let same : p v ≡ p w = ap p (eqb-true v w e) in cc

added : (q : PatternGraph) (g : Graph) (v : Vertex) → ((u : ℕ) → u < vertex_count q → list_any (touches u) q.edges ≡ true) → IsGraph g → has_vertex g v.id ≡ false
    → (without (embeddings q (with_vertex g v)) (embeddings q g) ≡ []) × (without (embeddings q g) (embeddings q (with_vertex g v)) ≡ [])
added q g v touched is absent = (
  none_more q g.triples (put vertex_cmp v g.vertices) g.vertices touched back,
  none_more q g.triples g.vertices (put vertex_cmp v g.vertices) touched (λ labels id end h. put-any (λ (w : Vertex). w.id == id && is_within labels w.labels) v g.vertices h),
)
  where
    back : KeepsEnds g.triples (put vertex_cmp v g.vertices) g.vertices
    back labels id end h =
        let other : (v.id == id) ≡ false = other_id (has_vertex g) v.id id absent (end_is_vertex g g.triples id is.ends end) in
        any-put (λ (w : Vertex). w.id == id && is_within labels w.labels) v g.vertices (ap (λ b. b && is_within labels v.labels) other) h

-- a vertex that comes changes no embedding
pub added_nothing : AddedVertexChangesNoEmbedding
added_nothing limits q old new id labels pattern more graph is =
    by (has_vertex old id) refl (nat_le limits.vertices (length old.vertices) || nat_lt limits.labels (name_count old labels)) refl is
  where
    v : Vertex
    v = record { id = id; labels = labels }

    by : (a : Bool) → has_vertex old id ≡ a → (b : Bool) → (nat_le limits.vertices (length old.vertices) || nat_lt limits.labels (name_count old labels)) ≡ b
        → add_vertex limits old (record { id = id; labels = labels }) ≡ Ok new
        → (without (embeddings q new) (embeddings q old) ≡ []) × (without (embeddings q old) (embeddings q new) ≡ [])
    by true e b f h = let refused = rw e at h in cc
    by false e true f h = let refused = rw (e, f) at h in cc
    by false e false f h =
        let same : with_vertex old (record { id = id; labels = labels }) ≡ new = let made = rw (e, f) at h in cc in
        rw (← same) (added q old (record { id = id; labels = labels }) (all_touched q pattern more) graph e)

-- ---- one vertex fewer

filter-any : (p : Vertex → Bool) (keep : Vertex → Bool) (vs : List Vertex) → ((v : Vertex) → p v ≡ true → keep v ≡ true) → list_any p (filter keep vs) ≡ list_any p vs
filter-any p keep vs h = any-filter_same p keep true h vs

any-filter : (p keep : Vertex → Bool) (vs : List Vertex) → list_any p (filter keep vs) ≡ true → list_any p vs ≡ true
any-filter p keep [] h = cc
any-filter p keep (v ∷ vs) h = by (keep v) refl h (any-filter p keep vs)
  where
    by : (b : Bool) → keep v ≡ b → list_any p (filter keep (v ∷ vs)) ≡ true → (list_any p (filter keep vs) ≡ true → list_any p vs ≡ true) → list_any p (v ∷ vs) ≡ true
    by false e k rest = or_right (p v) (list_any p vs) (rest (rw e at k))
    by true e k rest = cases (either (p v) (list_any p (filter keep vs)) (rw e at k))
      where
        cases : (p v ≡ true) ⊎ (list_any p (filter keep vs) ≡ true) → list_any p (v ∷ vs) ≡ true
        cases (inl first) = rw first refl
        cases (inr later) = or_right (p v) (list_any p vs) (rest later)

dropped : (q : PatternGraph) (g : Graph) (id : ℕ) → ((u : ℕ) → u < vertex_count q → list_any (touches u) q.edges ≡ true) → has_incident_triple g id ≡ false
    → (without (embeddings q (without_vertex g id)) (embeddings q g) ≡ []) × (without (embeddings q g) (embeddings q (without_vertex g id)) ≡ [])
dropped q g id touched free = (
  none_more q g.triples (filter keep g.vertices) g.vertices touched (λ labels i end h. any-filter (λ (w : Vertex). w.id == i && is_within labels w.labels) keep g.vertices h),
  none_more q g.triples g.vertices (filter keep g.vertices) touched stay,
)
  where
    keep : Vertex → Bool
    keep w = not (w.id == id)

    stay : KeepsEnds g.triples g.vertices (filter (λ (w : Vertex). not (w.id == id)) g.vertices)
    stay labels i end h =
        filter-any (λ (w : Vertex). w.id == i && is_within labels w.labels) (λ (w : Vertex). not (w.id == id)) g.vertices kept ∙ h
      where
        kept : (w : Vertex) → w.id == i && is_within labels w.labels ≡ true → not (w.id == id) ≡ true
        kept w e =
            let same : w.id ≡ i = eqb-true w.id i (both (w.id == i) (is_within labels w.labels) e).0 in
            let end_here : is_end g.triples w.id ≡ true = ap (is_end g.triples) same ∙ end in
            ap not (by (w.id == id) refl end_here)
          where
            by : (b : Bool) → (w.id == id) ≡ b → is_end g.triples w.id ≡ true → (w.id == id) ≡ false
            by false f k = f
            by true f k = let at : is_end g.triples w.id ≡ is_end g.triples id = ap (is_end g.triples) (eqb-true w.id id f) in cc

-- a vertex that goes changes none
pub dropped_nothing : DroppedVertexChangesNoEmbedding
dropped_nothing limits q old new id pattern more is = by (has_vertex old id) refl (has_incident_triple old id) refl is
  where
    by : (a : Bool) → has_vertex old id ≡ a → (b : Bool) → has_incident_triple old id ≡ b → drop_vertex old id ≡ Ok new
        → (without (embeddings q new) (embeddings q old) ≡ []) × (without (embeddings q old) (embeddings q new) ≡ [])
    by false e b f h = let refused = rw e at h in cc
    by true e true f h = let refused = rw (e, f) at h in cc
    by true e false f h =
        let same : without_vertex old id ≡ new = let made = rw (e, f) at h in cc in
        rw (← same) (dropped q old id (all_touched q pattern more) f)
