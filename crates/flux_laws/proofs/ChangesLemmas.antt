-- What a change of the graph does to the embeddings of a pattern.
use Rattle.std.proofs.Common.{◌≡◌, ℕ, Bool, true, false, not, ◌||◌, ◌&&◌, ◌==◌, List, [], ◌∷◌, ◌++◌, Ok, refl, sym, ◌∙◌, subst}
use Rattle.std.specs.Prelude.{◌↔◌, IsPermutation}
use Rattle.std.specs.Ordering.{is_eq}
use Rattle.std.specs.Cmp.Lexicographic.{nat_list_cmp_total, pointwise}
use Rattle.std.specs.List.{list_all, list_any, filter, Contains}
use Rattle.std.proofs.lemmas.Cmp.{nat_list_eq_equiv}
use Rattle.std.proofs.lemmas.List.Elements.{filter_agree}
use Rattle.std.proofs.lemmas.List.Sorted.{IsPermutation-filter_both}
use Rattle.std.proofs.lemmas.Map.Lookups.{exact_bytes}
use Rattle.std.proofs.lemmas.Map.Text.{is_eq-slice_cmp}
use Rattle.std.proofs.lemmas.Map.Views.{Contains-from_any, list_any-from_Contains}
use Rattle.flux_model.specs.Ordered.{is_ascending, is_in}
use Rattle.flux_model.specs.Labels.{is_within}
use Rattle.flux_model.specs.Graph.{Graph, vertex_cmp, triple_cmp, has_triple, apply, with_vertex, with_triple, without_vertex, without_triple}
use Rattle.flux_model.specs.Pattern.{PatternGraph, fits_labels}
use Rattle.flux_model.specs.Embedding.{IsEmbedding, is_embedding, fit_all, keeps_edges, keeps_mode, image, embeddings}
use Rattle.flux_model.specs.Change.{same_map, without}
use Rattle.flux_model.specs.declared.pattern.PatternEdge.{PatternEdge}
use Rattle.flux_model.specs.declared.graph.Vertex.{Vertex}
use Rattle.flux_model.specs.declared.graph.Triple.{Triple}
use Rattle.flux_model.specs.declared.graph.Update.{Update}
use Rattle.flux_model.specs.declared.graph.Update.TheVariants.{AddVertex, DropVertex, AddEdge, DropEdge}
use Rattle.flux_model.specs.declared.limits.Limits.{Limits}
use Rattle.flux_model.proofs.OrderedLemmas.{put-ascending}
use Rattle.flux_laws.specs.ChangesLaws.{IsInsertion, IsRemoval, GainedAreNew, LostAreOld, NoneGainedAndLost, GainedAscend, LostAscend, InsertionLosesNone, RemovalGainsNone, InsertionAddsGained, RemovalTakesLost}
use Rattle.flux_laws.proofs.AscendingLemmas.{put-list_any, filter-ascending}
use Rattle.flux_laws.proofs.TestLemmas.{both, or_right}
use Rattle.flux_laws.proofs.PlainLemmas.{list_all-weaker}
use Rattle.flux_laws.proofs.WithinLemmas.{within-filter}
use Rattle.flux_laws.proofs.GraphsLemmas.{vertex_added, vertex_dropped, edge_added, edge_dropped}
use Rattle.flux_laws.proofs.EmbeddingsLemmas.{map_cmp, same_exact, passes, kept, embedding_listed, embeds, embeddings-ascending}
use Rattle.flux_laws.proofs.SetsLemmas.{vertex_total}

-- ---- what is gained and what is lost

clash : (b : Bool) → not b ≡ true → b ≡ true → ⊥
clash true n e = cc
clash false n e = cc

unless : (b : Bool) → (b ≡ true → ⊥) → not b ≡ true
unless true f = absurd (f refl)
unless false f = refl

-- what stands in a list of embeddings is one; what a filter keeps stood in the list
stood : (p : List ℕ → Bool) (m : List ℕ) (xs : List (List ℕ)) → list_any (same_map m) (filter p xs) ≡ true → list_any (same_map m) xs ≡ true
stood p m [] h = cc
stood p m (x ∷ xs) h = by (p x) refl (stood p m xs)
  where
    by : (b : Bool) → p x ≡ b → (list_any (same_map m) (filter p xs) ≡ true → list_any (same_map m) xs ≡ true) → list_any (same_map m) (x ∷ xs) ≡ true
    by true e rest = early (same_map m x) refl
      where
        early : (c : Bool) → same_map m x ≡ c → list_any (same_map m) (x ∷ xs) ≡ true
        early true f = rw f refl
        early false f = rw f (rest (rw (e, f) at h))
    by false e rest = or_right (same_map m x) (list_any (same_map m) xs) (rest (rw e at h))

-- those of the one graph that are none of the other
only_there : (q : PatternGraph) (g h : Graph) (m : List ℕ) → Contains (without (embeddings q h) (embeddings q g)) m ↔ (IsEmbedding q h m × (IsEmbedding q g m → ⊥))
only_there q g h m = (one, two)
  where
    new : List ℕ → Bool
    new n = not (list_any (same_map n) (embeddings q g))

    one : Contains (without (embeddings q h) (embeddings q g)) m → IsEmbedding q h m × (IsEmbedding q g m → ⊥)
    one c =
        let there : list_any (same_map m) (filter new (embeddings q h)) ≡ true = list_any-from_Contains nat_list_eq_equiv m (without (embeddings q h) (embeddings q g)) c in
        (embeds q h m (stood new m (embeddings q h) there), λ e. clash (list_any (same_map m) (embeddings q g)) (passes new m (embeddings q h) there) (embedding_listed q g m e))

    two : IsEmbedding q h m × (IsEmbedding q g m → ⊥) → Contains (without (embeddings q h) (embeddings q g)) m
    two p =
        Contains-from_any same_exact m (without (embeddings q h) (embeddings q g))
        (kept new m (embeddings q h) (unless (list_any (same_map m) (embeddings q g)) (λ e. p.1 (embeds q g m e))) (embedding_listed q h m p.0))

-- gained is what is an embedding after the change alone
pub are_new : GainedAreNew
are_new q g h m = only_there q g h m

-- lost is what was one before it alone
pub are_old : LostAreOld
are_old q g h m = only_there q h g m

-- nothing is gained and lost
pub not_both : NoneGainedAndLost
not_both q g h m c d = ((are_new q g h m).0 c).1 (((are_old q g h m).0 d).0)

-- what is gained ascends
pub gained_up : GainedAscend
gained_up q g h a = filter-ascending map_cmp nat_list_cmp_total (λ m. not (list_any (same_map m) (embeddings q g))) (embeddings q h) (embeddings-ascending q h a)

-- what is lost ascends
pub lost_up : LostAscend
lost_up q g h a = gained_up q h g a

-- ---- a graph that has all of another

-- what fits in the one graph fits in the other, and so for triples
record HasAll (g h : Graph) : Type 0 where
  fits : (labels : List (List ℕ)) (i : ℕ) → fits_labels g labels i ≡ true → fits_labels h labels i ≡ true
  triples : (t : Triple) → has_triple g t ≡ true → has_triple h t ≡ true

pointwise-weaker : {A B : Type 0} (E F : A → B → Bool) → ((x : A) (y : B) → E x y ≡ true → F x y ≡ true) → (xs : List A) (ys : List B) → pointwise E xs ys ≡ true → pointwise F xs ys ≡ true
pointwise-weaker E F f [] [] h = refl
pointwise-weaker E F f [] (y ∷ ys) h = cc
pointwise-weaker E F f (x ∷ xs) [] h = cc
pointwise-weaker E F f (x ∷ xs) (y ∷ ys) h =
    let two = both (E x y) (pointwise E xs ys) h in
    rw (f x y two.0) (pointwise-weaker E F f xs ys two.1)

still : (q : PatternGraph) (g h : Graph) → HasAll g h → (m : List ℕ) → is_embedding q g m ≡ true → is_embedding q h m ≡ true
still q g h all m e =
    let outer = both (fit_all q g m && keeps_edges q g m) (keeps_mode q.mode m) e in
    let inner = both (fit_all q g m) (keeps_edges q g m) outer.0 in
    let first : fit_all q h m ≡ true = pointwise-weaker (fits_labels g) (fits_labels h) all.fits q.labels m inner.0 in
    let second : keeps_edges q h m ≡ true = list_all-weaker (λ (f : PatternEdge). has_triple g (image m f)) (λ (f : PatternEdge). has_triple h (image m f)) (λ f. all.triples (image m f)) q.edges inner.1 in
    three (fit_all q h m) (keeps_edges q h m) (keeps_mode q.mode m) first second outer.1
  where
    three : (a b c : Bool) → a ≡ true → b ≡ true → c ≡ true → a && b && c ≡ true
    three true true true p r s = refl
    three true true false p r s = s
    three true false c p r s = r
    three false b c p r s = p

none_left : (q : PatternGraph) (g h : Graph) → HasAll g h → (xs : List (List ℕ)) → without (filter (is_embedding q g) xs) (embeddings q h) ≡ []
none_left q g h all [] = refl
none_left q g h all (x ∷ xs) = by (is_embedding q g x) refl (none_left q g h all xs)
  where
    by : (b : Bool) → is_embedding q g x ≡ b → without (filter (is_embedding q g) xs) (embeddings q h) ≡ [] → without (filter (is_embedding q g) (x ∷ xs)) (embeddings q h) ≡ []
    by true e rest = rw (e, embedding_listed q h x (still q g h all x e)) rest
    by false e rest = rw e rest

same_any : (m : List ℕ) (xs : List (List ℕ)) → is_in map_cmp m xs ≡ list_any (same_map m) xs
same_any m [] = refl
same_any m (x ∷ xs) = λ i. is_eq-slice_cmp m x i || same_any m xs i

all_there : (q : PatternGraph) (g h : Graph) → HasAll g h → (xs : List (List ℕ)) → list_all (λ m. is_in map_cmp m (embeddings q h)) (filter (is_embedding q g) xs) ≡ true
all_there q g h all [] = refl
all_there q g h all (x ∷ xs) = by (is_embedding q g x) refl (all_there q g h all xs)
  where
    by : (b : Bool) → is_embedding q g x ≡ b → list_all (λ m. is_in map_cmp m (embeddings q h)) (filter (is_embedding q g) xs) ≡ true → list_all (λ m. is_in map_cmp m (embeddings q h)) (filter (is_embedding q g) (x ∷ xs)) ≡ true
    by true e rest = rw (e, same_any x (embeddings q h) ∙ embedding_listed q h x (still q g h all x e)) rest
    by false e rest = rw e rest

lost-none : (q : PatternGraph) (g h : Graph) → HasAll g h → without (embeddings q g) (embeddings q h) ≡ []
lost-none q g h all = none_left q g h all _

grows : (q : PatternGraph) (g h : Graph) → HasAll g h → is_ascending vertex_cmp g.vertices ≡ true → is_ascending vertex_cmp h.vertices ≡ true → IsPermutation (embeddings q h) (embeddings q g ++ without (embeddings q h) (embeddings q g))
grows q g h all a b =
    let old : List ℕ → Bool = λ m. list_any (same_map m) (embeddings q g) in
    let new : List ℕ → Bool = λ m. not (list_any (same_map m) (embeddings q g)) in
    let here : filter old (embeddings q h) ≡ embeddings q g =
    filter_agree old (λ m. is_in map_cmp m (embeddings q g)) (λ m. sym (same_any m (embeddings q g))) (embeddings q h)
    ∙ within-filter map_cmp nat_list_cmp_total exact_bytes (embeddings q g) (embeddings q h) (embeddings-ascending q g a) (embeddings-ascending q h b) (all_there q g h all _) in
    subst (λ (front : List (List ℕ)). IsPermutation (embeddings q h) (front ++ filter new (embeddings q h))) here
    (IsPermutation-filter_both old new (λ m. refl) (embeddings q h))

-- ---- insertions and removals

filter-list_any : {K : Type 0} (p r : K → Bool) (xs : List K) → list_any p (filter r xs) ≡ true → list_any p xs ≡ true
filter-list_any p r [] h = cc
filter-list_any p r (x ∷ xs) h = by (r x) refl (p x) refl (filter-list_any p r xs)
  where
    by : (b : Bool) → r x ≡ b → (c : Bool) → p x ≡ c → (list_any p (filter r xs) ≡ true → list_any p xs ≡ true) → list_any p (x ∷ xs) ≡ true
    by b e true f rest = rw f refl
    by true e false f rest = rw f (rest (rw (e, f) at h))
    by false e false f rest = rw f (rest (rw e at h))

with_vertex-all : (g : Graph) (v : Vertex) → HasAll g (with_vertex g v)
with_vertex-all g v = record {
  fits = λ labels i. put-list_any vertex_cmp (λ (w : Vertex). w.id == i && is_within labels w.labels) v g.vertices;
  triples = λ t h. h;
}

with_triple-all : (g : Graph) (t : Triple) → HasAll g (with_triple g t)
with_triple-all g t = record {
  fits = λ labels i h. h;
  triples = λ s. put-list_any triple_cmp (λ u. is_eq (triple_cmp s u)) t g.triples;
}

without_vertex-all : (g : Graph) (id : ℕ) → HasAll (without_vertex g id) g
without_vertex-all g id = record {
  fits = λ labels i. filter-list_any (λ (w : Vertex). w.id == i && is_within labels w.labels) (λ (w : Vertex). not (w.id == id)) g.vertices;
  triples = λ t h. h;
}

without_triple-all : (g : Graph) (t : Triple) → HasAll (without_triple g t) g
without_triple-all g t = record {
  fits = λ labels i h. h;
  triples = λ s. filter-list_any (λ u. is_eq (triple_cmp s u)) (λ u. not (is_eq (triple_cmp u t))) g.triples;
}

inserted : (limits : Limits) (g h : Graph) (update : Update) → IsInsertion update → apply limits g update ≡ Ok h → HasAll g h
inserted limits g h (AddVertex id labels) is e = subst (HasAll g) (vertex_added limits g h id labels e).is (with_vertex-all g (record { id = id; labels = labels }))
inserted limits g h (DropVertex id) is e = absurd is
inserted limits g h (AddEdge t) is e = subst (HasAll g) (edge_added limits g h t e).is (with_triple-all g t)
inserted limits g h (DropEdge t) is e = absurd is

removed : (limits : Limits) (g h : Graph) (update : Update) → IsRemoval update → apply limits g update ≡ Ok h → HasAll h g
removed limits g h (AddVertex id labels) is e = absurd is
removed limits g h (DropVertex id) is e = subst (λ (k : Graph). HasAll k g) (vertex_dropped limits g h id e).is (without_vertex-all g id)
removed limits g h (AddEdge t) is e = absurd is
removed limits g h (DropEdge t) is e = subst (λ (k : Graph). HasAll k g) (edge_dropped limits g h t e).is (without_triple-all g t)

-- the vertices of the changed graph ascend
abbrev Ascends : Graph → Type 0
Ascends g = is_ascending vertex_cmp g.vertices ≡ true

changed : (limits : Limits) (g h : Graph) (update : Update) → Ascends g → apply limits g update ≡ Ok h → Ascends h
changed limits g h (AddVertex id labels) a e = subst Ascends (vertex_added limits g h id labels e).is (put-ascending vertex_cmp vertex_total (record { id = id; labels = labels }) g.vertices a)
changed limits g h (DropVertex id) a e = subst Ascends (vertex_dropped limits g h id e).is (filter-ascending vertex_cmp vertex_total (λ (w : Vertex). not (w.id == id)) g.vertices a)
changed limits g h (AddEdge t) a e = subst Ascends (edge_added limits g h t e).is a
changed limits g h (DropEdge t) a e = subst Ascends (edge_dropped limits g h t e).is a

-- an insertion loses nothing
pub loses_none : InsertionLosesNone
loses_none limits q g h update is e = lost-none q g h (inserted limits g h update is e)

-- a removal gains nothing
pub gains_none : RemovalGainsNone
gains_none limits q g h update is e = lost-none q h g (removed limits g h update is e)

-- after an insertion: the old ones and what is gained
pub adds_gained : InsertionAddsGained
adds_gained limits q g h update graph is e =
    grows q g h (inserted limits g h update is e) graph.ascending_vertices (changed limits g h update graph.ascending_vertices e)

-- before a removal: those that are left and what is lost
pub takes_lost : RemovalTakesLost
takes_lost limits q g h update graph is e =
    grows q h g (removed limits g h update is e) (changed limits g h update graph.ascending_vertices e) graph.ascending_vertices
