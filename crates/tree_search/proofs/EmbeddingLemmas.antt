-- What an embedding has: an id for each vertex, which fits, and a triple for each edge.
use Rattle.std.proofs.Common.{◌≡◌, ℕ, zero, suc, ◌<◌, Bool, true, false, ◌&&◌, ◌==◌, List, [], ◌∷◌, length, get_or, slice_index, refl, sym, ap, subst, arith}
use Rattle.std.specs.List.{list_all}
use Rattle.std.specs.declared.cmp.Ordering.{Ordering}
use Rattle.std.specs.declared.cmp.Ordering.TheVariants.{Less, Equal, Greater}
use Rattle.std.specs.Ordering.{is_eq}
use Rattle.std.specs.Cmp.Lexicographic.{pointwise}
use Rattle.std.proofs.lemmas.Bool.{and_parts, and_from, lt-ltb}
use Rattle.std.proofs.lemmas.Cmp.{tied_itself}
use Rattle.flux_model.specs.Embedding.{image, fit_all, keeps_edges, keeps_mode, is_embedding, id_lists, embeddings}
use Rattle.flux_model.specs.Graph.{Graph, ids, has_triple, has_vertex, triple_cmp}
use Rattle.flux_model.specs.Labels.{is_within}
use Rattle.flux_model.specs.Pattern.{PatternGraph, vertex_count, fits_labels, fits}
use Rattle.flux_model.specs.Tree.{edge_at}
use Rattle.flux_model.specs.declared.graph.Triple.{Triple}
use Rattle.flux_model.specs.declared.graph.Vertex.{Vertex}
use Rattle.flux_laws.proofs.GraphsLemmas.{triple_exact}
use Rattle.flux_laws.proofs.SetsLemmas.{triple_total}
use Rattle.flux_model.specs.Members.{In}
use Rattle.flux_model.proofs.MemberLemmas.{filter_in, in_any, any_in}

-- ---- lists

-- what each element passes is passed at each place
pub each_at : {X : Type 0} (p : X → Bool) (xs : List X) (i : ℕ) (d : X) → list_all p xs ≡ true → i < length xs → p (get_or xs i d) ≡ true
each_at p [] i d all h = absurd (omega arith)
each_at p (x ∷ xs) zero d all h = (and_parts (p x) (list_all p xs) all).0
each_at p (x ∷ xs) (suc i) d all h = each_at p xs i d (and_parts (p x) (list_all p xs) all).1 (omega arith)

-- what two lists pass side by side is passed at each place
pub pair_at : {X : Type 0} (p : X → ℕ → Bool) (xs : List X) (m : List ℕ) (i : ℕ) (d : X) → pointwise p xs m ≡ true → i < length xs → p (get_or xs i d) (slice_index m i) ≡ true
pair_at p [] m i d all h = absurd (omega arith)
pair_at p (x ∷ xs) [] i d all h = absurd (let bad : false ≡ true = all in cc)
pair_at p (x ∷ xs) (y ∷ m) zero d all h = (and_parts (p x y) (pointwise p xs m) all).0
pair_at p (x ∷ xs) (y ∷ m) (suc i) d all h = pair_at p xs m i d (and_parts (p x y) (pointwise p xs m) all).1 (omega arith)

-- lists that pass side by side are as long
pub as_long : {X : Type 0} (p : X → ℕ → Bool) (xs : List X) (m : List ℕ) → pointwise p xs m ≡ true → length m ≡ length xs
as_long p [] [] all = refl
as_long p [] (y ∷ m) all = absurd (let bad : false ≡ true = all in cc)
as_long p (x ∷ xs) [] all = absurd (let bad : false ≡ true = all in cc)
as_long p (x ∷ xs) (y ∷ m) all = ap suc (as_long p xs m (and_parts (p x y) (pointwise p xs m) all).1)

-- ---- triples

equal : (r : Ordering) → is_eq r ≡ true → r ≡ Equal
equal Less h = absurd (let bad : false ≡ true = h in cc)
equal Equal h = refl
equal Greater h = absurd (let bad : false ≡ true = h in cc)

-- a triple that stands is in the list
pub triple_in : (g : Graph) (s : Triple) → has_triple g s ≡ true → In g.triples s
triple_in g s h =
    let r = in_any (λ y. is_eq (triple_cmp s y)) g.triples h in
    subst (λ z. In g.triples z) (sym (triple_exact s r.0 (equal (triple_cmp s r.0) r.2))) r.1

-- a triple of the list stands
pub in_triple : (g : Graph) (s : Triple) → In g.triples s → has_triple g s ≡ true
in_triple g s i = any_in (λ y. is_eq (triple_cmp s y)) g.triples s i (ap is_eq (tied_itself triple_total s))

-- what fits is a vertex
pub vertex_of_fits : (q : PatternGraph) (g : Graph) (u v : ℕ) → fits q u g v ≡ true → has_vertex g v ≡ true
vertex_of_fits q g u v h = by (in_any _ g.vertices (and_parts _ _ h).1)
  where
    by : (x : Vertex) × In g.vertices x × (x.id == v && is_within (get_or q.labels u []) x.labels ≡ true) → has_vertex g v ≡ true
    by (x, i, e) = any_in (λ (y : Vertex). y.id == v) g.vertices x i (and_parts (x.id == v) (is_within (get_or q.labels u []) x.labels) e).0

-- ---- an embedding

-- what is listed is an embedding
pub embedding_of : (q : PatternGraph) (g : Graph) (m : List ℕ) → In (embeddings q g) m → is_embedding q g m ≡ true
embedding_of q g m i = (filter_in (is_embedding q g) (id_lists (ids g) (vertex_count q)) m i).1

module _ (q : PatternGraph) (g : Graph) (m : List ℕ) (is : is_embedding q g m ≡ true) where
  fit_and_keep : (fit_all q g m ≡ true) × (keeps_edges q g m ≡ true) × (keeps_mode q.mode m ≡ true)
  fit_and_keep =
      let outer = and_parts (fit_all q g m && keeps_edges q g m) (keeps_mode q.mode m) is in
      let inner = and_parts (fit_all q g m) (keeps_edges q g m) outer.0 in
      (inner.0, inner.1, outer.1)

  -- it has an id for each vertex
  pub ids_count : length m ≡ vertex_count q
  ids_count = as_long (fits_labels g) q.labels m fit_and_keep.0

  -- each of its ids fits
  pub id_fits : (u : ℕ) → u < vertex_count q → fits q u g (slice_index m u) ≡ true
  id_fits u h = and_from _ _ (lt-ltb u (vertex_count q) h) (pair_at (fits_labels g) q.labels m u [] fit_and_keep.0 h)

  -- each edge has its triple
  pub edge_has : (i : ℕ) → i < length q.edges → has_triple g (image m (edge_at q i)) ≡ true
  edge_has i h = each_at (λ e. has_triple g (image m e)) q.edges i (record { tail = 0; label = []; head = 0 }) fit_and_keep.1 h

  pub mode_kept : keeps_mode q.mode m ≡ true
  mode_kept = fit_and_keep.2
