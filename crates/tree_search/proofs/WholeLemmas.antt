-- Where every vertex has an id, the ids are the one embedding that is left.
use Rattle.std.proofs.Common.{◌≡◌, ℕ, zero, suc, ◌<◌, Bool, true, false, ◌&&◌, ◌==◌, List, [], ◌∷◌, length, get_or, map, replicate, slice_index, Option, Some, None, inl, inr, refl, sym, ap, ◌∙◌, subst, arith}
use Rattle.std.specs.Prelude.{filter}
use Rattle.std.specs.Option.{unwrap_or}
use Rattle.std.specs.Cmp.Lexicographic.{pointwise, slice_cmp, nat_list_cmp_total}
use Rattle.std.specs.Ordering.{nat_cmp}
use Rattle.std.proofs.lemmas.Bool.{and_parts, and_from, eqb-true, eq-eqb}
use Rattle.std.proofs.lemmas.List.{length-map, get_or-map}
use Rattle.std.proofs.lemmas.List.Elements.{All-from_recursion}
use Rattle.flux_model.specs.Change.{same_map}
use Rattle.flux_model.specs.Embedding.{fit_all, keeps_edges, keeps_mode, is_embedding, embeddings}
use Rattle.flux_model.specs.Exact.{StateRows}
use Rattle.flux_model.specs.Graph.{Graph}
use Rattle.flux_model.specs.Order.{SearchOrder}
use Rattle.flux_model.specs.Ordered.{is_ascending}
use Rattle.flux_model.specs.Partial.{id_of, stands_where_given, keeps_non_tree, keeps_mode_where_given}
use Rattle.flux_model.specs.Pattern.{PatternGraph, HasEnds, vertex_count, fits_labels}
use Rattle.flux_model.specs.States.{joined, reaches_within}
use Rattle.flux_model.specs.Tree.{QueryTree, edge_at}
use Rattle.flux_laws.proofs.EmbeddingsLemmas.{same_exact, embedding_listed}
use Rattle.flux_model.specs.Members.{In}
use Rattle.flux_model.proofs.MemberLemmas.{filter_in, in_filter, in_any}
use Rattle.flux_laws.proofs.AscendingLemmas.{filter-ascending}
use Rattle.flux_laws.proofs.SameMembersLemmas.{ascending_same}
use Rattle.match_order.specs.Whole.{vertices}
use Rattle.match_order.proofs.CallerLemmas.{place_of_vertex}
use Rattle.nontree_test.proofs.CallerLemmas.{keeps_mode_at_end, keeps_edges_at_end, stands_at_end}
use Rattle.tree_search.specs.Aim.{aimed, IsAimed}
use Rattle.tree_search.specs.AimedMembers.{members_at}
use Rattle.tree_search.specs.Given.{IsReady, IsGiven}
use Rattle.tree_search.specs.Members.{goes_on, members_from, ids_of}
use Rattle.tree_search.specs.declared.aim.Aim.{Aim}
use Rattle.tree_search.proofs.AimLemmas.{aimed_listed, aimed_ascending}
use Rattle.tree_search.proofs.EmbeddingLemmas.{embedding_of}

-- ---- lists of ids that are all given

all_given : (p : List (Option ℕ)) → ((u : ℕ) → u < length p → (x : ℕ) × (id_of p u ≡ Some x)) → p ≡ map Some (ids_of p)
all_given [] h = refl
all_given (o ∷ p) h = by o (h 0 (omega arith)) (all_given p (λ u l. h (suc u) (omega arith)))
  where
    by : (r : Option ℕ) → (x : ℕ) × (r ≡ Some x) → p ≡ map Some (ids_of p) → r ∷ p ≡ map Some (ids_of (r ∷ p))
    by None (x, e) rest = absurd cc
    by (Some y) (x, e) rest = ap (λ l. Some y ∷ l) rest

pair_from : {X : Type 0} (t : X → ℕ → Bool) (xs : List X) (m : List ℕ) (d : X) → length m ≡ length xs → ((u : ℕ) → u < length xs → t (get_or xs u d) (slice_index m u) ≡ true) → pointwise t xs m ≡ true
pair_from t [] [] d size each = refl
pair_from t [] (y ∷ m) d size each = absurd (omega (arith, size))
pair_from t (x ∷ xs) [] d size each = absurd (omega (arith, size))
pair_from t (x ∷ xs) (y ∷ m) d size each = and_from (t x y) (pointwise t xs m) (each 0 (omega arith)) (pair_from t xs m d (omega (arith, size)) (λ u h. each (suc u) (omega arith)))

-- only the ids themselves have all of them
goes_on_same : (ids m : List ℕ) → goes_on (map Some ids) m ≡ true → m ≡ ids
goes_on_same [] [] goes = refl
goes_on_same [] (y ∷ m) goes = absurd (let bad : false ≡ true = goes in cc)
goes_on_same (x ∷ ids) [] goes = absurd (let bad : false ≡ true = goes in cc)
goes_on_same (x ∷ ids) (y ∷ m) goes =
    let two = and_parts (x == y) (goes_on (map Some ids) m) goes in
    λ i. sym (eqb-true x y two.0) i ∷ goes_on_same ids m two.1 i

goes_on_itself : (ids : List ℕ) → goes_on (map Some ids) ids ≡ true
goes_on_itself [] = refl
goes_on_itself (x ∷ ids) = and_from (x == x) (goes_on (map Some ids) ids) (eq-eqb x x refl) (goes_on_itself ids)

-- every list of that length goes on from no ids
pub goes_on_none : {X : Type 0} (t : X → ℕ → Bool) (xs : List X) (m : List ℕ) → pointwise t xs m ≡ true → goes_on (replicate (length xs) None) m ≡ true
goes_on_none t [] [] all = refl
goes_on_none t [] (y ∷ m) all = absurd (let bad : false ≡ true = all in cc)
goes_on_none t (x ∷ xs) [] all = absurd (let bad : false ≡ true = all in cc)
goes_on_none t (x ∷ xs) (y ∷ m) all = goes_on_none t xs m (and_parts (t x y) (pointwise t xs m) all).1

-- a filter that all pass leaves a list as it is
pub filter_none : {X : Type 0} (p : X → Bool) (xs : List X) → ((x : X) → In xs x → p x ≡ true) → filter p xs ≡ xs
filter_none p [] h = refl
filter_none p (x ∷ xs) h = rw (h x (inl refl)) (ap (λ l. x ∷ l) (filter_none p xs (λ y i. h y (inr i))))

-- so at first all embeddings are left
pub all_from_none : (q : PatternGraph) (g : Graph) → members_from q g (replicate (vertex_count q) None) ≡ embeddings q g
all_from_none q g = filter_none (goes_on (replicate (vertex_count q) None)) (embeddings q g) (λ m i.
    let is = embedding_of q g m i in
    let fit = (and_parts (fit_all q g m) (keeps_edges q g m) (and_parts (fit_all q g m && keeps_edges q g m) (keeps_mode q.mode m) is).0).0 in
    goes_on_none (fits_labels g) q.labels m fit)

-- ---- one of an ascending list

one_left : (test : List ℕ → Bool) (xs : List (List ℕ)) (x : List ℕ) → is_ascending (slice_cmp nat_cmp) xs ≡ true → In xs x → test x ≡ true → ((m : List ℕ) → test m ≡ true → m ≡ x) → filter test xs ≡ x ∷ []
one_left test xs x a i passes only =
    ascending_same (slice_cmp nat_cmp) nat_list_cmp_total (filter test xs) (x ∷ [])
    (filter-ascending (slice_cmp nat_cmp) nat_list_cmp_total test xs a) refl
    (λ m j. inl (only m (filter_in test xs m j).1))
    (λ m j. here m j)
  where
    here : (m : List ℕ) → In (x ∷ []) m → In (filter test xs) m
    here m (inl e) = subst (λ z. In (filter test xs) z) (sym e) (in_filter test xs x i passes)
    here m (inr j) = absurd j

-- ---- every vertex has an id

module _ (q : PatternGraph) (t : QueryTree) (d : StateRows) (g : Graph) (o : SearchOrder) (ready : IsReady q t d g o) (k : ℕ) (whole : k ≡ length (vertices o)) (p : List (Option ℕ)) (known : IsGiven q t g o k p) where
  abbrev ids : List ℕ
  ids = ids_of p

  full : p ≡ map Some ids
  full = all_given p (λ u h.
      let place = place_of_vertex t o ready.order u (omega (arith, h, known.places, ready.belongs.vertices)) in
      let have = known.given place.0 (omega (arith, place.1, whole)) in
      (have.0, ap (id_of p) (sym place.2) ∙ have.1))

  as_many : length ids ≡ vertex_count q
  as_many = length-map p (λ o. unwrap_or o 0) ∙ known.places

  at : (u : ℕ) → u < vertex_count q → id_of p u ≡ Some (slice_index ids u)
  at u h = ap (λ r. id_of r u) full ∙ get_or-map Some ids u 0 None (omega (arith, as_many))

  fit_ids : fit_all q g ids ≡ true
  fit_ids = pair_from (fits_labels g) q.labels ids [] as_many (λ u h.
      let is = known.explicit u (slice_index ids u) (at u h) in
      (and_parts _ _ (fits_of (length t.links) u (slice_index ids u) (and_parts _ _ is).0)).1)
    where
      fits_of : (n u v : ℕ) → reaches_within n (joined q t g) u v ≡ true → (joined q t g).fits u v ≡ true
      fits_of zero u v h = absurd (let bad : false ≡ true = h in cc)
      fits_of (suc n) u v h = (and_parts _ _ h).0

  edge_ends : (i : ℕ) → i < length q.edges → HasEnds (length ids) (edge_at q i)
  edge_ends i h = subst (λ n. HasEnds n (edge_at q i)) (sym as_many) (All-from_recursion (HasEnds (vertex_count q)) q.edges ready.pattern.ends i (record { tail = 0; label = []; head = 0 }) h)

  keeps_all : keeps_edges q g ids ≡ true
  keeps_all =
      keeps_edges_at_end q t g ids ready.pattern ready.belongs as_many (subst (λ r. keeps_non_tree q t g r ≡ true) full known.non_tree) (λ u l e.
      sym (stands_at_end g ids (edge_at q l.edge) (edge_ends l.edge (ready.belongs.links u l e).edge))
      ∙ subst (λ r. stands_where_given g r (edge_at q l.edge) ≡ true) full (known.links u l e))

  is_one : is_embedding q g ids ≡ true
  is_one =
      and_from _ _ (and_from (fit_all q g ids) (keeps_edges q g ids) fit_ids keeps_all)
      (sym (keeps_mode_at_end q.mode ids) ∙ subst (λ r. keeps_mode_where_given q.mode r ≡ true) full known.mode)

  listed : In (embeddings q g) ids
  listed =
      let r = in_any (same_map ids) (embeddings q g) (embedding_listed q g ids is_one) in
      subst (λ m. In (embeddings q g) m) (sym (same_exact ids r.0 r.2)) r.1

  -- where every vertex has an id, those ids are all that goes on
  pub one_member : (aim : Aim) → IsAimed q aim p → members_at q g aim p ≡ ids_of p ∷ []
  one_member aim known_aim =
      one_left (goes_on p) (aimed q g aim) ids (aimed_ascending q g aim ready.graph.ascending_vertices) (aimed_listed q g aim p ids full edge_ends known_aim listed)
      (subst (λ r. goes_on r ids ≡ true) (sym full) (goes_on_itself ids))
      (λ m goes. goes_on_same ids m (subst (λ r. goes_on r m ≡ true) full goes))
