-- The pairs of an embedding are explicit: the root reaches each along the tree, and each extends to the leaves.
use Rattle.std.proofs.Common.{◌≡◌, ◌≢◌, ℕ, zero, suc, ◌+◌, ◌<◌, ◌≤◌, Bool, true, cond, ◌&&◌, ◌||◌, ◌==◌, List, [], ◌∷◌, length, slice_index, Option, Some, None, inl, inr, refl, ap, ◌∙◌, arith}
use Rattle.std.specs.Prelude.{◌⊎◌}
use Rattle.std.specs.List.{list_all, list_any, range_with_len}
use Rattle.std.specs.Str.{bytes_eq}
use Rattle.std.proofs.lemmas.Bool.{and_parts, and_from, or_right, or_left, or_cases, eqb-true, eq-eqb, ne_eqb, cases_eq}
use Rattle.std.proofs.lemmas.Cmp.{nat_list_eq_equiv}
use Rattle.flux_model.specs.Embedding.{image, is_embedding}
use Rattle.flux_model.specs.Graph.{Graph}
use Rattle.flux_model.specs.Pattern.{PatternGraph, vertex_count, fits}
use Rattle.flux_model.specs.States.{Joint, Joined, joint_of, joined, reaches_within, extends_within, reaches, extends, is_explicit}
use Rattle.flux_model.specs.Tree.{QueryTree, edge_at, link_at, children, is_child, is_between, BelongsTo}
use Rattle.flux_model.specs.declared.pattern.PatternEdge.{PatternEdge}
use Rattle.flux_model.specs.declared.tree.TreeLink.{TreeLink}
use Rattle.flux_model.specs.Members.{In}
use Rattle.flux_model.proofs.MemberLemmas.{any_in, filter_in, in_filter_map}
use Rattle.query_tree.specs.Depth.{depth}
use Rattle.query_tree.proofs.CallerLemmas.{link_within, parent_within, linked, child_link, depth-below, depth-small}
use Rattle.tree_search.proofs.EmbeddingLemmas.{triple_in, id_fits, edge_has}

all_true : {X : Type 0} (p : X → Bool) (xs : List X) → ((x : X) → In xs x → p x ≡ true) → list_all p xs ≡ true
all_true p [] h = refl
all_true p (x ∷ xs) h = and_from (p x) (list_all p xs) (h x (inl refl)) (all_true p xs (λ y m. h y (inr m)))

-- the ends of a link's edge, one of which is the vertex
pub ends_of_link : (e : PatternEdge) (u p : ℕ) → is_between e u p ≡ true → ((e.head ≡ u) × (e.tail ≡ p)) ⊎ ((e.head ≡ p) × (e.tail ≡ u))
ends_of_link e u p h = by (or_cases (e.tail == u && e.head == p) (e.tail == p && e.head == u) h)
  where
    by : (e.tail == u && e.head == p ≡ true) ⊎ (e.tail == p && e.head == u ≡ true) → ((e.head ≡ u) × (e.tail ≡ p)) ⊎ ((e.head ≡ p) × (e.tail ≡ u))
    by (inl b) = let r = and_parts (e.tail == u) (e.head == p) b in inr (eqb-true e.head p r.1, eqb-true e.tail u r.0)
    by (inr b) = let r = and_parts (e.tail == p) (e.head == u) b in inl (eqb-true e.head u r.1, eqb-true e.tail p r.0)

module _ (q : PatternGraph) (t : QueryTree) (g : Graph) (belongs : BelongsTo q t) (m : List ℕ) (is : is_embedding q g m ≡ true) where
  abbrev j : Joined
  j = joined q t g

  abbrev joint_at : ℕ → ℕ → Joint
  joint_at u p = record { above = slice_index m p; below = slice_index m u }

  fit_at : (u : ℕ) → u < length t.links → fits q u g (slice_index m u) ≡ true
  fit_at u h = id_fits q g m is u (omega (arith, belongs.vertices))

  -- the triple of a link's edge makes the joint of the two ids
  module _ (u : ℕ) (l : TreeLink) (link : link_at t u ≡ Some l) (e : PatternEdge) where
    up : fits q l.parent g (slice_index m l.parent) ≡ true
    up = fit_at l.parent (parent_within t belongs.tree u l link)

    here : fits q u g (slice_index m u) ≡ true
    here = fit_at u (link_within t u l link)

    abbrev made : Option Joint
    made = cond (fits q e.tail g (slice_index m e.tail) && fits q e.head g (slice_index m e.head))
        (Some (cond (e.head == u) (record { above = slice_index m e.tail; below = slice_index m e.head }) (record { above = slice_index m e.head; below = slice_index m e.tail })))
        None

    joint_by_end : ((e.head ≡ u) × (e.tail ≡ l.parent)) ⊎ ((e.head ≡ l.parent) × (e.tail ≡ u)) → made ≡ Some (joint_at u l.parent)
    joint_by_end (inl (h, k)) = rw (h, k, here, up, eq-eqb u u refl) refl
    joint_by_end (inr (h, k)) =
        let apart : l.parent ≢ u = λ same. omega (arith, depth-below t belongs.tree u l link, ap (depth t) same) in
        rw (h, k, here, up, ne_eqb l.parent u apart) refl

  joint_made : (u : ℕ) (l : TreeLink) → link_at t u ≡ Some l → joint_of q t g u (image m (edge_at q l.edge)) ≡ Some (joint_at u l.parent)
  joint_made u l link =
      let e = edge_at q l.edge in
      let same : bytes_eq e.label e.label ≡ true = nat_list_eq_equiv.refl e.label in
      rw (link, same) (joint_by_end u l link e (ends_of_link e u l.parent (belongs.links u l link).between))

  joint_there : (u : ℕ) (l : TreeLink) → link_at t u ≡ Some l → In (j.joints u) (joint_at u l.parent)
  joint_there u l link =
      in_filter_map (joint_of q t g u) g.triples (image m (edge_at q l.edge)) (joint_at u l.parent)
      (triple_in g (image m (edge_at q l.edge)) (edge_has q g m is l.edge (belongs.links u l link).edge))
      (joint_made u l link)

  reaches_up : (k u v : ℕ) (l : TreeLink) → link_at t u ≡ Some l
      → reaches_within (suc k) j u v ≡ (j.fits u v && (u == t.root || list_any (λ e. e.below == v && reaches_within k j l.parent e.above) (j.joints u)))
  reaches_up k u v l e = rw e refl

  reaches_chosen : (k u : ℕ) → u < length t.links → depth t u < k → reaches_within k j u (slice_index m u) ≡ true
  reaches_chosen zero u h deep = absurd (omega arith)
  reaches_chosen (suc k) u h deep = by (cases_eq u t.root) (reaches_chosen k)
    where
      by : (u ≡ t.root) ⊎ (u ≡ t.root → ⊥) → ((w : ℕ) → w < length t.links → depth t w < k → reaches_within k j w (slice_index m w) ≡ true) → reaches_within (suc k) j u (slice_index m u) ≡ true
      by (inl root) rest = and_from (j.fits u (slice_index m u)) _ (fit_at u h) (or_left (u == t.root) _ (eq-eqb u t.root root))
      by (inr other) rest =
          let l = linked t belongs.tree u h other in
          let up = rest l.0.parent (parent_within t belongs.tree u l.0 l.1) (omega (arith, depth-below t belongs.tree u l.0 l.1)) in
          reaches_up k u (slice_index m u) l.0 l.1
          ∙ and_from (j.fits u (slice_index m u)) _ (fit_at u h)
          (or_right (u == t.root) _ (any_in (λ e. e.below == slice_index m u && reaches_within k j l.0.parent e.above) (j.joints u) (joint_at u l.0.parent) (joint_there u l.0 l.1)
          (and_from _ _ (eq-eqb (slice_index m u) (slice_index m u) refl) up)))

  extends_chosen : (k u : ℕ) → u < length t.links → length t.links ≤ k + depth t u → extends_within k j u (slice_index m u) ≡ true
  extends_chosen zero u h deep = absurd (omega (arith, depth-small t belongs.tree u h))
  extends_chosen (suc k) u h deep = and_from (j.fits u (slice_index m u)) _ (fit_at u h) (all_true _ (children t u) (below (extends_chosen k)))
    where
      below : ((c : ℕ) → c < length t.links → length t.links ≤ k + depth t c → extends_within k j c (slice_index m c) ≡ true)
          → (c : ℕ) → In (children t u) c → list_any (λ e. e.above == slice_index m u && extends_within k j c e.below) (j.joints c) ≡ true
      below rest c i =
          let l = child_link t u c (filter_in (is_child t u) (range_with_len 0 (length t.links)) c i).1 in
          let down = depth-below t belongs.tree c l.0 l.1 in
          let same = ap (depth t) l.2 in
          let on = rest c (link_within t c l.0 l.1) (omega arith) in
          any_in (λ e. e.above == slice_index m u && extends_within k j c e.below) (j.joints c) (joint_at c l.0.parent) (joint_there c l.0 l.1)
          (and_from _ _ (eq-eqb (slice_index m l.0.parent) (slice_index m u) (ap (slice_index m) l.2)) on)

  -- so a search that takes explicit pairs loses none
  pub explicit_chosen : (u : ℕ) → u < vertex_count q → is_explicit j u (slice_index m u) ≡ true
  explicit_chosen u h =
      let inside : u < length t.links = omega (arith, belongs.vertices) in
      and_from (reaches j u (slice_index m u)) (extends j u (slice_index m u))
      (reaches_chosen (length t.links) u inside (depth-small t belongs.tree u inside))
      (extends_chosen (length t.links) u inside (omega arith))
