-- Without edges that the tree leaves out, and in mode Hom, a search from the root has no dead end.
use Rattle.std.proofs.Common.{◌≡◌, ◌≢◌, ℕ, zero, suc, ◌+◌, ◌<◌, ◌≤◌, Bool, true, false, cond, ◌&&◌, ◌==◌, List, length, slice_index, Option, Some, None, inl, inr, refl, sym, ap, ◌∙◌, subst, arith}
use Rattle.std.specs.Prelude.{◌⊎◌}
use Rattle.std.specs.List.{list_any, list_all, range_with_len}
use Rattle.std.specs.Ordering.{is_eq}
use Rattle.std.specs.Str.{bytes_eq}
use Rattle.std.specs.Cmp.Lexicographic.{same_text}
use Rattle.std.proofs.lemmas.Bool.{and_parts, and_from, eqb-true, eq-eqb, ne_eqb, both_ways}
use Rattle.std.proofs.lemmas.Cmp.{tied_itself}
use Rattle.flux_model.specs.Exact.{StateRows}
use Rattle.flux_model.specs.Graph.{Graph, has_triple, triple_cmp}
use Rattle.flux_model.specs.Order.{SearchOrder}
use Rattle.flux_model.specs.Partial.{id_of, with_id, is_free, edge_joins}
use Rattle.flux_model.specs.Pattern.{PatternGraph, fits}
use Rattle.flux_model.specs.States.{Joint, Joined, joint_of, joined, reaches, extends, extends_within, is_explicit}
use Rattle.flux_model.specs.Tree.{QueryTree, edge_at, link_at, is_child, children}
use Rattle.flux_model.specs.declared.graph.Triple.{Triple}
use Rattle.flux_model.specs.declared.pattern.Mode.{Mode}
use Rattle.flux_model.specs.declared.pattern.Mode.TheVariants.{Hom, Iso}
use Rattle.flux_model.specs.declared.pattern.PatternEdge.{PatternEdge}
use Rattle.flux_model.specs.declared.tree.TreeLink.{TreeLink}
use Rattle.flux_laws.proofs.SetsLemmas.{triple_total}
use Rattle.flux_model.specs.Members.{In}
use Rattle.flux_model.proofs.MemberLemmas.{in_any, any_in, filter_in, in_filter, filter_map_in, in_range}
use Rattle.dcg_store.proofs.StateLemmas.{HasDepths, extends_stable, reaches_below}
use Rattle.match_order.specs.Whole.{vertices}
use Rattle.match_order.proofs.CallerLemmas.{HangsFrom, vertex_within, one_place, anchor_before, anchor_joined}
use Rattle.query_tree.specs.Depth.{depth}
use Rattle.query_tree.proofs.CallerLemmas.{is_child_of, depth-below, depth-small}
use Rattle.graph_rows.specs.Directions.{triple_of, direction_to}
use Rattle.graph_rows.specs.declared.direction.Direction.TheVariants.{Out, In as Inward}
use Rattle.tree_search.specs.Given.{IsReady, IsGiven, IsRowAt, nth_vertex, nth_anchor, may_have, edge_between}
use Rattle.tree_search.specs.Members.{members_from, ids_of}
use Rattle.tree_search.specs.declared.aim.Aim.TheVariants.{All}
use Rattle.tree_search.specs.SearchCosts.{MeetsNoDeadEnd}
use Rattle.tree_search.proofs.MemberLemmas.{members_with}
use Rattle.tree_search.proofs.EndLemmas.{in_all}
use Rattle.tree_search.proofs.GivenLemmas.{vertex_inside, vertex_free, given_next, number_down}
use Rattle.tree_search.proofs.WholeLemmas.{one_member}

-- ---- every candidate passes that is explicit

free_in : (mode : Mode) (p : List (Option ℕ)) (x : ℕ) → mode ≡ Hom → is_free mode p x ≡ true
free_in Hom p x e = refl
free_in Iso p x e = absurd (let clash : Iso ≡ Hom = e in cc)

-- where nothing refuses it, an explicit pair may be given
pub explicit_may_have : (q : PatternGraph) (t : QueryTree) (g : Graph) → MeetsNoDeadEnd q t → (p : List (Option ℕ)) (w x : ℕ) → is_explicit (joined q t g) w x ≡ true → may_have q t g p w x ≡ true
explicit_may_have q t g live p w x is =
    and_from _ _ (and_from (is_explicit (joined q t g) w x) (is_free q.mode p x) is (free_in q.mode p x live.free))
    (ap (λ l. list_all (λ i. edge_joins g p w x (edge_at q i)) l) live.joined)

-- a pair that extends fits
pub fits_when : (n : ℕ) (j : Joined) (u v : ℕ) → extends_within n j u v ≡ true → j.fits u v ≡ true
fits_when zero j u v h = absurd (let bad : false ≡ true = h in cc)
fits_when (suc n) j u v h = (and_parts _ _ h).0

-- ---- the joints of a tree edge

has_in : (g : Graph) (s : Triple) → In g.triples s → has_triple g s ≡ true
has_in g s i = any_in (λ y. is_eq (triple_cmp s y)) g.triples s i (ap is_eq (tied_itself triple_total s))

module _ (q : PatternGraph) (t : QueryTree) (g : Graph) (w : ℕ) (l : TreeLink) (link : link_at t w ≡ Some l) where
  abbrev e : PatternEdge
  e = edge_at q l.edge

  -- the triple that makes a joint
  joint_is : (s : Triple) (r : Joint) → joint_of q t g w s ≡ Some r
      → (s.label ≡ e.label) × (((e.head ≡ w) × (s.src ≡ r.above) × (s.dst ≡ r.below)) ⊎ ((e.head ≡ w → ⊥) × (s.dst ≡ r.above) × (s.src ≡ r.below)))
  joint_is s r made = by (bytes_eq e.label s.label) (fits q e.tail g s.src) (fits q e.head g s.dst) refl (rw link at made)
    where
      ends : (b : Bool) → (e.head == w) ≡ b → Some (cond b (record { above = s.src; below = s.dst }) (record { above = s.dst; below = s.src })) ≡ Some r
          → ((e.head ≡ w) × (s.src ≡ r.above) × (s.dst ≡ r.below)) ⊎ ((e.head ≡ w → ⊥) × (s.dst ≡ r.above) × (s.src ≡ r.below))
      ends true at same = let is : record { above = s.src; below = s.dst } ≡ r = cc in inl (eqb-true e.head w at, ap (λ j. j.above) is, ap (λ j. j.below) is)
      ends false at same = let is : record { above = s.dst; below = s.src } ≡ r = cc in inr ((λ eq. both_ways (e.head == w) at (eq-eqb e.head w eq)), ap (λ j. j.above) is, ap (λ j. j.below) is)

      by : (a b c : Bool) → bytes_eq e.label s.label ≡ a
          → cond (a && b && c) (Some (cond (e.head == w) (record { above = s.src; below = s.dst }) (record { above = s.dst; below = s.src }))) None ≡ Some r
          → (s.label ≡ e.label) × (((e.head ≡ w) × (s.src ≡ r.above) × (s.dst ≡ r.below)) ⊎ ((e.head ≡ w → ⊥) × (s.dst ≡ r.above) × (s.src ≡ r.below)))
      by true true true at same = (sym (same_text e.label s.label (sym at)), ends (e.head == w) refl same)
      by true true false at same = absurd (let clash : None ≡ Some r = same in cc)
      by true false c at same = absurd (let clash : None ≡ Some r = same in cc)
      by false b c at same = absurd (let clash : None ≡ Some r = same in cc)

  -- it stands in the row of the upper end
  joint_stands : (r : Joint) → In ((joined q t g).joints w) r → has_triple g (triple_of (direction_to e w) r.above e.label r.below) ≡ true
  joint_stands r i =
      let s = filter_map_in (joint_of q t g w) g.triples r i in
      let is = joint_is s.0 r s.2 in
      ap (has_triple g) (by is.0 is.1) ∙ has_in g s.0 s.1
    where
      by : {s : Triple} → s.label ≡ e.label
          → ((e.head ≡ w) × (s.src ≡ r.above) × (s.dst ≡ r.below)) ⊎ ((e.head ≡ w → ⊥) × (s.dst ≡ r.above) × (s.src ≡ r.below))
          → triple_of (direction_to e w) r.above e.label r.below ≡ s
      by {s} label (inl (at, above, below)) =
          let out : direction_to e w ≡ Out = ap (λ b. cond b Out Inward) (eq-eqb e.head w at) in
          (λ n. triple_of (out n) r.above e.label r.below) ∙ (λ n. record { src = sym above n; label = sym label n; dst = sym below n })
      by {s} label (inr (not_at, above, below)) =
          let inward : direction_to e w ≡ Inward = ap (λ b. cond b Out Inward) (ne_eqb e.head w not_at) in
          (λ n. triple_of (inward n) r.above e.label r.below) ∙ (λ n. record { src = sym below n; label = sym label n; dst = sym above n })

module _ (q : PatternGraph) (t : QueryTree) (d : StateRows) (g : Graph) (o : SearchOrder) (ready : IsReady q t d g o) (start : o.start ≡ t.root) where
  -- ---- from the root each vertex's anchor is its parent

  parent_before : (n j : ℕ) → j < n → j < length (vertices o) → (l : TreeLink) → link_at t (nth_vertex o j) ≡ Some l → (i : ℕ) × (i < j) × (nth_vertex o i ≡ l.parent)
  parent_before zero j low high l e = absurd (omega arith)
  parent_before (suc n) zero low high l e = absurd (
      let none : link_at t (nth_vertex o 0) ≡ None = ap (link_at t) start ∙ ready.belongs.tree.top in
      let clash : None ≡ Some l = sym none ∙ e in
      cc)
  parent_before (suc n) (suc j) low high l e = by (anchor_before t o ready.order (suc j) (omega arith) high) (anchor_joined t o ready.order (suc j) (omega arith) high) (parent_before n)
    where
      by : (i : ℕ) × (i < suc j) × (nth_vertex o i ≡ nth_anchor o (suc j)) → HangsFrom t (nth_anchor o (suc j)) (nth_vertex o (suc j)) ⊎ HangsFrom t (nth_vertex o (suc j)) (nth_anchor o (suc j))
          → ((i : ℕ) → i < n → i < length (vertices o) → (m : TreeLink) → link_at t (nth_vertex o i) ≡ Some m → (h : ℕ) × (h < i) × (nth_vertex o h ≡ m.parent))
          → (i : ℕ) × (i < suc j) × (nth_vertex o i ≡ l.parent)
      by (i, less, at) (inr (m, f, same)) rest =
          let one : Some m ≡ Some l = sym f ∙ e in
          let is : m ≡ l = cc in
          (i, less, at ∙ sym same ∙ ap (λ (k : TreeLink). k.parent) is)
      by (i, less, at) (inl (m, f, same)) rest =
          let up = rest i (omega (arith, less)) (omega (arith, less, high)) m (ap (link_at t) at ∙ f) in
          absurd (omega (arith, less, up.1, one_place t o ready.order up.0 (suc j) (omega (arith, up.1, less, high)) high (up.2 ∙ same)))

  -- from the root on, the anchor is the parent
  pub anchor_above : (k : ℕ) → 1 ≤ k → k < length (vertices o) → (l : TreeLink) × (link_at t (nth_vertex o k) ≡ Some l) × (l.parent ≡ nth_anchor o k)
  anchor_above k some few = by (anchor_before t o ready.order k some few) (anchor_joined t o ready.order k some few)
    where
      by : (i : ℕ) × (i < k) × (nth_vertex o i ≡ nth_anchor o k) → HangsFrom t (nth_anchor o k) (nth_vertex o k) ⊎ HangsFrom t (nth_vertex o k) (nth_anchor o k) → HangsFrom t (nth_vertex o k) (nth_anchor o k)
      by b (inr hangs) = hangs
      by (i, less, at) (inl (m, f, same)) =
          let up = parent_before (suc i) i (omega arith) (omega (arith, less, few)) m (ap (link_at t) at ∙ f) in
          absurd (omega (arith, less, up.1, one_place t o ready.order up.0 k (omega (arith, up.1, less, few)) few (up.2 ∙ same)))

  deep : HasDepths t (depth t)
  deep = record { deeper = depth-below t ready.belongs.tree; shallow = depth-small t ready.belongs.tree }

  -- ---- a candidate of each place

  module _ (live : MeetsNoDeadEnd q t) (k : ℕ) (some : 1 ≤ k) (few : k < length (vertices o)) (p : List (Option ℕ)) (known : IsGiven q t g o k p) where
    abbrev w : ℕ
    w = nth_vertex o k

    abbrev a : ℕ
    a = nth_anchor o k

    above : HangsFrom t w a
    above = anchor_above k some few

    apart : w ≢ a
    apart same = omega (arith, depth-below t ready.belongs.tree w above.0 above.1, ap (depth t) (above.2 ∙ sym same))

    inside : w < length t.links
    inside = vertex_within t o ready.order k few

    n : (m : ℕ) × (length t.links ≡ suc m)
    n = by (length t.links) inside
      where
        by : (m : ℕ) → w < m → (r : ℕ) × (m ≡ suc r)
        by zero h = absurd (omega arith)
        by (suc m) h = (m, refl)

    -- where the anchor's pair is explicit, one of its joints leads on
    leads_on : (v : ℕ) → is_explicit (joined q t g) a v ≡ true → (y : ℕ) × (is_explicit (joined q t g) w y ≡ true) × (has_triple g (triple_of (direction_to (edge_at q above.0.edge) w) v (edge_at q above.0.edge).label y) ≡ true)
    leads_on v is =
        let two = and_parts (reaches (joined q t g) a v) (extends (joined q t g) a v) is in
        let far : extends_within (suc n.0) (joined q t g) a v ≡ true = subst (λ m. extends_within m (joined q t g) a v ≡ true) n.1 two.1 in
        let child : In (children t a) w = in_filter (is_child t a) (range_with_len 0 (length t.links)) w (in_range 0 (length t.links) w (omega arith) (omega (arith, inside))) (ap (λ b. is_child t b w) (sym above.2) ∙ is_child_of t w above.0 above.1) in
        let some : list_any (λ r. r.above == v && extends_within n.0 (joined q t g) w r.below) ((joined q t g).joints w) ≡ true = in_all (λ c. list_any (λ r. r.above == v && extends_within n.0 (joined q t g) c r.below) ((joined q t g).joints c)) (children t a) w (and_parts _ _ far).1 child in
        let r = in_any (λ r. r.above == v && extends_within n.0 (joined q t g) w r.below) ((joined q t g).joints w) some in
        let at = and_parts (r.0.above == v) (extends_within n.0 (joined q t g) w r.0.below) r.2 in
        let top : r.0.above ≡ v = eqb-true r.0.above v at.0 in
        let down : depth t w ≡ suc (depth t above.0.parent) = depth-below t ready.belongs.tree w above.0 above.1 in
        let on : extends (joined q t g) w r.0.below ≡ true = extends_stable (joined q t g) (depth t) deep (length t.links) n.0 w r.0.below inside (omega arith) (omega (arith, n.1, down)) ∙ at.1 in
        let fit = fits_when n.0 (joined q t g) w r.0.below at.1 in
        let reached = reaches_below (joined q t g) (depth t) deep a v w above.0 r.0 inside above.1 above.2 r.1 top two.0 fit in (
          r.0.below,
          and_from (reaches (joined q t g) w r.0.below) (extends (joined q t g) w r.0.below) reached on,
          (λ i. has_triple g (triple_of (direction_to (edge_at q above.0.edge) w) (sym top i) (edge_at q above.0.edge).label r.0.below)) ∙ joint_stands q t g w above.0 above.1 r.0 r.1,
        )

    -- the row of the anchor's id is the one that is walked
    pub row_of_anchor : (v : ℕ) → id_of p a ≡ Some v → IsRowAt q t o k p v (direction_to (edge_at q (edge_between t w a)) w) (edge_at q (edge_between t w a)).label
    row_of_anchor v has = record { anchor = has; leads = refl; name = refl }

    -- some candidate may be given
    pub next_given : (y : ℕ) × IsGiven q t g o (suc k) (with_id p w y)
    next_given =
        let b = anchor_before t o ready.order k some few in
        let v = known.given b.0 b.1 in
        let has : id_of p a ≡ Some v.0 = ap (id_of p) (sym b.2) ∙ v.1 in
        let y = leads_on v.0 (known.explicit a v.0 has) in
        let number = number_down q t ready.belongs w a above.0 above.1 above.2 in
        let stands : has_triple g (triple_of (direction_to (edge_at q (edge_between t w a)) w) v.0 (edge_at q (edge_between t w a)).label y.0) ≡ true = (λ i. has_triple g (triple_of (direction_to (edge_at q (number i)) w) v.0 (edge_at q (number i)).label y.0)) ∙ y.2 in
        (y.0, given_next q t d g o ready k few p known some v.0 _ _ (row_of_anchor v.0 has) y.0 (explicit_may_have q t g live p w y.0 y.1) stands)

  -- ---- an embedding goes on

  -- so every partial map goes on to an embedding
  pub goes_somewhere : MeetsNoDeadEnd q t → (left k : ℕ) → k + left ≡ length (vertices o) → 1 ≤ k → (p : List (Option ℕ)) → IsGiven q t g o k p → (m : List ℕ) × In (members_from q g p) m
  goes_somewhere live zero k size some p known = (ids_of p, subst (λ l. In l (ids_of p)) (sym (one_member q t d g o ready k (omega (arith, size)) p known All tt)) (inl refl))
  goes_somewhere live (suc left) k size some p known =
      let few : k < length (vertices o) = omega (arith, size) in
      let next = next_given live k some few p known in
      let more = goes_somewhere live left (suc k) (omega (arith, size)) (omega arith) (with_id p (nth_vertex o k) next.0) next.1 in
      let here = subst (λ l. In l more.0) (members_with q g All p (nth_vertex o k) (vertex_inside q t d g o ready k few p known) (vertex_free q t d g o ready k few p known) next.0) more.1 in
      (more.0, (filter_in (λ (m : List ℕ). slice_index m (nth_vertex o k) == next.0) (members_from q g p) more.0 here).0)
