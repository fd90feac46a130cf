-- How many rows an exact store has, at most.
use Rattle.std.proofs.Common.{◌≡◌, ℕ, zero, suc, ◌+◌, ◌*◌, ◌<◌, ◌≤◌, Bool, true, false, ◌&&◌, ◌||◌, ◌==◌, List, [], ◌∷◌, ◌++◌, length, length-append, inl, inr, refl, sym, ap, ◌∙◌, subst, arith}
use Rattle.std.specs.Prelude.{Option, None, Some, is_some, map, slice_index_or, if◌then◌else◌}
use Rattle.std.proofs.Math.Dec.{T}
use Rattle.std.specs.List.{list_any, filter_map, cons_option, range_with_len, AllByRecursion, IsDistinct}
use Rattle.std.specs.declared.cmp.Ordering.{Ordering}
use Rattle.std.specs.declared.cmp.Ordering.TheVariants.{Less, Equal, Greater}
use Rattle.std.specs.Ordering.{eq_by_cmp, is_eq, is_lt}
use Rattle.std.specs.Cmp.{eq_by_cmp_equiv, tied_itself}
use Rattle.std.specs.FinMap.{entries, entries_sorted, len, keys, is_sorted, contains_key-keys, len-entries}
use Rattle.std.specs.FinMap.Entries.{below_all}
use Rattle.std.proofs.lemmas.Bool.{and_parts, or_cases, eqb-true}
use Rattle.std.proofs.lemmas.List.{length-map}
use Rattle.std.proofs.lemmas.List.FromFn.{length-range_with_len}
use Rattle.std.proofs.lemmas.Map.Made.{length-le_from_is_member}
use Rattle.flux_model.specs.declared.graph.Vertex.{Vertex}
use Rattle.flux_model.specs.declared.tree.TreeLink.{TreeLink}
use Rattle.flux_model.specs.Graph.{Graph, ids}
use Rattle.flux_model.specs.Labels.{is_within}
use Rattle.flux_model.specs.Pattern.{PatternGraph, fits}
use Rattle.flux_model.specs.Tree.{link_at, children, IsTree}
use Rattle.flux_model.specs.States.{Joint, Joined, reaches_within, reaches}
use Rattle.flux_model.specs.Exact.{Row, StateRows, pair_cmp, row_at, in_count, out_count, IsExactOver}
use Rattle.dcg_store.proofs.PairLemmas.{pair_cmp_total, first, second}
use Rattle.flux_model.specs.Members.{In}
use Rattle.flux_model.proofs.MemberLemmas.{in_any, any_in, in_append_left, in_append_right, in_mapped, in_range}
use Rattle.dcg_store.proofs.StateLemmas.{reaches_up, reaches_loose, inside_of_reaches}

-- ---- the keys of a map are distinct

pub strict : (r : Ordering) → T (is_lt r) → is_eq r ≡ false
strict Less h = refl
strict Equal h = absurd h
strict Greater h = absurd h

module _ {K X : Type 0} (R : K → K → Ordering) where
  apart_from_later : (x : K) (es : List (K × X)) → T (below_all R x es) → AllByRecursion (λ y. eq_by_cmp R x y ≡ false) (map (λ e. e.0) es)
  apart_from_later x [] h = tt
  apart_from_later x (e ∷ es) h = (strict (R x e.0) (first _ _ h), apart_from_later x es (second _ _ h))

  distinct : (es : List (K × X)) → T (is_sorted R es) → IsDistinct (eq_by_cmp R) (map (λ e. e.0) es)
  unfolding IsDistinct
  distinct [] h = tt
  distinct (e ∷ es) h = (apart_from_later e.0 es (first _ _ h), distinct es (second _ _ h))

-- ---- the pairs that may be reached

abbrev pair : ℕ → ℕ → ℕ × ℕ
pair u v = (u, v)

-- the lower end of a joint of u
abbrev end_of : ℕ → Joint → ℕ × ℕ
end_of u e = (u, e.below)

-- the lower ends of the joints of each of the vertices, as pairs
ends : Joined → List ℕ → List (ℕ × ℕ)
ends j [] = []
ends j (u ∷ us) = map (end_of u) (j.joints u) ++ ends j us

in_ends : (j : Joined) (u : ℕ) (e : Joint) (us : List ℕ) → In us u → In (j.joints u) e → In (ends j us) (end_of u e)
unfolding ends
in_ends j u e [] m among = absurd m
in_ends j u e (w ∷ us) m among =
    elim m [
      | inl same ↦ in_append_left (map (end_of w) (j.joints w)) (ends j us) (end_of u e)
          (subst (λ z. In (map (end_of z) (j.joints z)) (end_of u e)) same (in_mapped (end_of u) (j.joints u) e among))
      | inr m ↦ in_append_right (map (end_of w) (j.joints w)) (ends j us) (end_of u e) (in_ends j u e us m among)
    ]

length-ends : (j : Joined) (most : ℕ) → ((u : ℕ) → length (j.joints u) ≤ most) → (us : List ℕ) → length (ends j us) ≤ length us * most
unfolding ends
length-ends j most few [] = omega arith
length-ends j most few (u ∷ us) =
    let here = map (end_of u) (j.joints u) in
    omega (arith, length-append here (ends j us), length-map (j.joints u) (end_of u), few u, length-ends j most few us)

-- the root with each vertex, and each other vertex with the lower ends of its joints
candidates : Joined → List ℕ → List (ℕ × ℕ)
candidates j vs = map (pair j.tree.root) vs ++ ends j (range_with_len 0 (length j.tree.links))

module _ (j : Joined) (is : IsTree j.tree) (vs : List ℕ) (ends_root : (v : ℕ) → j.fits j.tree.root v ≡ true → In vs v) where
  at_root : (u v : ℕ) → (u == j.tree.root) ≡ true → j.fits u v ≡ true → In (candidates j vs) (pair u v)
  unfolding candidates
  at_root u v same fit =
      let root : u ≡ j.tree.root = eqb-true u j.tree.root same in
      in_append_left (map (pair j.tree.root) vs) (ends j (range_with_len 0 (length j.tree.links))) (pair u v)
      (subst (λ z. In (map (pair j.tree.root) vs) (pair z v)) (sym root) (in_mapped (pair j.tree.root) vs v (ends_root v (ap (λ z. j.fits z v) (sym root) ∙ fit))))

  below_joint : (u v : ℕ) (p : Joint → Bool) → u < length j.tree.links → list_any (λ e. e.below == v && p e) (j.joints u) ≡ true → In (candidates j vs) (pair u v)
  unfolding candidates
  below_joint u v p inside h =
      let e = in_any (λ e. e.below == v && p e) (j.joints u) h in
      let same : e.0.below ≡ v = eqb-true e.0.below v (and_parts (e.0.below == v) (p e.0) e.2).0 in
      in_append_right (map (pair j.tree.root) vs) (ends j (range_with_len 0 (length j.tree.links))) (pair u v)
      (subst (λ z. In (ends j (range_with_len 0 (length j.tree.links))) (pair u z)) same
      (in_ends j u e.0 (range_with_len 0 (length j.tree.links)) (in_range 0 (length j.tree.links) u (omega arith) (omega (arith, inside))) e.1))

  reached_in : (k u v : ℕ) → reaches_within k j u v ≡ true → In (candidates j vs) (pair u v)
  reached_in zero u v h = absurd (let bad : false ≡ true = h in cc)
  reached_in (suc k) u v h = by (link_at j.tree u) refl
    where
      by : (o : Option TreeLink) → link_at j.tree u ≡ o → In (candidates j vs) (pair u v)
      by None e =
          let parts = and_parts (j.fits u v) (u == j.tree.root || false) (sym (reaches_loose j k u v e) ∙ h) in
          elim (or_cases (u == j.tree.root) false parts.1) [ inl same ↦ at_root u v same parts.0 | inr bad ↦ absurd (let no_bool : false ≡ true = bad in cc) ]
      by (Some l) e =
          let joint : Bool = list_any (λ x. x.below == v && reaches_within k j l.parent x.above) (j.joints u) in
          let parts = and_parts (j.fits u v) (u == j.tree.root || joint) (sym (reaches_up j k u v l e) ∙ h) in
          elim (or_cases (u == j.tree.root) joint parts.1) [
            | inl same ↦ at_root u v same parts.0
            | inr some ↦ below_joint u v (λ x. reaches_within k j l.parent x.above) (inside_of_reaches j is (suc k) u v h) some
          ]

-- ---- the bound

some_of : (b : Bool) (row : Row) → is_some (if b then Some row else None) ≡ b
some_of true row = refl
some_of false row = refl

pub len-le-reached : (j : Joined) (d : StateRows) → IsTree j.tree → IsExactOver j d → (vs : List ℕ) (most : ℕ) → ((v : ℕ) → j.fits j.tree.root v ≡ true → In vs v)
    → ((u : ℕ) → length (j.joints u) ≤ most) → len d.rows ≤ most * length j.tree.links + length vs
unfolding candidates
len-le-reached j d is exact vs most ends_root few =
    let n = length j.tree.links in
    let pairs = candidates j vs in
    let fewer = length-le_from_is_member (eq_by_cmp_equiv pair_cmp_total) (keys d.rows) pairs (distinct pair_cmp (entries d.rows) (entries_sorted d.rows)) among in
    let own = length-append (map (pair j.tree.root) vs) (ends j (range_with_len 0 n)) in
    let root = length-map vs (pair j.tree.root) in
    let others = length-ends j most few (range_with_len 0 n) in
    let count = ap (λ k. k * most) (length-range_with_len 0 n) in
    let rows = len-entries d.rows in
    let same = length-map (entries d.rows) (λ (e : (ℕ × ℕ) × Row). e.0) in
    omega (arith, fewer, own, root, others, count, rows, same)
  where
    reached : (u v : ℕ) → is_some (row_at d u v) ≡ true → reaches j u v ≡ true
    reached u v h = sym (some_of (reaches j u v) (record { ins = in_count j u v; outs = map (out_count j v) (children j.tree u) })) ∙ ap is_some (sym (exact.rows u v)) ∙ h

    among : (p : ℕ × ℕ) → list_any (eq_by_cmp pair_cmp p) (keys d.rows) ≡ true → list_any (eq_by_cmp pair_cmp p) (candidates j vs) ≡ true
    among p h =
        any_in (eq_by_cmp pair_cmp p) (candidates j vs) p (reached_in j is vs ends_root (length j.tree.links) p.0 p.1 (reached p.0 p.1 (contains_key-keys d.rows p ∙ h)))
        (ap is_eq (tied_itself pair_cmp_total p))

-- ---- of a graph and a pattern

pub fits-id : (q : PatternGraph) (u : ℕ) (g : Graph) (v : ℕ) → fits q u g v ≡ true → In (ids g) v
fits-id q u g v h =
    let labels = slice_index_or q.labels u [] in
    let w = in_any (λ (x : Vertex). x.id == v && is_within labels x.labels) g.vertices (and_parts _ _ h).1 in
    subst (λ z. In (ids g) z) (eqb-true w.0.id v (and_parts (w.0.id == v) (is_within labels w.0.labels) w.2).0) (in_mapped (λ (x : Vertex). x.id) g.vertices w.0 w.1)

pub length-filter_map : {X Y : Type 0} (f : X → Option Y) (xs : List X) → length (filter_map f xs) ≤ length xs
length-filter_map {X} {Y} f [] = omega arith
length-filter_map {X} {Y} f (x ∷ xs) = by (f x) (length-filter_map f xs)
  where
    by : (o : Option Y) → length (filter_map f xs) ≤ length xs → length (cons_option o (filter_map f xs)) ≤ suc (length xs)
    by None h = omega (arith, h)
    by (Some y) h = omega (arith, h)
