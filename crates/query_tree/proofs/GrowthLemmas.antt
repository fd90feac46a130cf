-- A tree that grows step by step comes to be a tree of the pattern.
use Rattle.std.proofs.Common.{◌≡◌, ℕ, zero, suc, ◌+◌, ◌<◌, ◌≤◌, Bool, true, false, ◌||◌, ◌&&◌, ◌==◌, List, [], ◌∷◌, length, replicate, get_or, Option, Some, None, is_some, slice_index, length-set, refl, sym, ap, subst, ◌∙◌, inl, inr, arith}
use Rattle.std.specs.Prelude.{◌⊎◌}
use Rattle.std.specs.Option.{unwrap_or}
use Rattle.std.specs.List.{filter, range_with_len, AllByRecursion}
use Rattle.std.proofs.Math.Bool.{or-false}
use Rattle.std.proofs.lemmas.Bool.{cases_eq, cases_lt, eq-eqb, or_left, or_right, and_from}
use Rattle.std.proofs.lemmas.List.{get_or-replicate, get_or_past, length-replicate}
use Rattle.flux_model.specs.Pattern.{PatternGraph, vertex_count, HasEnds, IsPattern}
use Rattle.flux_model.specs.Tree.{QueryTree, least, edge_at, link_at, is_placed, crosses, crossing, with_link, next_tree, tree_after, root_of, tree_for, hangs_within, is_between, IsLinkOf, BelongsTo}
use Rattle.flux_model.specs.declared.tree.TreeLink.{TreeLink}
use Rattle.query_tree.proofs.NumberLemmas.{all_numbers, count_all, count_less}
use Rattle.query_tree.proofs.LeastLemmas.{least_none, least_passes}
use Rattle.query_tree.proofs.HangLemmas.{hung_from, link_new, link_old, other_placed, placed_old, placed_new, placed_before, hangs_kept, hangs_new, hangs_longer}
use Rattle.query_tree.proofs.SpanLemmas.{cross_cases, all_placed}

eqb-refl : (u : ℕ) → (u == u) ≡ true
eqb-refl u = eq-eqb u u refl

ends_same : (u v : ℕ) → (u == u && v == v) ≡ true
ends_same u v = and_from (u == u) (v == v) (eqb-refl u) (eqb-refl v)

root_placed : (t : QueryTree) → is_placed t t.root ≡ true
root_placed t = or_left (t.root == t.root) (is_some (link_at t t.root)) (eqb-refl t.root)

AllByRecursion-at : {X : Type 0} (P : X → Type 0) (xs : List X) (i : ℕ) (d : X) → AllByRecursion P xs → i < length xs → P (get_or xs i d)
AllByRecursion-at P [] i d a h = absurd (omega arith)
AllByRecursion-at P (x ∷ xs) zero d a h = a.0
AllByRecursion-at P (x ∷ xs) (suc i) d a h = AllByRecursion-at P xs i d a.1 (omega arith)

-- both ends of an edge are vertices
pub edge_ends : (q : PatternGraph) → IsPattern q → (i : ℕ) → i < length q.edges → HasEnds (vertex_count q) (edge_at q i)
edge_ends q is i h = AllByRecursion-at (HasEnds (vertex_count q)) q.edges i (record { tail = 0; label = []; head = 0 }) is.ends h

-- ---- one step

-- a tree after k steps
pub record IsGrowing (q : PatternGraph) (k : ℕ) (t : QueryTree) : Type 0 where
  pub count : length t.links ≡ vertex_count q
  pub edges : t.edge_count ≡ length q.edges
  pub root : t.root < vertex_count q
  pub top : link_at t t.root ≡ None
  pub links : (u : ℕ) (l : TreeLink) → link_at t u ≡ Some l → IsLinkOf q u l
  pub hanging : (u : ℕ) → is_placed t u ≡ true → hangs_within k t u ≡ true
  pub many : k ≤ length (filter (is_placed t) (range_with_len 0 (vertex_count q)))

module _ (q : PatternGraph) (k : ℕ) (t : QueryTree) (old : IsGrowing q k t) where
  -- vertex c is hung from a vertex that is placed
  module _ (c : ℕ) (l : TreeLink) (inside : c < vertex_count q) (free : is_placed t c ≡ false) (held : is_placed t l.parent ≡ true) (link : IsLinkOf q c l) where
    within : c < length t.links
    within = omega (arith, old.count)

    hung_links : (u : ℕ) (m : TreeLink) → link_at (hung_from t c l) u ≡ Some m → IsLinkOf q u m
    hung_links u m e = by (cases_eq u c)
      where
        by : (u ≡ c) ⊎ (u ≡ c → ⊥) → IsLinkOf q u m
        by (inl same) =
            let there : link_at (hung_from t c l) u ≡ link_at (hung_from t c l) c = ap (link_at (hung_from t c l)) same in
            let new : link_at (hung_from t c l) c ≡ Some l = link_new t c l within free in
            let which : l ≡ m = cc in
            subst (λ v. IsLinkOf q v m) (sym same) (subst (λ x. IsLinkOf q c x) which link)
        by (inr other) = old.links u m (sym (link_old t c l within free u other) ∙ e)

    hung_hanging : (u : ℕ) → is_placed (hung_from t c l) u ≡ true → hangs_within (suc k) (hung_from t c l) u ≡ true
    hung_hanging u h = by (cases_eq u c)
      where
        by : (u ≡ c) ⊎ (u ≡ c → ⊥) → hangs_within (suc k) (hung_from t c l) u ≡ true
        by (inl same) = subst (λ v. hangs_within (suc k) (hung_from t c l) v ≡ true) (sym same) (hangs_new t c l within free k (old.hanging l.parent held))
        by (inr other) = hangs_longer (hung_from t c l) k u (hangs_kept t c l within free k u (old.hanging u (placed_before t c l within free u other h)))

    hung_growing : IsGrowing q (suc k) (hung_from t c l)
    hung_growing = record {
      count = length-set t.links c (Some l) ∙ old.count;
      edges = old.edges;
      root = old.root;
      top = link_old t c l within free t.root (other_placed t c l within free t.root (root_placed t)) ∙ old.top;
      links = hung_links;
      hanging = hung_hanging;
      many = omega (arith, old.many, count_less (is_placed t) (is_placed (hung_from t c l)) (placed_old t c l within free) 0 (vertex_count q) c (omega arith) (omega arith) free (placed_new t c l within free));
    }

  module _ (is : IsPattern q) where
    -- edge i crosses
    link_growing : (i : ℕ) → i < length q.edges → crosses t (edge_at q i) ≡ true → IsGrowing q (suc k) (with_link q t i)
    link_growing i h crossed = by (cross_cases (is_placed t (edge_at q i).tail) (is_placed t (edge_at q i).head) crossed)
      where
        ends : HasEnds (vertex_count q) (edge_at q i)
        ends = edge_ends q is i h

        from_tail : is_placed t (edge_at q i).tail ≡ true → with_link q t i ≡ hung_from t (edge_at q i).head (record { parent = (edge_at q i).tail; edge = i })
        from_tail p = rw p refl

        from_head : is_placed t (edge_at q i).tail ≡ false → with_link q t i ≡ hung_from t (edge_at q i).tail (record { parent = (edge_at q i).head; edge = i })
        from_head p = rw p refl

        down : is_between (edge_at q i) (edge_at q i).head (edge_at q i).tail ≡ true
        down =
            or_right ((edge_at q i).tail == (edge_at q i).head && (edge_at q i).head == (edge_at q i).tail) ((edge_at q i).tail == (edge_at q i).tail && (edge_at q i).head == (edge_at q i).head)
            (ends_same (edge_at q i).tail (edge_at q i).head)

        up : is_between (edge_at q i) (edge_at q i).tail (edge_at q i).head ≡ true
        up =
            or_left ((edge_at q i).tail == (edge_at q i).tail && (edge_at q i).head == (edge_at q i).head) ((edge_at q i).tail == (edge_at q i).head && (edge_at q i).head == (edge_at q i).tail)
            (ends_same (edge_at q i).tail (edge_at q i).head)

        by : ((is_placed t (edge_at q i).tail ≡ true) × (is_placed t (edge_at q i).head ≡ false)) ⊎ ((is_placed t (edge_at q i).tail ≡ false) × (is_placed t (edge_at q i).head ≡ true)) → IsGrowing q (suc k) (with_link q t i)
        by (inl two) =
            subst (IsGrowing q (suc k)) (sym (from_tail two.0)) (hung_growing (edge_at q i).head (record { parent = (edge_at q i).tail; edge = i }) ends.1 two.1 two.0 (record { edge = h; between = down }))
        by (inr two) =
            subst (IsGrowing q (suc k)) (sym (from_head two.0)) (hung_growing (edge_at q i).tail (record { parent = (edge_at q i).head; edge = i }) ends.0 two.0 two.1 (record { edge = h; between = up }))

    -- none crosses
    same_growing : suc k ≤ vertex_count q → crossing q t ≡ [] → IsGrowing q (suc k) t
    same_growing few closed = record {
      count = old.count;
      edges = old.edges;
      root = old.root;
      top = old.top;
      links = old.links;
      hanging = λ u h. hangs_longer t k u (old.hanging u h);
      many = omega (arith, count_all (is_placed t) 0 (vertex_count q) (λ u h. all_placed q t closed is.connected t.root old.root (root_placed t) u (omega arith)));
    }

    pub next_growing : (cards : List ℕ) → suc k ≤ vertex_count q → IsGrowing q (suc k) (next_tree q cards t)
    next_growing cards few = by (least (slice_index cards) (crossing q t)) refl
      where
        by : (o : Option ℕ) → least (slice_index cards) (crossing q t) ≡ o → IsGrowing q (suc k) (next_tree q cards t)
        by None e =
            let stays : next_tree q cards t ≡ t = rw e refl in
            subst (IsGrowing q (suc k)) (sym stays) (same_growing few (least_none (slice_index cards) (crossing q t) e))
        by (Some i) e =
            let grows : next_tree q cards t ≡ with_link q t i = rw e refl in
            let two : (i < length q.edges) × (crosses t (edge_at q i) ≡ true) = least_passes (slice_index cards) (λ j. crosses t (edge_at q j)) (length q.edges) i e in
            subst (IsGrowing q (suc k)) (sym grows) (link_growing i two.0 two.1)

-- ---- all steps

-- growing stays growing, one vertex more at each step
pub after_growing : (q : PatternGraph) (is : IsPattern q) (cards : List ℕ) (j k : ℕ) (t : QueryTree) → k + j ≤ vertex_count q → IsGrowing q k t → IsGrowing q (k + j) (tree_after j q cards t)
after_growing q is cards zero k t few g = subst (λ n. IsGrowing q n t) (omega arith) g
after_growing q is cards (suc j) k t few g =
    subst (λ n. IsGrowing q n (tree_after j q cards (next_tree q cards t))) (omega arith)
    (after_growing q is cards j (suc k) (next_tree q cards t) (omega arith) (next_growing q k t g is cards (omega arith)))

-- the root alone
module _ (q : PatternGraph) (r : ℕ) (inside : r < vertex_count q) where
  abbrev start : QueryTree
  start = record { root = r; links = replicate (vertex_count q) None; edge_count = length q.edges }

  no_link : (u : ℕ) → link_at start u ≡ None
  no_link u = by (cases_lt u (vertex_count q))
    where
      by : (u < vertex_count q) ⊎ (vertex_count q ≤ u) → link_at start u ≡ None
      by (inl h) = get_or-replicate (vertex_count q) u None None h
      by (inr h) = get_or_past (replicate (vertex_count q) None) u None (let none : Option TreeLink = None in omega (arith, length-replicate (vertex_count q) none))

  start_growing : IsGrowing q 0 start
  start_growing = record {
    count = length-replicate (vertex_count q) None;
    edges = refl;
    root = inside;
    top = no_link r;
    links = λ u l e. let none = no_link u in absurd cc;
    hanging = λ u h. sym (ap (λ o. u == r || is_some o) (no_link u) ∙ or-false (u == r)) ∙ h;
    many = omega arith;
  }

root_within : (q : PatternGraph) (edges vertices : List ℕ) → 1 ≤ vertex_count q → root_of q edges vertices < vertex_count q
root_within q edges vertices some = by (least (slice_index edges) (range_with_len 0 (length q.edges))) refl
  where
    is_end : ℕ → ℕ → Bool
    is_end i u = u == (edge_at q i).tail || u == (edge_at q i).head

    end_within : (i : ℕ) (o : Option ℕ) → least (slice_index vertices) (filter (is_end i) (range_with_len 0 (vertex_count q))) ≡ o → unwrap_or o 0 < vertex_count q
    end_within i None e = omega arith
    end_within i (Some u) e = (least_passes (slice_index vertices) (is_end i) (vertex_count q) u e).0

    by : (o : Option ℕ) → least (slice_index edges) (range_with_len 0 (length q.edges)) ≡ o → root_of q edges vertices < vertex_count q
    by None e = rw e (omega arith)
    by (Some i) e = rw e (end_within i (least (slice_index vertices) (filter (is_end i) (range_with_len 0 (vertex_count q)))) refl)

belongs : (q : PatternGraph) (t : QueryTree) → IsGrowing q (vertex_count q) t → BelongsTo q t
belongs q t g = record {
  tree = record {
    root = omega (arith, g.root, g.count);
    top = g.top;
    hanging = λ u h. subst (λ n. hangs_within n t u ≡ true) (sym g.count) (g.hanging u (all_numbers (is_placed t) 0 (vertex_count q) g.many u (omega arith) (omega (arith, g.count))));
  };
  vertices = g.count;
  edges = g.edges;
  links = g.links;
}

-- the tree of the definition is a tree of the pattern
pub tree_belongs : (q : PatternGraph) → IsPattern q → (edges vertices : List ℕ) → BelongsTo q (tree_for q edges vertices)
tree_belongs q is edges vertices =
    belongs q (tree_for q edges vertices)
    (subst (λ n. IsGrowing q n (tree_for q edges vertices)) (omega arith)
    (after_growing q is edges (vertex_count q) 0 (start q (root_of q edges vertices) (root_within q edges vertices is.some_vertex)) (omega arith) (start_growing q (root_of q edges vertices) (root_within q edges vertices is.some_vertex))))
