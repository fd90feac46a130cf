-- What a search learns that gives the vertices one id after another, each tested by `joins` and `free`.
use Rattle.std.proofs.Common.{◌≡◌, ◌∙◌, refl, sym, ap, ℕ, zero, suc, ◌+◌, ◌<◌, ◌≤◌, Bool, cond, true, false, not, ◌&&◌, ◌||◌, ◌==◌, nat_eq, List, [], ◌∷◌, length, map, replicate, get_or, slice_index, Option, Some, None, subst, inl, inr, arith}
use Rattle.std.specs.Prelude.{◌⊎◌}
use Rattle.std.specs.List.{All, list_all, list_any, filter, range_with_len}
use Rattle.std.proofs.lemmas.Bool.{and_parts, and_from, or_parts, or_from, not-true, not_from_false, ne_eqb, eqb-true, eqb-false, cases_eq, both_ways}
use Rattle.std.proofs.lemmas.List.{get_or-map, get_or-set_other}
use Rattle.std.proofs.lemmas.List.Elements.{All-from_get_or, All-from_recursion}
use Rattle.std.proofs.lemmas.List.Folds.{Any-from_list_any}
use Rattle.std.proofs.lemmas.List.Sums.{list_all-from_AllPass}
use Rattle.std.proofs.lemmas.Option.{get_or_from_slice_get, slice_get-get_or}
use Rattle.flux_model.specs.Embedding.{image, keeps_edges, keeps_mode}
use Rattle.flux_model.specs.Graph.{Graph, has_triple}
use Rattle.flux_model.specs.Ordered.{are_distinct_by}
use Rattle.flux_model.specs.Partial.{id_of, with_id, stands_between, stands_where_given, keeps_non_tree, has_end, edge_joins, joins, same_id, is_free, keeps_mode_where_given}
use Rattle.flux_model.specs.Pattern.{PatternGraph, IsPattern, HasEnds, vertex_count}
use Rattle.flux_model.specs.Tree.{QueryTree, edge_at, link_at, non_tree, BelongsTo}
use Rattle.flux_model.specs.declared.pattern.Mode.{Mode}
use Rattle.flux_model.specs.declared.pattern.Mode.TheVariants.{Hom, Iso}
use Rattle.flux_model.specs.declared.pattern.PatternEdge.{PatternEdge}
use Rattle.flux_model.specs.declared.tree.TreeLink.{TreeLink}
use Rattle.query_tree.specs.Lists.{names, has_edge}

-- ---- no vertex has an id

none_of : (n u : ℕ) → id_of (replicate n None) u ≡ None
none_of zero u = refl
none_of (suc n) zero = refl
none_of (suc n) (suc u) = none_of n u

nothing_same : (m : List (Option ℕ)) → list_any (same_id None) m ≡ false
nothing_same [] = refl
nothing_same (o ∷ m) = nothing_same m

distinct_at_start : (n : ℕ) → are_distinct_by same_id (replicate n None) ≡ true
distinct_at_start zero = refl
distinct_at_start (suc n) = and_from _ _ (not_from_false _ (nothing_same (replicate n None))) (distinct_at_start n)

-- no two of no ids are the same
pub keeps_mode_at_start : (mode : Mode) (n : ℕ) → keeps_mode_where_given mode (replicate n None) ≡ true
keeps_mode_at_start Hom n = refl
keeps_mode_at_start Iso n = distinct_at_start n

-- where no id is given, no edge is tested
pub keeps_non_tree_at_start : (q : PatternGraph) (t : QueryTree) (g : Graph) (n : ℕ) → keeps_non_tree q t g (replicate n None) ≡ true
keeps_non_tree_at_start q t g n =
    list_all-from_AllPass (λ i. stands_where_given g (replicate n None) (edge_at q i)) (non_tree t) (λ k d h.
    let e = edge_at q (get_or (non_tree t) k d) in
    ap (λ o. stands_between g e.label o (id_of (replicate n None) e.head)) (none_of n e.tail))

-- ---- a vertex is given an id

absent_with : (o : Option ℕ) (m : List (Option ℕ)) (w x : ℕ) → list_any (same_id o) m ≡ false → same_id o (Some x) ≡ false → list_any (same_id o) (with_id m w x) ≡ false
absent_with o [] w x absent other = refl
absent_with o (p ∷ m) zero x absent other =
    or_from (same_id o (Some x)) (list_any (same_id o) m) other (or_parts (same_id o p) (list_any (same_id o) m) absent).1
absent_with o (p ∷ m) (suc w) x absent other =
    let parts = or_parts (same_id o p) (list_any (same_id o) m) absent in
    or_from (same_id o p) (list_any (same_id o) (with_id m w x)) parts.0 (absent_with o m w x parts.1 other)

other_way : (x : ℕ) (o : Option ℕ) → same_id (Some x) o ≡ false → same_id o (Some x) ≡ false
other_way x None e = refl
other_way x (Some y) e = ne_eqb y x (λ same. eqb-false x y e (sym same))

distinct_with : (m : List (Option ℕ)) (w x : ℕ) → list_any (same_id (Some x)) m ≡ false → are_distinct_by same_id m ≡ true → are_distinct_by same_id (with_id m w x) ≡ true
distinct_with [] w x absent distinct = refl
distinct_with (o ∷ m) zero x absent distinct =
    let others = and_parts (not (list_any (same_id o) m)) (are_distinct_by same_id m) distinct in
    let none = or_parts (same_id (Some x) o) (list_any (same_id (Some x)) m) absent in
    and_from (not (list_any (same_id (Some x)) m)) (are_distinct_by same_id m) (not_from_false _ none.1) others.1
distinct_with (o ∷ m) (suc w) x absent distinct =
    let others = and_parts (not (list_any (same_id o) m)) (are_distinct_by same_id m) distinct in
    let none = or_parts (same_id (Some x) o) (list_any (same_id (Some x)) m) absent in
    let alone = absent_with o m w x (not-true _ others.0) (other_way x o none.0) in
    and_from (not (list_any (same_id o) (with_id m w x))) (are_distinct_by same_id (with_id m w x)) (not_from_false _ alone) (distinct_with m w x none.1 others.1)

-- where x is free, no two vertices have the same id afterwards, if the mode asks for it
pub keeps_mode_with : (mode : Mode) (m : List (Option ℕ)) (w x : ℕ) → is_free mode m x ≡ true → keeps_mode_where_given mode m ≡ true → keeps_mode_where_given mode (with_id m w x) ≡ true
keeps_mode_with Hom m w x free kept = refl
keeps_mode_with Iso m w x free kept = distinct_with m w x (not-true _ free) kept

edge_stands_with : (g : Graph) (m : List (Option ℕ)) (w x : ℕ) (e : PatternEdge) → stands_where_given g m e ≡ true → edge_joins g m w x e ≡ true → stands_where_given g (with_id m w x) e ≡ true
edge_stands_with g m w x e stands joined = by (has_end w e) refl
  where
    by : (b : Bool) → has_end w e ≡ b → stands_where_given g (with_id m w x) e ≡ true
    by true h = ap (λ b. not b || stands_where_given g (with_id m w x) e) (sym h) ∙ joined
    by false h =
        let neither = or_parts (e.tail == w) (e.head == w) h in
        let tail : id_of (with_id m w x) e.tail ≡ id_of m e.tail = get_or-set_other m w e.tail (Some x) None (eqb-false e.tail w neither.0) in
        let head : id_of (with_id m w x) e.head ≡ id_of m e.head = get_or-set_other m w e.head (Some x) None (eqb-false e.head w neither.1) in
        ap (λ o. stands_between g e.label o (id_of (with_id m w x) e.head)) tail ∙ ap (λ o. stands_between g e.label (id_of m e.tail) o) head ∙ stands

all_both : (p r s : ℕ → Bool) → ((i : ℕ) → p i ≡ true → r i ≡ true → s i ≡ true) → (is : List ℕ) → list_all p is ≡ true → list_all r is ≡ true → list_all s is ≡ true
all_both p r s both [] ps rs = refl
all_both p r s both (i ∷ is) ps rs =
    let here = and_parts (p i) (list_all p is) ps in
    let there = and_parts (r i) (list_all r is) rs in
    and_from (s i) (list_all s is) (both i here.0 there.0) (all_both p r s both is here.1 there.1)

-- where x joins, each non-tree edge stands afterwards
pub keeps_non_tree_with : (q : PatternGraph) (t : QueryTree) (g : Graph) (m : List (Option ℕ)) (w x : ℕ) → joins q t g m w x ≡ true → keeps_non_tree q t g m ≡ true → keeps_non_tree q t g (with_id m w x) ≡ true
keeps_non_tree_with q t g m w x joined kept =
    all_both (λ i. stands_where_given g m (edge_at q i)) (λ i. edge_joins g m w x (edge_at q i)) (λ i. stands_where_given g (with_id m w x) (edge_at q i)) (λ i. edge_stands_with g m w x (edge_at q i)) (non_tree t) kept joined

-- ---- every vertex has an id

absent_at_end : (x : ℕ) (ids : List ℕ) → list_any (same_id (Some x)) (map Some ids) ≡ list_any (nat_eq x) ids
absent_at_end x [] = refl
absent_at_end x (y ∷ ids) = ap (λ b. nat_eq x y || b) (absent_at_end x ids)

distinct_at_end : (ids : List ℕ) → are_distinct_by same_id (map Some ids) ≡ are_distinct_by nat_eq ids
distinct_at_end [] = refl
distinct_at_end (x ∷ ids) =
    ap (λ b. not b && are_distinct_by same_id (map Some ids)) (absent_at_end x ids) ∙ ap (λ b. not (list_any (nat_eq x) ids) && b) (distinct_at_end ids)

-- where all ids are given, the mode is kept exactly where the ids keep it
pub keeps_mode_at_end : (mode : Mode) (ids : List ℕ) → keeps_mode_where_given mode (map Some ids) ≡ keeps_mode mode ids
keeps_mode_at_end Hom ids = refl
keeps_mode_at_end Iso ids = distinct_at_end ids

id_at_end : (ids : List ℕ) (u : ℕ) → u < length ids → id_of (map Some ids) u ≡ Some (slice_index ids u)
id_at_end ids u h = get_or-map Some ids u 0 None h

-- where all ids are given, an edge stands exactly where its triple does
pub stands_at_end : (g : Graph) (ids : List ℕ) (e : PatternEdge) → HasEnds (length ids) e → stands_where_given g (map Some ids) e ≡ has_triple g (image ids e)
stands_at_end g ids e ends =
    ap (λ o. stands_between g e.label o (id_of (map Some ids) e.head)) (id_at_end ids e.tail ends.0)
    ∙ ap (λ o. stands_between g e.label (Some (slice_index ids e.tail)) o) (id_at_end ids e.head ends.1)

-- what passes each number that is chosen passes one that would be chosen
passes_each : (p chosen : ℕ → Bool) (a n i : ℕ) → list_all p (filter chosen (range_with_len a n)) ≡ true → a ≤ i → i < a + n → chosen i ≡ true → p i ≡ true
passes_each p chosen a zero i all low high c = absurd (omega arith)
passes_each p chosen a (suc n) i all low high c = by (chosen a) refl (cases_eq i a) (passes_each p chosen (a + 1) n i)
  where
    others : List ℕ
    others = filter chosen (range_with_len (a + 1) n)

    first : (b : Bool) → chosen a ≡ b → list_all p (cond b (a ∷ others) others) ≡ true
    first b e = subst (λ v. list_all p (cond v (a ∷ others) others) ≡ true) e all

    by : (b : Bool) → chosen a ≡ b → (i ≡ a) ⊎ (i ≡ a → ⊥) → (list_all p others ≡ true → a + 1 ≤ i → i < a + 1 + n → chosen i ≡ true → p i ≡ true) → p i ≡ true
    by true e (inl same) rest = ap p same ∙ (and_parts (p a) (list_all p others) (first true e)).0
    by true e (inr other) rest = rest (and_parts (p a) (list_all p others) (first true e)).1 (omega arith) (omega arith) c
    by false e (inl same) rest = absurd (both_ways (chosen i) (ap chosen same ∙ e) c)
    by false e (inr other) rest = rest (first false e) (omega arith) (omega arith) c

-- where the triples of the tree's edges stand too, every edge of the pattern stands
module _ (q : PatternGraph) (t : QueryTree) (g : Graph) (ids : List ℕ) (is : IsPattern q) (belongs : BelongsTo q t) (full : length ids ≡ vertex_count q)
    (kept : keeps_non_tree q t g (map Some ids) ≡ true) (links : (u : ℕ) (l : TreeLink) → link_at t u ≡ Some l → has_triple g (image ids (edge_at q l.edge)) ≡ true) where
  ends_at : (i : ℕ) → i < length q.edges → HasEnds (length ids) (edge_at q i)
  ends_at i h =
      let each : All (HasEnds (vertex_count q)) q.edges = All-from_recursion (HasEnds (vertex_count q)) q.edges is.ends in
      subst (λ n. HasEnds n (edge_at q i)) (sym full) (each i (record { tail = 0; label = []; head = 0 }) h)

  edge_stands : (i : ℕ) → i < length q.edges → has_triple g (image ids (edge_at q i)) ≡ true
  edge_stands i h = by (has_edge t i) refl
    where
      linked : (u : ℕ) (o : Option TreeLink) → link_at t u ≡ o → names i o ≡ true → has_triple g (image ids (edge_at q i)) ≡ true
      linked u None e named = absurd cc
      linked u (Some l) e named = ap (λ k. has_triple g (image ids (edge_at q k))) (sym (eqb-true l.edge i named)) ∙ links u l e

      by : (b : Bool) → has_edge t i ≡ b → has_triple g (image ids (edge_at q i)) ≡ true
      by true e =
          let found = Any-from_list_any (names i) t.links e in
          linked found.0 found.1 (get_or_from_slice_get t.links found.0 found.1 None (slice_get-get_or t.links found.0 found.1 found.2 ∙ ap Some found.3)) found.4
      by false e =
          let stands = passes_each (λ k. stands_where_given g (map Some ids) (edge_at q k)) (λ k. not (has_edge t k)) 0 t.edge_count i kept (omega arith) (omega (arith, belongs.edges)) (not_from_false _ e) in
          sym (stands_at_end g ids (edge_at q i) (ends_at i h)) ∙ stands

  -- where all ids are given, each edge has its triple
  pub keeps_edges_at_end : keeps_edges q g ids ≡ true
  keeps_edges_at_end =
      list_all-from_AllPass (λ e. has_triple g (image ids e)) q.edges (All-from_get_or (λ e. has_triple g (image ids e) ≡ true) q.edges (record { tail = 0; label = []; head = 0 }) edge_stands)
