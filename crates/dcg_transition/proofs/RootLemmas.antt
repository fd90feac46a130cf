-- The rows of the root.
use Rattle.std.proofs.Common.{◌≡◌, ◌≢◌, ℕ, ◌+◌, ◌-◌, ◌^◌, ◌<◌, ◌≤◌, Bool, true, false, cond, ◌==◌, ◌&&◌, List, [], map, length, get_or, take, inl, inr, refl, sym, ap, subst, ◌∙◌, arith}
use Rattle.std.specs.Prelude.{◌⊎◌, Option, None, Some, count_by, slice_index, slice_get, IsPermutation}
use Rattle.std.specs.List.{sum_by}
use Rattle.std.specs.FinMap.{empty, get-empty}
use Rattle.std.specs.Cmp.{nat_eq_equiv}
use Rattle.std.proofs.lemmas.Bool.{eq-eqb, ne_eqb, lt-ltb, le-ltb, cases_eq, cases_lt}
use Rattle.std.proofs.lemmas.List.{length-map, length-take, take_all}
use Rattle.std.proofs.lemmas.List.Sums.{sum_by_more, count_by-le-length}
use Rattle.std.proofs.lemmas.List.Sorted.{sum_by-IsPermutation, length_permutation}
use Rattle.std.proofs.lemmas.List.FromFn.{get_or-map-range_with_len}
use Rattle.std.proofs.lemmas.Option.{get_or_from_slice_get, slice_get_within}
use Rattle.flux_model.specs.Graph.{Graph, ids}
use Rattle.flux_model.specs.Pattern.{PatternGraph, vertex_count, fits, fits_labels}
use Rattle.flux_model.specs.Tree.{QueryTree, children, BelongsTo}
use Rattle.flux_model.specs.States.{Joined, joined, reaches}
use Rattle.flux_model.specs.Exact.{Row, StateRows, pair_cmp, row_at, in_count}
use Rattle.flux_model.specs.declared.graph.Vertex.{Vertex}
use Rattle.flux_model.specs.declared.limits.Limits.{Limits}
use Rattle.graph_traits.specs.WithinLimits.{IsWithinLimits}
use Rattle.query_tree.specs.Depth.{depth}
use Rattle.query_tree.proofs.CallerLemmas.{depth-root}
use Rattle.dcg_store.specs.Moves.{in_raised}
use Rattle.dcg_store.proofs.StateLemmas.{inside_of_reaches}
use Rattle.dcg_transition.specs.Filled.{child_counts, begun, ins_at, AreBegun, HasMoreIns, counted_row}
use Rattle.dcg_transition.specs.Levels.{is_before, IsReached, IsCounted}
use Rattle.dcg_transition.specs.Roots.{with_labels, with_root_labels}
use Rattle.dcg_transition.proofs.CallerLemmas.{reaches-root}
use Rattle.graph_rows.proofs.SumLemmas.{sum_alike, sum_nothing, once, distinct_ids, listed_id}
use Rattle.dcg_transition.proofs.BegunLemmas.{ins_of, ins_is, more_twice, one_more}
use Rattle.dcg_transition.proofs.FittingLemmas.{fitting-few, fitting-count, root-fitting}
use Rattle.dcg_transition.proofs.LevelLemmas.{depth-not_root, before_first}
use Rattle.dcg_transition.proofs.ReachLemmas.{no_child, begun_row, vertex_of_fits}

-- ---- of distinct vertices one is counted once

module _ (f : ℕ → Bool) (w : ℕ) where
  turned : (b : Bool) → ◌≡◌ {A = ℕ} (cond (b && false) 1 0) 0
  turned true = refl
  turned false = refl

  one_term : (v : ℕ) → ◌≡◌ {A = ℕ} (cond (f v && v == w) 1 0) (cond (w == v) (cond (f w) 1 0) 0)
  one_term v = by (cases_eq v w)
    where
      by : (v ≡ w) ⊎ (v ≡ w → ⊥) → ◌≡◌ {A = ℕ} (cond (f v && v == w) 1 0) (cond (w == v) (cond (f w) 1 0) 0)
      by (inl same) =
          (λ i. cond (f (same i) && eq-eqb v w same i) 1 0) ∙ and_true (f w) ∙ sym (ap (λ b. cond b (cond (f w) 1 0) 0) (eq-eqb w v (sym same)))
        where
          and_true : (b : Bool) → ◌≡◌ {A = ℕ} (cond (b && true) 1 0) (cond b 1 0)
          and_true true = refl
          and_true false = refl
      by (inr other) =
          (λ i. cond (f v && ne_eqb v w other i) 1 0) ∙ turned (f v) ∙ sym (ap (λ b. cond b (cond (f w) 1 0) 0) (ne_eqb w v (λ same. other (sym same))))

  pub counted_once : (vs : List ℕ) → ((b : f w ≡ true) → sum_by (λ v. cond (w == v) 1 0) vs ≡ 1) → count_by (λ v. f v && v == w) vs ≡ cond (f w) 1 0
  counted_once vs there =
      sum_alike (λ v. cond (f v && v == w) 1 0) (λ v. cond (w == v) (cond (f w) 1 0) 0) vs one_term ∙ by (f w) refl
    where
      zero_either : (s : Bool) → ◌≡◌ {A = ℕ} (cond s 0 0) 0
      zero_either true = refl
      zero_either false = refl

      by : (b : Bool) → f w ≡ b → sum_by (λ v. cond (w == v) (cond b 1 0) 0) vs ≡ cond b 1 0
      by true h = there h
      by false h = sum_nothing (λ v. cond (w == v) 0 0) vs (λ v. zero_either (w == v))

module _ (q : PatternGraph) (t : QueryTree) (belongs : BelongsTo q t) (g : Graph) (labels : List (List ℕ)) (labels_is : slice_get q.labels t.root ≡ Some labels)
    (old : StateRows) (empty_is : old ≡ record { is_broken = false; children = child_counts t; rows = empty }) where
  abbrev to_root : Joined
  to_root = joined q t g

  no_row : (u v : ℕ) → row_at old u v ≡ None
  no_row u v = ap (λ d. row_at d u v) empty_is ∙ get-empty pair_cmp (u, v)

  no_ins : (u v : ℕ) → ins_at old u v ≡ 0
  no_ins u v = ap ins_of (no_row u v)

  pub root_begins : AreBegun old t.root
  root_begins v = no_row t.root v ∙ ap (begun (slice_index old.children t.root)) (sym (no_ins t.root v))

  fits_root : (w : ℕ) → fits q t.root g w ≡ fits_labels g labels w
  fits_root w =
      (λ i. lt-ltb t.root (vertex_count q) (slice_get_within q.labels t.root labels labels_is) i && fits_labels g (get_or_from_slice_get q.labels t.root labels [] labels_is i) w)

  root_reaches : (w : ℕ) → reaches to_root t.root w ≡ fits_labels g labels w
  root_reaches w = reaches-root to_root belongs.tree w ∙ fits_root w

  root_count : (w : ℕ) → in_count to_root t.root w ≡ 1
  root_count w = rw belongs.tree.top refl

  module _ (limits : Limits) (held : IsWithinLimits limits g) (listed : List ℕ) (each : IsPermutation listed (ids g)) (roots : List ℕ) (roots_is : roots ≡ with_root_labels q t g listed) where
    listed_roots : roots ≡ with_labels g labels listed
    listed_roots = roots_is ∙ root-fitting q t g listed labels labels_is

    pub root_few : length roots ≤ length g.vertices
    root_few =
        omega (
          arith,
          ap (λ (vs : List ℕ). length vs) listed_roots,
          fitting-few g labels listed,
          length_permutation listed (ids g) each,
          length-map g.vertices (λ (x : Vertex). x.id),
        )

    -- no in counter comes to its bound
    pub root_room : (i v : ℕ) (d : StateRows) (row : Row) → HasMoreIns t.root (λ w. count_by (λ x. x == w) (take i roots)) old d → row_at d t.root v ≡ Some row → row.ins < 2 ^ 32 - 1
    root_room i v d row grown e =
        let ins = ins_is d t.root v row e in
        omega (
          arith,
          ins,
          grown.ins v,
          no_ins t.root v,
          count_by-le-length (λ x. x == v) (take i roots),
          length-take i roots,
          root_few,
          held.within.vertices,
          held.fair.vertices.1,
        )

    pub root_next : (i v u : ℕ) (mid new : StateRows) → slice_get roots i ≡ Some v → u ≡ t.root → HasMoreIns t.root (λ w. count_by (λ x. x == w) (take i roots)) old mid → new ≡ in_raised mid u v
        → HasMoreIns t.root (λ w. count_by (λ x. x == w) (take (i + 1) roots)) old new
    root_next i v u mid new at root so_far raised =
        more_twice t.root (λ w. count_by (λ x. x == w) (take i roots)) (λ w. cond (w == v) 1 0) (λ w. count_by (λ x. x == w) (take (i + 1) roots)) old mid new so_far
        (one_more t.root v mid new so_far.begun (raised ∙ ap (λ x. in_raised mid x v) root))
        (λ w.
        let within = slice_get_within roots i v at in
        let here : ◌≡◌ {A = ℕ} (cond (get_or roots i v == w) 1 0) (cond (v == w) 1 0) = ap {B = ℕ} (λ x. cond (x == w) 1 0) (get_or_from_slice_get roots i v v at) in
        let flip : ◌≡◌ {A = ℕ} (cond (w == v) 1 0) (cond (v == w) 1 0) = ap (λ b. cond b 1 0) (nat_eq_equiv.symm w v) in
        omega (arith, sum_by_more (λ x. cond (x == w) 1 0) roots i v within, here, flip))

    pub root_reached : (i : ℕ) (new : StateRows) → length roots ≤ i → HasMoreIns t.root (λ w. count_by (λ x. x == w) (take i roots)) old new → IsReached to_root (is_before t 1 0) new
    root_reached i new end grown = record {
      whole = grown.beside.whole ∙ ap (λ (d : StateRows). d.is_broken) empty_is;
      children = grown.beside.children ∙ ap (λ (d : StateRows). d.children) empty_is;
      rows = rows;
    }
      where
        fitting : ℕ → ℕ → Bool
        fitting w v = fits_labels g labels v && v == w

        all : (w : ℕ) → ins_at new t.root w ≡ cond (fits_labels g labels w) 1 0
        all w =
            let taken = ap (count_by (λ x. x == w)) (take_all i roots end) in
            let among = ap (count_by (λ x. x == w)) listed_roots ∙ fitting-count g labels listed w in
            let over_ids = sum_by-IsPermutation (λ v. cond (fitting w v) 1 0) listed (ids g) each in
            let one = counted_once (λ v. fits_labels g labels v) w (ids g) (λ b. once w 1 (ids g) (distinct_ids g held.graph) (sym (listed_id g w) ∙ vertex_of_fits q t.root g w (fits_root w ∙ b))) in
            omega (arith, grown.ins w, no_ins t.root w, taken, among, over_ids, one)

        width : slice_index new.children t.root ≡ length (children t t.root)
        width =
            ap (λ (ns : List ℕ). slice_index ns t.root) (grown.beside.children ∙ ap (λ (d : StateRows). d.children) empty_is)
            ∙ get_or-map-range_with_len (λ c. length (children t c)) 0 (length t.links) t.root t.root 0 belongs.tree.root (omega arith)

        -- either one joint leads in, or none
        by_fit : (w : ℕ) (b : Bool) → reaches to_root t.root w ≡ b → begun (length (children t t.root)) (cond b 1 0) ≡ counted_row no_child to_root t.root w
        by_fit w true h = begun_row to_root t.root w 1 (sym (root_count w)) (lt-ltb 0 1 (let z : 0 < 1 = omega arith in z) ∙ sym h)
        by_fit w false h = sym (ap (λ b. cond b (Some (record { ins = in_count to_root t.root w; outs = map (λ c. 0) (children t t.root) })) None) h)

        own : (w : ℕ) → row_at new t.root w ≡ counted_row no_child to_root t.root w
        own w =
            grown.begun w ∙ (λ i. begun (width i) (all w i))
            ∙ by_fit w (fits_labels g labels w) (root_reaches w)

        first : is_before t 1 0 t.root ≡ true
        first = before_first t 1 t.root ∙ lt-ltb (depth t t.root) 1 (omega (arith, depth-root t))

        unreached : (x v : ℕ) (b : Bool) → length t.links ≤ x → reaches to_root x v ≡ b → b ≡ false
        unreached x v false high h = refl
        unreached x v true high h = absurd (omega (arith, inside_of_reaches to_root belongs.tree (length t.links) x v h, high))

        other_row : (x v : ℕ) → x ≢ t.root → None ≡ cond (is_before t 1 0 x) (counted_row no_child to_root x v) None
        other_row x v apart = by (cases_lt x (length t.links))
          where
            by : (x < length t.links) ⊎ (length t.links ≤ x) → None ≡ cond (is_before t 1 0 x) (counted_row no_child to_root x v) None
            by (inl low) =
                sym (ap (λ b. cond b (counted_row no_child to_root x v) None) (before_first t 1 x ∙ le-ltb (depth t x) 1 (depth-not_root t belongs.tree x low apart)))
            by (inr high) =
                let none : counted_row no_child to_root x v ≡ None = ap (λ b. cond b (Some (record { ins = in_count to_root x v; outs = map (λ c. 0) (children t x) })) None) (unreached x v (reaches to_root x v) high refl) in
                sym (ap (λ o. cond (is_before t 1 0 x) o None) none ∙ same_either (is_before t 1 0 x))
              where
                same_either : (b : Bool) → ◌≡◌ {A = Option Row} (cond b None None) None
                same_either true = refl
                same_either false = refl

        rows : (x v : ℕ) → row_at new x v ≡ cond (is_before t 1 0 x) (counted_row no_child to_root x v) None
        rows x v = by (cases_eq x t.root)
          where
            by : (x ≡ t.root) ⊎ (x ≡ t.root → ⊥) → row_at new x v ≡ cond (is_before t 1 0 x) (counted_row no_child to_root x v) None
            by (inl same) =
                subst (λ z. row_at new z v ≡ cond (is_before t 1 0 z) (counted_row no_child to_root z v) None) (sym same)
                (own v ∙ sym (ap (λ b. cond b (counted_row no_child to_root t.root v) None) first))
            by (inr apart) = grown.beside.others x v apart ∙ no_row x v ∙ other_row x v apart

-- ---- level by level

pub reached_alike : (j : Joined) (done also : ℕ → Bool) (d : StateRows) → ((x : ℕ) → done x ≡ also x) → IsReached j done d → IsReached j also d
reached_alike j done also d e is = record { whole = is.whole; children = is.children; rows = λ u v. is.rows u v ∙ ap (λ b. cond b (counted_row no_child j u v) None) (e u) }

pub all_reached : (j : Joined) (done : ℕ → Bool) (d : StateRows) → ((x : ℕ) → done x ≡ true) → IsReached j done d → IsCounted j no_child d
all_reached j done d e is = record { whole = is.whole; children = is.children; rows = λ u v. is.rows u v ∙ ap (λ b. cond b (counted_row no_child j u v) None) (e u) }
