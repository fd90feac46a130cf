-- The counts of a pass, by the vertices that are listed, and what a vertex fits.
use Rattle.std.proofs.Common.{◌≡◌, ℕ, ◌+◌, ◌*◌, ◌<◌, ◌≤◌, ◌^◌, ◌==◌, Bool, true, false, cond, ◌&&◌, ◌||◌, List, [], ◌∷◌, ◌++◌, length, take, drop, Some, refl, sym, ◌∙◌, ap, subst, arith}
use Rattle.std.specs.Prelude.{count_by, map, slice_get, nat_eq, IsPermutation}
use Rattle.std.specs.Cmp.{nat_eq_equiv}
use Rattle.std.specs.List.{sum_by, list_any, find, AllByRecursion, IsDistinct}
use Rattle.std.proofs.lemmas.Bool.{eqb-true}
use Rattle.std.proofs.lemmas.List.{length-map, length-take, take_all, take_at}
use Rattle.std.proofs.lemmas.List.Sums.{sum_by-cons, sum_by_more, length-filter, count_by-le-length}
use Rattle.std.proofs.lemmas.List.Sorted.{sum_by-IsPermutation, length_permutation}
use Rattle.std.proofs.lemmas.Option.{get_or_from_slice_get, slice_get_within}
use Rattle.flux_model.specs.Graph.{Graph, IsGraph, ids}
use Rattle.flux_model.specs.Labels.{is_within}
use Rattle.flux_model.specs.declared.graph.Vertex.{Vertex}
use Rattle.flux_model.specs.declared.graph.Triple.{Triple}
use Rattle.flux_model.specs.declared.limits.Limits.{Limits}
use Rattle.graph_traits.specs.WithinLimits.{IsWithinLimits}
use Rattle.graph_traits.specs.Rows.{triples_from, vertex_of_id}
use Rattle.graph_rows.specs.declared.direction.Direction.TheVariants.{Out}
use Rattle.graph_rows.proofs.RowSumLemmas.{count_of_all}
use Rattle.graph_rows.proofs.SumLemmas.{distinct_ids}
use Rattle.label_cards.specs.Plans.{labels_of, fits_told, fits_set}
use Rattle.label_cards.specs.declared.plan.LabelSet.{LabelSet}

-- what a vector holds after its slice was written
pub written : {X : Type 0} (n : ℕ) (new old : List X) → length new ≡ n → take n (new ++ drop (length new) old) ≡ new
written n new old e = take_at new (drop (length new) old) n e

-- one place further
pub sum_turn : {X : Type 0} (f : X → ℕ) (xs : List X) (i : ℕ) (x : X) (old new : ℕ) → slice_get xs i ≡ Some x → old ≡ sum_by f (take i xs) → new ≡ old + f x → new ≡ sum_by f (take (i + 1) xs)
sum_turn f xs i x old new e before grown =
    let within : i < length xs = slice_get_within xs i x e in
    omega (arith, sum_by_more f xs i x within, ap f (get_or_from_slice_get xs i x x e), before, grown)

-- ---- what a vertex fits

module _ (v : ℕ) (set labels : List (List ℕ)) where
  abbrev fit : Vertex → Bool
  fit w = w.id == v && is_within set w.labels

  none-fits : (ws : List Vertex) → AllByRecursion (λ y. nat_eq v y ≡ false) (map (λ (w : Vertex). w.id) ws) → list_any fit ws ≡ false
  none-fits [] h = refl
  none-fits (w ∷ ws) h = λ i. ((nat_eq_equiv.symm w.id v ∙ h.0) i && is_within set w.labels) || none-fits ws h.1 i

  or-false : (b : Bool) → (b || false) ≡ b
  or-false true = refl
  or-false false = refl

  one-fits : (ws : List Vertex) → IsDistinct nat_eq (map (λ (w : Vertex). w.id) ws) → find (λ (w : Vertex). w.id == v) ws ≡ Some (record { id = v; labels = labels }) → list_any fit ws ≡ is_within set labels
  unfolding IsDistinct
  one-fits [] distinct e = cc
  one-fits (w ∷ ws) distinct e = by (w.id == v) refl e (one-fits ws distinct.1)
    where
      by : (b : Bool) → (w.id == v) ≡ b → cond b (Some w) (find (λ (w : Vertex). w.id == v) ws) ≡ Some (record { id = v; labels = labels })
          → (find (λ (w : Vertex). w.id == v) ws ≡ Some (record { id = v; labels = labels }) → list_any fit ws ≡ is_within set labels) → ((b && is_within set w.labels) || list_any fit ws) ≡ is_within set labels
      by true is e later =
          let others : AllByRecursion (λ y. nat_eq v y ≡ false) (map (λ (w : Vertex). w.id) ws) = subst (λ z. AllByRecursion (λ y. nat_eq z y ≡ false) (map (λ (w : Vertex). w.id) ws)) (eqb-true w.id v is) distinct.0 in
          let here : w ≡ record { id = v; labels = labels } = cc in
          ap (λ b. is_within set w.labels || b) (none-fits ws others) ∙ or-false (is_within set w.labels) ∙ ap (λ (w : Vertex). is_within set w.labels) here
      by false is e later = later e

-- the labels of a vertex tell which sets it fits
pub fit-here : (g : Graph) (sets : List LabelSet) (c v : ℕ) (set : LabelSet) (labels : List (List ℕ)) → IsGraph g → slice_get sets c ≡ Some set
    → vertex_of_id g v ≡ Some (record { id = v; labels = labels }) → is_within set.labels.now labels ≡ fits_set sets g c v
fit-here g sets c v set labels is at found =
    sym (one-fits v set.labels.now labels g.vertices (distinct_ids g is) found) ∙ ap (λ o. fits_told g (labels_of o) v) (sym at)

-- ---- sums over the vertices that are listed

module _ (f : Triple → Bool) (g : Graph) where
  row_within : (v : ℕ) → length (triples_from g v) ≤ length g.triples
  row_within v =
      omega (arith, length-filter (λ (t : Triple). t.src == v) g.triples, count_by-le-length (λ (t : Triple). t.src == v) g.triples)

  rows_within : (vs : List ℕ) → length g.triples ≤ 4194304 → sum_by (λ w. count_by f (triples_from g w)) vs ≤ length vs * 4194304
  rows_within [] few = omega arith
  rows_within (v ∷ vs) few =
      omega (arith, sum_by-cons (λ w. count_by f (triples_from g w)) v vs, count_by-le-length f (triples_from g v), row_within v, few, rows_within vs few)

  pub rows_room : (limits : Limits) → IsWithinLimits limits g → (listed : List ℕ) (i v : ℕ) → i < length g.vertices
      → sum_by (λ w. count_by f (triples_from g w)) (take i listed) + length (triples_from g v) < 2 ^ 64
  rows_room limits held listed i v below =
      let few : length g.triples ≤ 4194304 = omega (arith, held.within.triples, held.fair.edges.1) in
      omega (arith, rows_within (take i listed) few, length-take i listed, row_within v, few, below, held.within.vertices, held.fair.vertices.1)

module _ (g : Graph) (h : IsGraph g) (listed : List ℕ) (i : ℕ) (all : IsPermutation listed (ids g)) (end : length g.vertices ≤ i) where
  over_all : take i listed ≡ listed
  over_all = take_all i listed (omega (arith, length_permutation listed (ids g) all, length-map g.vertices (λ (v : Vertex). v.id), end))

  -- the triples are counted
  pub all_triples : (f : Triple → Bool) (n : ℕ) → n ≡ sum_by (λ w. count_by f (triples_from g w)) (take i listed) → n ≡ count_by f g.triples
  all_triples f n is = is ∙ ap (sum_by (λ w. count_by f (triples_from g w))) over_all ∙ count_of_all f Out g h listed all

  -- the vertices are counted
  pub all_vertices : (f : ℕ → Bool) (n : ℕ) → n ≡ count_by f (take i listed) → n ≡ count_by f (ids g)
  all_vertices f n is = is ∙ ap (count_by f) over_all ∙ sym (sum_by-IsPermutation (λ v. cond (f v) 1 0) listed (ids g) all)
