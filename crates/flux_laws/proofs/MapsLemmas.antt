-- An embedding is a map of the pattern into the graph.
use Rattle.std.proofs.Common.{◌≡◌, ℕ, zero, suc, ◌<◌, Bool, true, false, not, ◌||◌, ◌&&◌, ◌==◌, List, [], ◌∷◌, length, refl, sym, ◌∙◌, ap, arith, get_or}
use borrow.Author.Tests.{eqb-true}
use Rattle.std.specs.Cmp.Lexicographic.{nat_list_cmp_total, pointwise}
use Rattle.std.specs.List.{Any, list_any}
use Rattle.std.proofs.lemmas.Bool.Decides.{nat_tests}
use Rattle.std.proofs.lemmas.List.Folds.{Any-from_list_any, list_any-from_Any}
use Rattle.std.proofs.lemmas.Map.Lookups.{exact_bytes}
use Rattle.flux_model.specs.Text.{text_cmp}
use Rattle.flux_model.specs.Ordered.{is_in, are_distinct_by}
use Rattle.flux_model.specs.Labels.{is_within}
use Rattle.flux_model.specs.Graph.{Graph, triple_cmp, has_triple}
use Rattle.flux_model.specs.Pattern.{fits_labels}
use Rattle.flux_model.specs.Embedding.{is_embedding, fit_all, keeps_edges, keeps_mode, image}
use Rattle.flux_model.specs.declared.graph.Vertex.{Vertex}
use Rattle.flux_model.specs.declared.pattern.Mode.{Mode}
use Rattle.flux_model.specs.declared.pattern.Mode.TheVariants.{Hom, Iso}
use Rattle.flux_model.specs.declared.pattern.PatternEdge.{PatternEdge}
use Rattle.flux_laws.specs.EmbeddingsLaws.{HasLabelled, MapsInto, EmbeddingsAreMaps}
use Rattle.flux_laws.proofs.TestLemmas.{both}
use Rattle.flux_laws.proofs.MemberLemmas.{each_passes, all_pass, is_there, is_found}
use Rattle.flux_laws.proofs.GraphsLemmas.{triple_exact}
use Rattle.flux_laws.proofs.SetsLemmas.{triple_total}

-- ---- labels

has_labelled : (g : Graph) (labels : List (List ℕ)) (id : ℕ) → fits_labels g labels id ≡ true → HasLabelled g id labels
has_labelled g labels id h = from (Any-from_list_any (λ (v : Vertex). v.id == id && is_within labels v.labels) g.vertices h)
  where
    from : Any (λ (v : Vertex). (v.id == id && is_within labels v.labels) ≡ true) g.vertices → HasLabelled g id labels
    from a =
        let two = both (a.1.id == id) (is_within labels a.1.labels) a.4 in (
          a.1,
          (a.0, a.2, a.3),
          eqb-true a.1.id id two.0,
          λ label c. is_there text_cmp nat_list_cmp_total exact_bytes label a.1.labels (each_passes (λ l. is_in text_cmp l a.1.labels) labels label two.1 c),
        )

eqb-same : (a b : ℕ) → a ≡ b → (a == b) ≡ true
eqb-same a b e = grind (arith, nat_tests)

labelled_fits : (g : Graph) (labels : List (List ℕ)) (id : ℕ) → HasLabelled g id labels → fits_labels g labels id ≡ true
labelled_fits g labels id h =
    let v : Vertex = h.0 in
    let same : (v.id == id) ≡ true = eqb-same v.id id h.2 in
    let within : is_within labels v.labels ≡ true = all_pass (λ l. is_in text_cmp l v.labels) labels (λ label c. is_found text_cmp nat_list_cmp_total label v.labels (h.3 label c)) in
    list_any-from_Any (λ (w : Vertex). w.id == id && is_within labels w.labels) g.vertices (h.1.0, v, h.1.1, h.1.2, rw (same, within) refl)

-- ---- place by place

record FitsEach (g : Graph) (ls : List (List (List ℕ))) (m : List ℕ) : Type 0 where
  each : length m ≡ length ls
  fits : (u : ℕ) → u < length ls → fits_labels g (get_or ls u []) (get_or m u 0) ≡ true

fits_at_each_place : (g : Graph) (ls : List (List (List ℕ))) (m : List ℕ) → pointwise (fits_labels g) ls m ≡ true → FitsEach g ls m
fits_at_each_place g [] [] h = record { each = refl; fits = λ u l. absurd (omega arith) }
fits_at_each_place g [] (i ∷ m) h = cc
fits_at_each_place g (l ∷ ls) [] h = cc
fits_at_each_place g (l ∷ ls) (i ∷ m) h = more (fits_at_each_place g ls m two.1)
  where
    two : (fits_labels g l i ≡ true) × (pointwise (fits_labels g) ls m ≡ true)
    two = both (fits_labels g l i) (pointwise (fits_labels g) ls m) h

    at : FitsEach g ls m → (u : ℕ) → u < length (l ∷ ls) → fits_labels g (get_or (l ∷ ls) u []) (get_or (i ∷ m) u 0) ≡ true
    at rest zero k = two.0
    at rest (suc u) k = rest.fits u (omega arith)

    more : FitsEach g ls m → FitsEach g (l ∷ ls) (i ∷ m)
    more rest = record { each = ap suc rest.each; fits = at rest }

each_fits : (g : Graph) (ls : List (List (List ℕ))) (m : List ℕ) → FitsEach g ls m → pointwise (fits_labels g) ls m ≡ true
each_fits g [] [] f = refl
each_fits g [] (i ∷ m) f = absurd (omega (arith, f.each))
each_fits g (l ∷ ls) [] f = absurd (omega (arith, f.each))
each_fits g (l ∷ ls) (i ∷ m) f =
    rw (f.fits 0 (omega arith)) (each_fits g ls m (record { each = omega (arith, f.each); fits = λ u k. f.fits (suc u) (omega arith) }))

-- ---- no id twice

abbrev IsInjective : List ℕ → Type 0
IsInjective m = (u w : ℕ) → u < length m → w < length m → get_or m u 0 ≡ get_or m w 0 → u ≡ w

wrong : (b : Bool) → not b ≡ true → b ≡ true → ⊥
wrong true n e = cc
wrong false n e = cc

has_at : (x : ℕ) (xs : List ℕ) (k : ℕ) → k < length xs → x ≡ get_or xs k 0 → list_any (λ y. x == y) xs ≡ true
has_at x [] k l e = absurd (omega arith)
has_at x (y ∷ ys) zero l e = rw (eqb-same x y e) refl
has_at x (y ∷ ys) (suc k) l e = by (x == y) (has_at x ys k (omega arith) e)
  where
    by : (b : Bool) → list_any (λ z. x == z) ys ≡ true → b || list_any (λ z. x == z) ys ≡ true
    by true f = refl
    by false f = f

injective : (m : List ℕ) → are_distinct_by (λ x y. x == y) m ≡ true → IsInjective m
injective [] d u w k l e = absurd (omega arith)
injective (x ∷ xs) d zero zero k l e = refl
injective (x ∷ xs) d zero (suc w) k l e =
    absurd (wrong (list_any (λ y. x == y) xs) (both (not (list_any (λ y. x == y) xs)) (are_distinct_by (λ y z. y == z) xs) d).0 (has_at x xs w (omega arith) e))
injective (x ∷ xs) d (suc u) zero k l e =
    absurd (wrong (list_any (λ y. x == y) xs) (both (not (list_any (λ y. x == y) xs)) (are_distinct_by (λ y z. y == z) xs) d).0 (has_at x xs u (omega arith) (sym e)))
injective (x ∷ xs) d (suc u) (suc w) k l e =
    ap suc (injective xs (both (not (list_any (λ y. x == y) xs)) (are_distinct_by (λ y z. y == z) xs) d).1 u w (omega arith) (omega arith) e)

distinct : (m : List ℕ) → IsInjective m → are_distinct_by (λ x y. x == y) m ≡ true
distinct [] f = refl
distinct (x ∷ xs) f = rw (absent xs x (λ k l e. later_place k l e)) (distinct xs (λ u w k l e. before u w (f (suc u) (suc w) (omega arith) (omega arith) e)))
  where
    before : (u w : ℕ) → suc u ≡ suc w → u ≡ w
    before u w e = omega arith

    later_place : (k : ℕ) → k < length xs → x ≡ get_or xs k 0 → ⊥
    later_place k l e = let p : 0 ≡ suc k = f 0 (suc k) (omega arith) (omega arith) e in absurd (omega arith)

    absent : (ys : List ℕ) (z : ℕ) → ((k : ℕ) → k < length ys → z ≡ get_or ys k 0 → ⊥) → list_any (λ y. z == y) ys ≡ false
    absent [] z h = refl
    absent (y ∷ ys) z h = by (z == y) refl (absent ys z (λ k l e. h (suc k) (omega arith) e))
      where
        by : (b : Bool) → (z == y) ≡ b → list_any (λ w. z == w) ys ≡ false → list_any (λ w. z == w) (y ∷ ys) ≡ false
        by true q rest = absurd (h 0 (omega arith) (eqb-true z y q))
        by false q rest = rw q rest

keeps : (mode : Mode) (m : List ℕ) → (mode ≡ Iso → IsInjective m) → keeps_mode mode m ≡ true
keeps Hom m f = refl
keeps Iso m f = distinct m (f refl)

-- ---- the law

-- the embeddings are exactly the maps
pub are_maps : EmbeddingsAreMaps
are_maps q g m = (one, two)
  where
    one : is_embedding q g m ≡ true → MapsInto q g m
    one e =
        let outer = both (fit_all q g m && keeps_edges q g m) (keeps_mode q.mode m) e in
        let inner = both (fit_all q g m) (keeps_edges q g m) outer.0 in
        let places = fits_at_each_place g q.labels m inner.0 in
        record {
          each = places.each;
          vertices = λ u l. has_labelled g (get_or q.labels u []) (get_or m u 0) (places.fits u l);
          edges = λ f c. is_there triple_cmp triple_total triple_exact (image m f) g.triples (each_passes (λ (d : PatternEdge). has_triple g (image m d)) q.edges f inner.1 c);
          injective = λ iso. injective m (ap (λ (mode : Mode). keeps_mode mode m) (sym iso) ∙ outer.1);
        }

    two : MapsInto q g m → is_embedding q g m ≡ true
    two h =
        let fit : fit_all q g m ≡ true = each_fits g q.labels m (record { each = h.each; fits = λ u l. labelled_fits g (get_or q.labels u []) (get_or m u 0) (h.vertices u l) }) in
        let edges : keeps_edges q g m ≡ true = all_pass (λ (d : PatternEdge). has_triple g (image m d)) q.edges (λ f c. is_found triple_cmp triple_total (image m f) g.triples (h.edges f c)) in
        let mode : keeps_mode q.mode m ≡ true = keeps q.mode m h.injective in
        rw (fit, edges, mode) refl
