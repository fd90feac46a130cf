-- The order of pairs, and the rows of all layers in that order.
use Rattle.std.proofs.Common.{◌≡◌, ◌≢◌, ℕ, zero, suc, ◌+◌, ◌<◌, Bool, true, false, cond, List, [], ◌∷◌, ◌++◌, refl, sym, ap, subst, ◌∙◌, arith}
use Rattle.std.specs.Prelude.{None, Some, ◌&&◌, ◌==◌, map, count_by}
use Rattle.std.proofs.Math.Dec.{T}
use Rattle.std.specs.declared.cmp.Ordering.TheVariants.{Less}
use Rattle.std.specs.Ordering.{is_eq, is_lt, eq_by_cmp, nat_cmp, ordering_then}
use Rattle.std.specs.Cmp.{IsTotalOrder, then_total, on_total, nat_cmp_total, tied_itself, unsigned_tied, both_tied, nat_cmp_is}
use Rattle.std.specs.FinMap.{IsAntisymmetric, nat_cmp-IsAntisymmetric, entries, entries_sorted, get, empty, find, is_sorted, get-entries, get-empty, get-from_sorted, entries-from_sorted, len-empty}
use Rattle.std.specs.FinMap.Entries.{below_all}
use Rattle.std.proofs.lemmas.Bool.{eqb-true, eq-eqb, ne_eqb}
use Rattle.std.proofs.lemmas.List.Sums.{sum_by-cons}
use Rattle.flux_model.specs.Exact.{Row, pair_cmp}
use Rattle.dcg_store.specs.Counters.{is_full}
use Rattle.dcg_store.specs.SoundRows.{is_live}
use Rattle.dcg_store.specs.Layers.{Layer, live_in, of_vertex, entries_from, rows_of, layer_at}
use Rattle.dcg_store.proofs.CountLemmas.{bit, count-le-len}

pub pair_cmp_total : IsTotalOrder pair_cmp
pair_cmp_total = then_total (on_total (λ (p : ℕ × ℕ). p.0) nat_cmp_total) (on_total (λ (p : ℕ × ℕ). p.1) nat_cmp_total)

-- only equal pairs tie
pub same_pair : (x y : ℕ × ℕ) → eq_by_cmp pair_cmp x y ≡ (x.0 == y.0 && x.1 == y.1)
same_pair x y = sym (both_tied (x.0 == y.0) (x.1 == y.1) (nat_cmp x.0 y.0) (nat_cmp x.1 y.1) (sym (unsigned_tied x.0 y.0)) (sym (unsigned_tied x.1 y.1)))

pub pair_cmp-IsAntisymmetric : IsAntisymmetric pair_cmp
pair_cmp-IsAntisymmetric x y e = by (x.0 == y.0) (x.1 == y.1) refl refl (sym (same_pair x y) ∙ ap is_eq e)
  where
    by : (a b : Bool) → (x.0 == y.0) ≡ a → (x.1 == y.1) ≡ b → (a && b) ≡ true → x ≡ y
    by true true p q h = λ i. (eqb-true x.0 y.0 p i, eqb-true x.1 y.1 q i)
    by true false p q h = absurd (let bad : false ≡ true = h in cc)
    by false b p q h = absurd (let bad : false ≡ true = h in cc)

both : (a b : Bool) → T a → T b → T (a && b)
both true b p q = q
both false b p q = p

pub first : (a b : Bool) → T (a && b) → T a
first true b p = tt
first false b p = p

pub second : (a b : Bool) → T (a && b) → T b
second true b p = p
second false b p = absurd p

-- ---- the entries of all layers strictly rise

pair_less : (u w x y : ℕ) → u < w → T (is_lt (pair_cmp (u, x) (w, y)))
pair_less u w x y h = subst (λ r. T (is_lt (ordering_then r (nat_cmp x y)))) (nat_cmp_is u w Less h) tt

pair_less_in : (u x y : ℕ) → T (is_lt (nat_cmp x y)) → T (is_lt (pair_cmp (u, x) (u, y)))
pair_less_in u x y h = subst (λ r. T (is_lt (ordering_then r (nat_cmp x y)))) (sym (tied_itself nat_cmp_total u)) h

below_later : (u x : ℕ) (es : List (ℕ × Row)) (rest : List ((ℕ × ℕ) × Row)) (w : ℕ) → u < w → T (below_all pair_cmp (u, x) rest) → T (below_all pair_cmp (u, x) (map (of_vertex w) es ++ rest))
below_later u x [] rest w h below = below
below_later u x (e ∷ es) rest w h below = both _ _ (pair_less u w x e.0 h) (below_later u x es rest w h below)

below_layers : (layers : List Layer) (u x w : ℕ) → u < w → T (below_all pair_cmp (u, x) (entries_from w layers))
below_layers [] u x w h = tt
below_layers (layer ∷ layers) u x w h = below_later u x (entries layer) (entries_from (suc w) layers) w h (below_layers layers u x (suc w) (omega (arith, h)))

below_own : (u x : ℕ) (es : List (ℕ × Row)) (rest : List ((ℕ × ℕ) × Row)) → T (below_all nat_cmp x es) → T (below_all pair_cmp (u, x) rest) → T (below_all pair_cmp (u, x) (map (of_vertex u) es ++ rest))
below_own u x [] rest h below = below
below_own u x (e ∷ es) rest h below = both _ _ (pair_less_in u x e.0 (first _ _ h)) (below_own u x es rest (second _ _ h) below)

sorted_layer : (u : ℕ) (es : List (ℕ × Row)) (rest : List ((ℕ × ℕ) × Row)) → T (is_sorted nat_cmp es) → ((x : ℕ) → T (below_all pair_cmp (u, x) rest)) → T (is_sorted pair_cmp rest)
    → T (is_sorted pair_cmp (map (of_vertex u) es ++ rest))
sorted_layer u [] rest h below sorted = sorted
sorted_layer u (e ∷ es) rest h below sorted = both _ _ (below_own u e.0 es rest (first _ _ h) (below e.0)) (sorted_layer u es rest (second _ _ h) below sorted)

pub entries_from-sorted : (layers : List Layer) (u : ℕ) → T (is_sorted pair_cmp (entries_from u layers))
entries_from-sorted [] u = tt
entries_from-sorted (layer ∷ layers) u =
    sorted_layer u (entries layer) (entries_from (suc u) layers) (entries_sorted layer) (λ x. below_layers layers u x (suc u) (omega arith)) (entries_from-sorted layers (suc u))

-- ---- what is found among them

apart : (u w x y : ℕ) → u ≢ w → eq_by_cmp pair_cmp (u, x) (w, y) ≡ false
apart u w x y h = same_pair (u, x) (w, y) ∙ ap (λ b. b && x == y) (ne_eqb u w h)

alike : (u x y : ℕ) → eq_by_cmp pair_cmp (u, x) (u, y) ≡ eq_by_cmp nat_cmp x y
alike u x y = ap (λ r. is_eq (ordering_then r (nat_cmp x y))) (tied_itself nat_cmp_total u)

find_other : (u w v : ℕ) (es : List (ℕ × Row)) (rest : List ((ℕ × ℕ) × Row)) → u ≢ w → find pair_cmp (u, v) (map (of_vertex w) es ++ rest) ≡ find pair_cmp (u, v) rest
find_other u w v [] rest h = refl
find_other u w v (e ∷ es) rest h = ap (λ b. cond b (Some e.1) (find pair_cmp (u, v) (map (of_vertex w) es ++ rest))) (apart u w v e.0 h) ∙ find_other u w v es rest h

find_own : (u v : ℕ) (es : List (ℕ × Row)) (rest : List ((ℕ × ℕ) × Row)) → find pair_cmp (u, v) rest ≡ None → find pair_cmp (u, v) (map (of_vertex u) es ++ rest) ≡ find nat_cmp v es
find_own u v [] rest none = none
find_own u v (e ∷ es) rest none = λ i. cond (alike u v e.0 i) (Some e.1) (find_own u v es rest none i)

find_earlier : (layers : List Layer) (u w v : ℕ) → u < w → find pair_cmp (u, v) (entries_from w layers) ≡ None
find_earlier [] u w v h = refl
find_earlier (layer ∷ layers) u w v h =
    find_other u w v (entries layer) (entries_from (suc w) layers) (omega (arith, h)) ∙ find_earlier layers u (suc w) v (omega (arith, h))

find_at : (layers : List Layer) (k i u v : ℕ) → u ≡ k + i → find pair_cmp (u, v) (entries_from k layers) ≡ get (layer_at layers i) v
find_at [] k i u v e = sym (get-empty nat_cmp v)
find_at (layer ∷ layers) k zero u v e =
    let here : u ≡ k = omega (arith, e) in
    subst (λ w. find pair_cmp (w, v) (map (of_vertex k) (entries layer) ++ entries_from (suc k) layers) ≡ get layer v) (sym here)
    (find_own k v (entries layer) (entries_from (suc k) layers) (find_earlier layers k (suc k) v (omega arith)) ∙ sym (get-entries layer v))
find_at (layer ∷ layers) k (suc i) u v e =
    find_other u k v (entries layer) (entries_from (suc k) layers) (omega (arith, e)) ∙ find_at layers (suc k) i u v (omega (arith, e))

-- the row of a pair is its layer's
pub get-rows_of : (layers : List Layer) (u v : ℕ) → get (rows_of layers) (u, v) ≡ get (layer_at layers u) v
get-rows_of layers u v = get-from_sorted pair_cmp (entries_from 0 layers) (u, v) (entries_from-sorted layers 0) ∙ find_at layers 0 u u v (omega arith)

-- ---- how many are explicit

count_other : (u w : ℕ) (es : List (ℕ × Row)) (rest : List ((ℕ × ℕ) × Row)) → u ≢ w → count_by (is_live u) (map (of_vertex w) es ++ rest) ≡ count_by (is_live u) rest
count_other u w [] rest h = refl
count_other u w (e ∷ es) rest h =
    sum_by-cons (λ x. bit (is_live u x)) (of_vertex w e) (map (of_vertex w) es ++ rest)
    ∙ ap (λ b. bit (b && is_full e.1) + count_by (is_live u) (map (of_vertex w) es ++ rest)) (ne_eqb w u (λ same. h (sym same)))
    ∙ omega (arith, count_other u w es rest h)

count_own : (u : ℕ) (es : List (ℕ × Row)) (rest : List ((ℕ × ℕ) × Row)) → count_by (is_live u) rest ≡ 0 → count_by (is_live u) (map (of_vertex u) es ++ rest) ≡ count_by (λ e. is_full e.1) es
count_own u [] rest none = none
count_own u (e ∷ es) rest none =
    let new = sum_by-cons (λ x. bit (is_live u x)) (of_vertex u e) (map (of_vertex u) es ++ rest) in
    let own = ap (λ b. bit (b && is_full e.1)) (eq-eqb u u refl) in
    let old = sum_by-cons (λ (x : ℕ × Row). bit (is_full x.1)) e es in
    let before = count_own u es rest none in
    omega (arith, new, own, old, before)

count_earlier : (layers : List Layer) (u w : ℕ) → u < w → count_by (is_live u) (entries_from w layers) ≡ 0
count_earlier [] u w h = refl
count_earlier (layer ∷ layers) u w h =
    count_other u w (entries layer) (entries_from (suc w) layers) (omega (arith, h)) ∙ count_earlier layers u (suc w) (omega (arith, h))

live_in-empty : live_in empty ≡ 0
live_in-empty =
    let most = count-le-len nat_cmp_total nat_cmp-IsAntisymmetric (λ (e : ℕ × Row). is_full e.1) empty in
    let none = len-empty nat_cmp Row in
    omega (arith, most, none)

count_at : (layers : List Layer) (k i u : ℕ) → u ≡ k + i → count_by (is_live u) (entries_from k layers) ≡ live_in (layer_at layers i)
count_at [] k i u e = sym live_in-empty
count_at (layer ∷ layers) k zero u e =
    let here : u ≡ k = omega (arith, e) in
    subst (λ w. count_by (is_live w) (map (of_vertex k) (entries layer) ++ entries_from (suc k) layers) ≡ live_in layer) (sym here)
    (count_own k (entries layer) (entries_from (suc k) layers) (count_earlier layers k (suc k) (omega arith)))
count_at (layer ∷ layers) k (suc i) u e =
    count_other u k (entries layer) (entries_from (suc k) layers) (omega (arith, e)) ∙ count_at layers (suc k) i u (omega (arith, e))

pub live-rows_of : (layers : List Layer) (u : ℕ) → count_by (is_live u) (entries (rows_of layers)) ≡ live_in (layer_at layers u)
live-rows_of layers u = ap (count_by (is_live u)) (entries-from_sorted pair_cmp (entries_from 0 layers) (entries_from-sorted layers 0)) ∙ count_at layers 0 u u (omega arith)
