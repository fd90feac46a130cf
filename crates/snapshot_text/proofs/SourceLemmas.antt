-- The triples of a graph, source by source.
use Rattle.std.proofs.Common.{◌≡◌, ℕ, ◌<◌, ◌≤◌, Bool, true, false, not, ◌==◌, ◌||◌, ◌&&◌, List, [], ◌∷◌, ◌++◌, length, map, take, refl, sym, ap, ◌∙◌, arith}
use Rattle.std.specs.declared.cmp.Ordering.TheVariants.{Less}
use Rattle.std.specs.Ordering.{nat_cmp}
use Rattle.std.specs.List.{AllByRecursion, list_any, list_all, filter, flat_map}
use Rattle.std.specs.List.Sorted.{IsStrictlySortedBy}
use Rattle.std.proofs.lemmas.Bool.{eqb-true, eqb-false, ne_eqb}
use Rattle.std.proofs.lemmas.Cmp.{ranked}
use Rattle.std.proofs.lemmas.List.{take_all}
use Rattle.std.proofs.lemmas.List.Concat.{flat_map-append}
use Rattle.std.proofs.lemmas.List.Kept.{IsStrictlySortedBy-filter}
use Rattle.flux_model.specs.Graph.{Graph, IsGraph, ids, has_vertex, has_both_ends, triple_cmp}
use Rattle.flux_model.specs.GraphText.{triple_line}
use Rattle.flux_model.specs.declared.graph.Triple.{Triple}
use Rattle.flux_model.specs.declared.graph.Vertex.{Vertex}
use Rattle.graph_traits.specs.Rows.{triples_from}
use Rattle.snapshot_text.proofs.OrderLemmas.{triple_total, source_rises}
use Rattle.flux_model.proofs.SortedLemmas.{strict_from_ascending}
use Rattle.snapshot_text.proofs.VertexLemmas.{ids-strict}

abbrev from : ℕ → List Triple → List Triple
from v ts = filter (λ t. t.src == v) ts

abbrev others : ℕ → List Triple → List Triple
others v ts = filter (λ t. not (t.src == v)) ts

-- ---- the triples of the lowest source stand first

later_sources : (t : Triple) (us : List Triple) → AllByRecursion (λ u. triple_cmp t u ≡ Less) us → AllByRecursion (λ (u : Triple). t.src ≤ u.src) us
later_sources t [] a = tt
later_sources t (u ∷ us) a = (source_rises t u a.0, later_sources t us a.1)

none_from : (v w : ℕ) (us : List Triple) → v < w → AllByRecursion (λ (u : Triple). w ≤ u.src) us → (from v us ≡ []) × (others v us ≡ us)
none_from v w [] l a = (refl, refl)
none_from v w (u ∷ us) l a =
    let above : w ≤ u.src = a.0 in
    let e : (u.src == v) ≡ false = ne_eqb u.src v (λ q. omega arith) in
    let rest = none_from v w us l a.1 in
    (rw e rest.0, rw e (ap (λ ts. u ∷ ts) rest.1))

split_first : (v : ℕ) (ts : List Triple) → IsStrictlySortedBy triple_cmp ts → AllByRecursion (λ (t : Triple). v ≤ t.src) ts → from v ts ++ others v ts ≡ ts
unfolding IsStrictlySortedBy
split_first v [] s a = refl
split_first v (t ∷ ts) s a = by (t.src == v) refl (split_first v ts s.1 a.1)
  where
    by : (b : Bool) → (t.src == v) ≡ b → from v ts ++ others v ts ≡ ts → from v (t ∷ ts) ++ others v (t ∷ ts) ≡ t ∷ ts
    by true e rest = rw e (ap (λ l. t ∷ l) rest)
    by false e rest =
        let low : v ≤ t.src = a.0 in
        let apart : v < t.src = omega (arith, eqb-false t.src v e) in
        let none = none_from v t.src ts apart (later_sources t ts s.0) in
        rw (e, none.0, none.1) refl

-- ---- each source in turn

abbrev HaveSources : List ℕ → List Triple → Type 0
HaveSources vs ts = AllByRecursion (λ (t : Triple). list_any (λ v. v == t.src) vs ≡ true) ts

is_later : (v x : ℕ) (ws : List ℕ) → AllByRecursion (λ w. nat_cmp v w ≡ Less) ws → list_any (λ w. w == x) ws ≡ true → v < x
is_later v x [] a h = cc
is_later v x (w ∷ ws) a h = by (w == x) refl h (is_later v x ws a.1)
  where
    by : (b : Bool) → (w == x) ≡ b → b || list_any (λ w. w == x) ws ≡ true → (list_any (λ w. w == x) ws ≡ true → v < x) → v < x
    by true e k rest = let l = ranked v w Less (sym a.0) in omega (arith, eqb-true w x e)
    by false e k rest = rest k

first_is_lowest : (v : ℕ) (ws : List ℕ) (ts : List Triple) → AllByRecursion (λ w. nat_cmp v w ≡ Less) ws → HaveSources (v ∷ ws) ts → AllByRecursion (λ (t : Triple). v ≤ t.src) ts
first_is_lowest v ws [] a h = tt
first_is_lowest v ws (t ∷ ts) a h = (by (v == t.src) refl h.0, first_is_lowest v ws ts a h.1)
  where
    by : (b : Bool) → (v == t.src) ≡ b → b || list_any (λ w. w == t.src) ws ≡ true → v ≤ t.src
    by true e k = omega (arith, eqb-true v t.src e)
    by false e k = let l : v < t.src = is_later v t.src ws a k in omega arith

others_have : (v : ℕ) (ws : List ℕ) (ts : List Triple) → HaveSources (v ∷ ws) ts → HaveSources ws (others v ts)
others_have v ws [] h = tt
others_have v ws (t ∷ ts) h = by (t.src == v) refl (others_have v ws ts h.1)
  where
    by : (b : Bool) → (t.src == v) ≡ b → HaveSources ws (others v ts) → HaveSources ws (others v (t ∷ ts))
    by true e rest = rw e rest
    by false e rest =
        let apart : (v == t.src) ≡ false = ne_eqb v t.src (λ q. eqb-false t.src v e (sym q)) in
        rw e (rw apart at h.0, rest)

from_others : (v w : ℕ) (ts : List Triple) → v < w → from w ts ≡ from w (others v ts)
from_others v w [] l = refl
from_others v w (t ∷ ts) l = by (t.src == v) refl (t.src == w) refl (from_others v w ts l)
  where
    by : (b : Bool) → (t.src == v) ≡ b → (c : Bool) → (t.src == w) ≡ c → from w ts ≡ from w (others v ts) → from w (t ∷ ts) ≡ from w (others v (t ∷ ts))
    by true e true f rest = absurd (omega (arith, eqb-true t.src v e, eqb-true t.src w f))
    by true e false f rest = rw (e, f) rest
    by false e true f rest = rw (e, f) (ap (λ l. t ∷ l) rest)
    by false e false f rest = rw (e, f) rest

each_from_others : (v : ℕ) (ws : List ℕ) (ts : List Triple) → AllByRecursion (λ w. nat_cmp v w ≡ Less) ws → flat_map (λ w. from w ts) ws ≡ flat_map (λ w. from w (others v ts)) ws
each_from_others v [] ts a = refl
each_from_others v (w ∷ ws) ts a =
    let first = from_others v w ts (ranked v w Less (sym a.0)) in
    let rest = each_from_others v ws ts a.1 in
    λ i. first i ++ rest i

by_source : (vs : List ℕ) (ts : List Triple) → IsStrictlySortedBy nat_cmp vs → IsStrictlySortedBy triple_cmp ts → HaveSources vs ts → flat_map (λ v. from v ts) vs ≡ ts
unfolding IsStrictlySortedBy
by_source [] [] s t h = refl
by_source [] (u ∷ us) s t h = let none = h.0 in cc
by_source (v ∷ ws) ts s t h =
    let rest = by_source ws (others v ts) s.1 (IsStrictlySortedBy-filter triple_cmp (λ t. not (t.src == v)) ts t) (others_have v ws ts h) in
    ap (λ l. from v ts ++ l) (each_from_others v ws ts s.0 ∙ rest)
    ∙ split_first v ts t (first_is_lowest v ws ts s.0 h)

-- ---- the graph

both : (b c : Bool) → b && c ≡ true → (b ≡ true) × (c ≡ true)
both true c h = (refl, h)
both false c h = cc

any_id : (id : ℕ) (vs : List Vertex) → list_any (λ v. v == id) (map (λ (v : Vertex). v.id) vs) ≡ list_any (λ (v : Vertex). v.id == id) vs
any_id id [] = refl
any_id id (v ∷ vs) = ap (λ b. v.id == id || b) (any_id id vs)

have_sources : (g : Graph) (ts : List Triple) → list_all (has_both_ends g) ts ≡ true → HaveSources (ids g) ts
have_sources g [] h = tt
have_sources g (t ∷ ts) h =
    let parts = both (has_both_ends g t) (list_all (has_both_ends g) ts) h in
    (any_id t.src g.vertices ∙ (both (has_vertex g t.src) (has_vertex g t.dst) parts.0).0, have_sources g ts parts.1)

flat_map-twice : (F : ℕ → List Triple) (vs : List ℕ) → flat_map triple_line (flat_map F vs) ≡ flat_map (λ v. flat_map triple_line (F v)) vs
flat_map-twice F [] = refl
flat_map-twice F (v ∷ vs) = flat_map-append triple_line (F v) (flat_map F vs) ∙ ap (λ l. flat_map triple_line (F v) ++ l) (flat_map-twice F vs)

-- the lines of the triples are those of each vertex's row
pub lines-of_ids : (g : Graph) (listed : List ℕ) → IsGraph g → listed ≡ ids g → flat_map triple_line g.triples ≡ flat_map (λ id. flat_map triple_line (triples_from g id)) listed
lines-of_ids g listed is e =
    ap (flat_map triple_line)
    (sym (by_source (ids g) g.triples (ids-strict g is) (strict_from_ascending triple_cmp triple_total g.triples is.ascending_triples) (have_sources g g.triples is.ends)))
    ∙ flat_map-twice (λ id. triples_from g id) (ids g) ∙ ap (flat_map (λ id. flat_map triple_line (triples_from g id))) (sym e)

-- each vertex's row was written
pub rows-done : (g : Graph) (listed : List ℕ) (i : ℕ) → IsGraph g → listed ≡ ids g → length listed ≤ i → flat_map (λ id. flat_map triple_line (triples_from g id)) (take i listed) ≡ flat_map triple_line g.triples
rows-done g listed i is e l = ap (flat_map (λ id. flat_map triple_line (triples_from g id))) (take_all i listed l) ∙ sym (lines-of_ids g listed is e)
