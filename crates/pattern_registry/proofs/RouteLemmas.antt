-- Routes that a loop makes, and what stands between two places of one.
use Rattle.std.proofs.Common.{◌≡◌, ℕ, zero, suc, ◌+◌, ◌<◌, ◌≤◌, Bool, true, false, not, ◌||◌, cond, List, [], ◌∷◌, ◌++◌, length, take, Option, Some, None, refl, sym, ap, subst, ◌∙◌, arith}
use Rattle.std.specs.List.{list_any, slice_get}
use Rattle.std.specs.Option.{unwrap_or}
use Rattle.std.proofs.lemmas.List.{length-take, append-nil}
use Rattle.std.proofs.lemmas.Option.{slice_get_within, same_Some, none-some}
use Rattle.flux_model.specs.Pattern.{PatternGraph}
use Rattle.flux_model.proofs.PlaceLemmas.{take_next}
use Rattle.flux_laws.specs.JointsLaws.{has_edge_labelled}
use Rattle.pattern_registry.specs.Routes.{places_with, place_at}

-- ---- a test of the items up to a place

module _ {X : Type 0} (p : X → Bool) where
  any-append : (xs ys : List X) → list_any p (xs ++ ys) ≡ list_any p xs || list_any p ys
  any-append [] ys = refl
  any-append (x ∷ xs) ys = by (p x) (any-append xs ys)
    where
      by : (b : Bool) → list_any p (xs ++ ys) ≡ list_any p xs || list_any p ys → b || list_any p (xs ++ ys) ≡ b || list_any p xs || list_any p ys
      by true e = refl
      by false e = e

  pub any_next : (xs : List X) (i : ℕ) (x : X) → slice_get xs i ≡ Some x → list_any p (take (i + 1) xs) ≡ list_any p (take i xs) || p x
  any_next xs i x here = ap (list_any p) (take_next xs i x here) ∙ any-append (take i xs) (x ∷ []) ∙ ap (λ b. list_any p (take i xs) || b) (alone (p x))
    where
      alone : (b : Bool) → b || false ≡ b
      alone true = refl
      alone false = refl

  pub none_next : (xs : List X) (i : ℕ) (x : X) → slice_get xs i ≡ Some x → list_any p (take i xs) ≡ false → p x ≡ false → list_any p (take (i + 1) xs) ≡ false
  none_next xs i x here none off = any_next xs i x here ∙ rw (none, off) refl

  pub any_before : (xs : List X) (i n : ℕ) (x : X) → i < n → slice_get xs i ≡ Some x → p x ≡ true → list_any p (take n xs) ≡ true
  any_before [] i n x low here on = absurd (none-some x here)
  any_before (y ∷ ys) i zero x low here on = absurd (omega arith)
  any_before (y ∷ ys) zero (suc n) x low here on = let is : p y ≡ true = ap p (same_Some y x here) ∙ on in rw is refl
  any_before (y ∷ ys) (suc i) (suc n) x low here on = by (p y) (any_before ys i n x (omega arith) here on)
    where
      by : (b : Bool) → list_any p (take n ys) ≡ true → b || list_any p (take n ys) ≡ true
      by true e = refl
      by false e = e

-- ---- one edge more

-- the route of a label after the edges up to i of the pattern at k
pub grown_next : (old now new : List ℕ) (k : ℕ) (before here next : Bool) → now ≡ cond before (old ++ k ∷ []) old → next ≡ before || here
    → new ≡ cond here (cond (not before) (now ++ k ∷ []) now) now → new ≡ cond next (old ++ k ∷ []) old
grown_next old now new k true true next a b c = c ∙ a ∙ ap (λ x. cond x (old ++ k ∷ []) old) (sym b)
grown_next old now new k true false next a b c = c ∙ a ∙ ap (λ x. cond x (old ++ k ∷ []) old) (sym b)
grown_next old now new k false true next a b c = c ∙ ap (λ l. l ++ k ∷ []) a ∙ ap (λ x. cond x (old ++ k ∷ []) old) (sym b)
grown_next old now new k false false next a b c = c ∙ a ∙ ap (λ x. cond x (old ++ k ∷ []) old) (sym b)

-- ---- one pattern more

places-append : (i : ℕ) (label : List ℕ) (qs rs : List PatternGraph) → places_with i label (qs ++ rs) ≡ places_with i label qs ++ places_with (i + length qs) label rs
places-append i label [] rs = ap (λ n. places_with n label rs) (omega arith)
places-append i label (q ∷ qs) rs = by (has_edge_labelled q label) (places-append (suc i) label qs rs)
  where
    number : suc i + length qs ≡ i + length (q ∷ qs)
    number = omega arith

    by : (b : Bool) → places_with (suc i) label (qs ++ rs) ≡ places_with (suc i) label qs ++ places_with (suc i + length qs) label rs
        → cond b (i ∷ places_with (suc i) label (qs ++ rs)) (places_with (suc i) label (qs ++ rs))
        ≡ cond b (i ∷ places_with (suc i) label qs) (places_with (suc i) label qs) ++ places_with (i + length (q ∷ qs)) label rs
    by true e = ap (λ l. i ∷ l) (e ∙ ap (λ n. places_with (suc i) label qs ++ places_with n label rs) number)
    by false e = e ∙ ap (λ n. places_with (suc i) label qs ++ places_with n label rs) number

pub routes_next : (label : List ℕ) (qs : List PatternGraph) (k : ℕ) (q : PatternGraph) (old new : List ℕ) → slice_get qs k ≡ Some q → old ≡ places_with 0 label (take k qs)
    → new ≡ cond (has_edge_labelled q label) (old ++ k ∷ []) old → new ≡ places_with 0 label (take (k + 1) qs)
routes_next label qs k q old new here before now =
    let within : k < length qs = slice_get_within qs k q here in
    let number : 0 + length (take k qs) ≡ k = omega (arith, length-take k qs) in
    now ∙ ap (λ l. cond (has_edge_labelled q label) (l ++ k ∷ []) l) before ∙ by (has_edge_labelled q label)
    ∙ ap (λ n. places_with 0 label (take k qs) ++ cond (has_edge_labelled q label) (n ∷ []) []) (sym number)
    ∙ sym (places-append 0 label (take k qs) (q ∷ [])) ∙ ap (places_with 0 label) (sym (take_next qs k q here))
  where
    by : (b : Bool) → cond b (places_with 0 label (take k qs) ++ k ∷ []) (places_with 0 label (take k qs)) ≡ places_with 0 label (take k qs) ++ cond b (k ∷ []) []
    by true = refl
    by false = sym (append-nil (places_with 0 label (take k qs)))

-- ---- what stands between two places of a route

-- the patterns from a place on, below another, have no edge with the label
abbrev pub ArePassed : List ℕ → List PatternGraph → ℕ → ℕ → Type 0
ArePassed label qs from to = (j : ℕ) (q : PatternGraph) → from ≤ j → j < to → slice_get qs j ≡ Some q → has_edge_labelled q label ≡ false

-- what is so of the rest of the patterns
abbrev GapAtFirst : ℕ → List ℕ → List PatternGraph → Type 0
GapAtFirst s label qs = (j : ℕ) (q : PatternGraph) → slice_get qs j ≡ Some q → s + j < place_at (places_with s label qs) 0 (s + length qs) → has_edge_labelled q label ≡ false

abbrev GapBehind : ℕ → List ℕ → List PatternGraph → Type 0
GapBehind s label qs = (i k j : ℕ) (q : PatternGraph) → slice_get (places_with s label qs) i ≡ Some k → slice_get qs j ≡ Some q
    → k < s + j → s + j < place_at (places_with s label qs) (i + 1) (s + length qs) → has_edge_labelled q label ≡ false

first_gap : (s : ℕ) (label : List ℕ) (qs : List PatternGraph) → GapAtFirst s label qs
first_gap s label [] j q here low = absurd (none-some q here)
first_gap s label (p ∷ ps) j q here low = by (has_edge_labelled p label) refl j here low (first_gap (suc s) label ps)
  where
    number : suc s + length ps ≡ s + length (p ∷ ps)
    number = omega arith

    by : (b : Bool) → has_edge_labelled p label ≡ b → (j : ℕ) → slice_get (p ∷ ps) j ≡ Some q → s + j < place_at (cond b (s ∷ places_with (suc s) label ps) (places_with (suc s) label ps)) 0 (s + length (p ∷ ps))
        → GapAtFirst (suc s) label ps → has_edge_labelled q label ≡ false
    by true e j here low rest = absurd (omega arith)
    by false e zero here low rest = ap (λ r. has_edge_labelled r label) (sym (same_Some p q here)) ∙ e
    by false e (suc j) here low rest = rest j q here (subst (λ n. suc s + j < place_at (places_with (suc s) label ps) 0 n) (sym number) (omega arith))

-- the places ascend from s on, and are those of patterns
place_inside : (s : ℕ) (label : List ℕ) (qs : List PatternGraph) (i k : ℕ) → slice_get (places_with s label qs) i ≡ Some k → (s ≤ k) × (k < s + length qs)
place_inside s label [] i k here = absurd (none-some k here)
place_inside s label (p ∷ ps) i k here = by (has_edge_labelled p label) i here (λ i. place_inside (suc s) label ps i k)
  where
    by : (b : Bool) (i : ℕ) → slice_get (cond b (s ∷ places_with (suc s) label ps) (places_with (suc s) label ps)) i ≡ Some k
        → ((i : ℕ) → slice_get (places_with (suc s) label ps) i ≡ Some k → (suc s ≤ k) × (k < suc s + length ps)) → (s ≤ k) × (k < s + length (p ∷ ps))
    by true zero h rest = let e = same_Some s k h in (omega arith, omega arith)
    by true (suc i) h rest = let r = rest i h in (omega (arith, r.0), omega (arith, r.1))
    by false i h rest = let r = rest i h in (omega (arith, r.0), omega (arith, r.1))

next_gap : (s : ℕ) (label : List ℕ) (qs : List PatternGraph) → GapBehind s label qs
next_gap s label [] i k j q at here high low = absurd (none-some q here)
next_gap s label (p ∷ ps) i k j q at here high low = by (has_edge_labelled p label) i j at here high low (next_gap (suc s) label ps)
  where
    number : suc s + length ps ≡ s + length (p ∷ ps)
    number = omega arith

    rest : List ℕ
    rest = places_with (suc s) label ps

    low_of : (i j : ℕ) → s + suc j < place_at (s ∷ rest) (suc i + 1) (s + length (p ∷ ps)) → suc s + j < place_at rest (i + 1) (s + length (p ∷ ps))
    low_of i j l = let same : suc i + 1 ≡ suc (i + 1) = omega arith in let m = subst (λ n. s + suc j < place_at (s ∷ rest) n (s + length (p ∷ ps))) same l in omega (arith, m)

    by : (b : Bool) (i j : ℕ) → slice_get (cond b (s ∷ rest) rest) i ≡ Some k → slice_get (p ∷ ps) j ≡ Some q → k < s + j → s + j < place_at (cond b (s ∷ rest) rest) (i + 1) (s + length (p ∷ ps))
        → GapBehind (suc s) label ps → has_edge_labelled q label ≡ false
    by true zero zero at here high low ih = absurd (omega (arith, same_Some s k at))
    by true zero (suc j) at here high low ih = first_gap (suc s) label ps j q here (subst (λ n. suc s + j < place_at rest 0 n) (sym number) (omega arith))
    by true (suc i) zero at here high low ih = absurd (omega (arith, (place_inside (suc s) label ps i k at).0))
    by true (suc i) (suc j) at here high low ih = ih i k j q at here (omega arith) (subst (λ n. suc s + j < place_at rest (i + 1) n) (sym number) (low_of i j low))
    by false i zero at here high low ih = absurd (omega (arith, (place_inside (suc s) label ps i k at).0))
    by false i (suc j) at here high low ih = ih i k j q at here (omega arith) (subst (λ n. suc s + j < place_at rest (i + 1) n) (sym number) (omega arith))

-- the next place is above
next_above : (s : ℕ) (label : List ℕ) (qs : List PatternGraph) (i k : ℕ) → slice_get (places_with s label qs) i ≡ Some k → k < place_at (places_with s label qs) (i + 1) (s + length qs)
next_above s label [] i k here = absurd (none-some k here)
next_above s label (p ∷ ps) i k here = by (has_edge_labelled p label) i here (λ i. next_above (suc s) label ps i k)
  where
    number : suc s + length ps ≡ s + length (p ∷ ps)
    number = omega arith

    rest : List ℕ
    rest = places_with (suc s) label ps

    low : (o : Option ℕ) → slice_get rest 0 ≡ o → s < unwrap_or o (s + length (p ∷ ps))
    low None e = omega arith
    low (Some n) e = omega (arith, (place_inside (suc s) label ps 0 n e).0)

    by : (b : Bool) (i : ℕ) → slice_get (cond b (s ∷ rest) rest) i ≡ Some k → ((i : ℕ) → slice_get rest i ≡ Some k → k < place_at rest (i + 1) (suc s + length ps))
        → k < place_at (cond b (s ∷ rest) rest) (i + 1) (s + length (p ∷ ps))
    by true zero h ih = let n = low (slice_get rest 0) refl in omega (arith, n, same_Some s k h)
    by true (suc i) h ih =
        let same : suc (i + 1) ≡ suc i + 1 = omega arith in
        subst (λ n. k < place_at (s ∷ rest) n (s + length (p ∷ ps))) same (subst (λ n. k < place_at rest (i + 1) n) number (ih i h))
    by false i h ih = subst (λ n. k < place_at rest (i + 1) n) number (ih i h)

place_few : (s : ℕ) (label : List ℕ) (qs : List PatternGraph) (i : ℕ) → place_at (places_with s label qs) i (s + length qs) ≤ s + length qs
place_few s label qs i = by (slice_get (places_with s label qs) i) refl
  where
    by : (o : Option ℕ) → slice_get (places_with s label qs) i ≡ o → place_at (places_with s label qs) i (s + length qs) ≤ s + length qs
    by None e = rw e (omega arith)
    by (Some k) e = rw e (omega (arith, (place_inside s label qs i k e).1))

-- the patterns that a walk of a route passes over after i places, k of which was the last
pub record IsTurn (label : List ℕ) (qs : List PatternGraph) (k next : ℕ) : Type 0 where
  pub inside : k < length qs
  pub above : k < next
  pub few : next ≤ length qs
  pub passed : ArePassed label qs (k + 1) next

module _ (label : List ℕ) (qs : List PatternGraph) (places : List ℕ) (is : places ≡ places_with 0 label qs) where
  zero_more : 0 + length qs ≡ length qs
  zero_more = omega arith

  pub turn_at : (i k : ℕ) → slice_get places i ≡ Some k → IsTurn label qs k (place_at places (i + 1) (length qs))
  turn_at i k here =
      let at : slice_get (places_with 0 label qs) i ≡ Some k = ap (λ l. slice_get l i) (sym is) ∙ here in
      let same : place_at (places_with 0 label qs) (i + 1) (0 + length qs) ≡ place_at places (i + 1) (length qs) = ap (λ l. place_at l (i + 1) (0 + length qs)) (sym is) ∙ ap (place_at places (i + 1)) zero_more in
      record {
        inside = omega (arith, (place_inside 0 label qs i k at).1);
        above = subst (λ n. k < n) same (next_above 0 label qs i k at);
        few = omega (arith, same, place_few 0 label qs (i + 1));
        passed = λ j q high low e. next_gap 0 label qs i k j q at e (omega arith) (omega (arith, same, low));
      }

  pub first_passed : ArePassed label qs 0 (place_at places 0 (length qs))
  first_passed j q high low e =
      let same : place_at (places_with 0 label qs) 0 (0 + length qs) ≡ place_at places 0 (length qs) = ap (λ l. place_at l 0 (0 + length qs)) (sym is) ∙ ap (place_at places 0) zero_more in
      first_gap 0 label qs j q e (omega (arith, same, low))

  pub first_few : place_at places 0 (length qs) ≤ length qs
  first_few =
      let same : place_at (places_with 0 label qs) 0 (0 + length qs) ≡ place_at places 0 (length qs) = ap (λ l. place_at l 0 (0 + length qs)) (sym is) ∙ ap (place_at places 0) zero_more in
      omega (arith, same, place_few 0 label qs 0)
