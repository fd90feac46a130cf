-- What a triple adds to the counts.
use Rattle.std.proofs.Common.{◌≡◌, ◌≢◌, ℕ, zero, suc, ◌+◌, ◌<◌, ◌≤◌, ◌==◌, Bool, true, false, ◌&&◌, ◌||◌, not, cond, List, [], ◌∷◌, length, get_or, set, take, get_or-set_same, get_or-set_other, refl, sym, ap, ◌∙◌, arith}
use Rattle.std.specs.Prelude.{Option, Some, None, count_by, slice_get}
use Rattle.std.specs.Str.{bytes_eq}
use Rattle.std.specs.Cmp.Lexicographic.{bytes_decides}
use Rattle.std.proofs.lemmas.Bool.{and_parts, eqb-true, eq-eqb, ne_eqb}
use Rattle.std.proofs.lemmas.List.Sums.{sum_by-cons, sum_by_more, sum_by-take-le}
use Rattle.std.proofs.lemmas.Option.{get_or_from_slice_get, slice_get_read, slice_get_within}
use Rattle.flux_model.specs.Graph.{Graph}
use Rattle.flux_model.specs.declared.graph.Triple.{Triple}
use Rattle.graph_traits.specs.Numbers.{IsNumberOf}
use Rattle.graph_rows.proofs.CountLemmas.{count_same}
use Rattle.label_cards.specs.Plans.{labels_of, fits_told, is_told, is_label, fits_set, passes, passes_at, test_at, row_at, is_number, IsPlan}
use Rattle.flux_model.specs.Pattern.{fits_labels}
use Rattle.label_cards.specs.declared.plan.LabelSet.{LabelSet}
use Rattle.label_cards.specs.declared.plan.Plan.{Plan}
use Rattle.label_cards.specs.declared.plan.TripleTest.{TripleTest}

-- ---- one place of a row, where f says which tests are passed

and-true : (b : Bool) → (b && true) ≡ b
and-true true = refl
and-true false = refl

and-false : (b : Bool) → (b && false) ≡ false
and-false true = refl
and-false false = refl

row-turn : (b : Bool) (row : List ℕ) (i x p : ℕ) → slice_get row i ≡ Some x
    → count_by (λ y. y == p && b) (take (i + 1) row) ≡ count_by (λ y. y == p && b) (take i row) + cond (x == p && b) 1 0
row-turn b row i x p e =
    sum_by_more (λ y. cond (y == p && b) 1 0) row i x (slice_get_within row i x e)
    ∙ ap (λ z. count_by (λ y. y == p && b) (take i row) + cond (z == p && b) 1 0) (get_or_from_slice_get row i x x e)

module _ (f : ℕ → Bool) (row : List ℕ) (i x : ℕ) (here : slice_get row i ≡ Some x) (b : Bool) (is : b ≡ f x) where
  same-place : (p : ℕ) → (x == p && b) ≡ (x == p && f p)
  same-place p = by (x == p) refl
    where
      by : (c : Bool) → (x == p) ≡ c → (c && b) ≡ (c && f p)
      by true e = is ∙ ap f (eqb-true x p e)
      by false e = refl

  -- one place further
  pub counted-next : (p first old now : ℕ) → now ≡ old + cond (x == p && b) 1 0 → old ≡ first + count_by (λ y. y == p && f p) (take i row)
      → now ≡ first + count_by (λ y. y == p && f p) (take (i + 1) row)
  counted-next p first old now grown before =
      omega (arith, grown, before, row-turn (f p) row i x p here, ap {B = ℕ} (λ c. cond c 1 0) (same-place p))

  -- there is room for it
  pub room-here : (first old most : ℕ) → b ≡ true → count_by (λ y. y == x && f x) row ≡ cond (f x) 1 0 → old ≡ first + count_by (λ y. y == x && f x) (take i row)
      → first + 1 < most → old + 1 < most
  room-here first old most passed once before room =
      let one : ◌≡◌ {A = ℕ} (cond (x == x && f x) 1 0) 1 = λ j. cond ((eq-eqb x x refl) j && (sym is ∙ passed) j) 1 0 in
      let due : ◌≡◌ {A = ℕ} (cond (f x) 1 0) 1 = ap (λ c. cond c 1 0) (sym is ∙ passed) in
      omega (arith, row-turn (f x) row i x x here, one, due, once, before, room, sum_by-take-le (λ y. cond (y == x && f x) 1 0) row (i + 1))

-- ---- one test

-- the set that was read tells whether a vertex fits it
pub set-here : (g : Graph) (sets : List LabelSet) (c v : ℕ) (set : LabelSet) → set ≡ get_or sets c set → c < length sets → fits_labels g set.labels.now v ≡ fits_set sets g c v
set-here g sets c v set here within = ap (λ o. fits_told g (labels_of o) v) (sym (slice_get_read sets (length sets) c set refl within here))

-- where all else is so, the head decides
pub head-decides : (texts : ℕ → Option (List ℕ)) (g : Graph) (sets : List LabelSet) (test : TripleTest) (t : Triple) (n : ℕ) (b : Bool) → test.label ≡ Some n → texts n ≡ Some t.label
    → fits_set sets g test.tail t.src ≡ true → (not test.is_loop || t.src == t.dst) ≡ true → b ≡ fits_set sets g test.head t.dst → b ≡ passes texts g sets test t
head-decides texts g sets test t n b asks text tail ends is =
    let label : is_label texts test.label t.label ≡ true = ap (λ o. is_label texts o t.label) asks ∙ ap (λ o. is_told o t.label) text ∙ (bytes_decides t.label t.label).1 refl in
    is ∙ sym (and-true (fits_set sets g test.head t.dst)) ∙ (λ i. sym label i && sym tail i && fits_set sets g test.head t.dst && sym ends i)

-- ---- counts that go up place by place, where f says which of them go up

pub grown-next : (f : ℕ → Bool) (c : ℕ) (b : Bool) → b ≡ f c → (j first old now : ℕ) → now ≡ old + cond (c == j && b) 1 0
    → (j < c → old ≡ first + cond (f j) 1 0) → (c ≤ j → old ≡ first) → j < c + 1 → now ≡ first + cond (f j) 1 0
grown-next f c b is j first old now grown before rest below = by (c == j) refl grown
  where
    by : (d : Bool) → (c == j) ≡ d → now ≡ old + cond (d && b) 1 0 → now ≡ first + cond (f j) 1 0
    by true e grown =
        let same : c ≡ j = eqb-true c j e in
        let bit : ◌≡◌ {A = ℕ} (cond b 1 0) (cond (f j) 1 0) = ap {B = ℕ} (λ d. cond d 1 0) (is ∙ ap f same) in
        omega (arith, grown, rest (omega (arith, same)), bit)
    by false e grown =
        let other : j ≢ c = λ same. absurd (let bad : false ≡ true = sym e ∙ eq-eqb c j (sym same) in cc) in
        omega (arith, grown, before (omega (arith, other, below)))

pub rest-next : (c j : ℕ) (b : Bool) (first old now : ℕ) → now ≡ old + cond (c == j && b) 1 0 → c + 1 ≤ j → old ≡ first → now ≡ first
rest-next c j b first old now grown after before =
    let no : (c == j) ≡ false = ne_eqb c j (λ same. absurd (omega (arith, same, after))) in
    let bit : ◌≡◌ {A = ℕ} (cond (c == j && b) 1 0) 0 = ap {B = ℕ} (λ d. cond (d && b) 1 0) no in
    omega (arith, grown, before, bit)

pub fitted-next : (f : ℕ → Bool) (fitted : List Bool) (c : ℕ) (b : Bool) → b ≡ f c → c < length fitted → ((j : ℕ) → j < c → get_or fitted j false ≡ f j)
    → (j : ℕ) → j < c + 1 → get_or (set fitted c b) j false ≡ f j
fitted-next f fitted c b is within before j below = by (c == j) refl
  where
    by : (d : Bool) → (c == j) ≡ d → get_or (set fitted c b) j false ≡ f j
    by true e =
        let same : c ≡ j = eqb-true c j e in
        ap (λ k. get_or (set fitted c b) k false) (sym same) ∙ get_or-set_same fitted c b false within ∙ is ∙ ap f same
    by false e =
        let other : j ≢ c = λ same. absurd (let bad : false ≡ true = sym e ∙ eq-eqb c j (sym same) in cc) in
        get_or-set_other fitted c j b false other ∙ before j (omega (arith, other, below))

-- ---- the row of the triple's label has each test that it passes once

module _ (texts : ℕ → Option (List ℕ)) (g : Graph) (plan : Plan) (h : IsPlan texts plan) (t : Triple) (n : ℕ) (text : texts n ≡ Some t.label) where
  stands : (tests : List TripleTest) (p : ℕ) → is_label texts (test_at tests p).label t.label ≡ true → slice_get tests p ≡ Some (test_at tests p)
  stands [] p e = cc
  stands (z ∷ zs) zero e = refl
  stands (z ∷ zs) (suc p) e = stands zs p e

  numbered : (number : Option ℕ) (label : List ℕ) → is_label texts number t.label ≡ true → IsNumberOf texts label number → is_number number n ≡ true
  numbered None label e tells = cc
  numbered (Some m) label e tells =
      let meant : texts m ≡ Some label = (tells m).1 refl in
      let told : bytes_eq label t.label ≡ true = ap (λ o. is_told o t.label) (sym meant) ∙ e in
      let same : label ≡ t.label = (bytes_decides label t.label).0 told in
      let one : ◌≡◌ {A = Option ℕ} (Some m) (Some n) = (tells n).0 (text ∙ ap Some (sym same)) in
      let alike : m ≡ n = cc in
      eq-eqb m n alike

  asked : (p : ℕ) → passes_at texts g plan p t ≡ true → is_number (test_at plan.tests.items p).label n ≡ true
  asked p e =
      let test = test_at plan.tests.items p in
      let label = is_label texts test.label t.label in
      let tail = fits_set plan.sets.items g test.tail t.src in
      let head = fits_set plan.sets.items g test.head t.dst in
      let most = and_parts (label && tail && head) (not test.is_loop || t.src == t.dst) e in
      let both = and_parts (label && tail) head most.0 in
      let label = (and_parts label tail both.0).0 in
      let sound = h.tests p (test_at plan.tests.items p) (stands plan.tests.items p label) in
      numbered (test_at plan.tests.items p).label sound.label label sound.number

  none : (p : ℕ) (xs : List ℕ) → count_by (λ x. x == p && false) xs ≡ 0
  none p [] = refl
  none p (x ∷ xs) =
      let here : ◌≡◌ {A = ℕ} (cond (x == p && false) 1 0) 0 = ap (λ c. cond c 1 0) (and-false (x == p)) in
      omega (arith, sum_by-cons (λ y. cond (y == p && false) 1 0) x xs, here, none p xs)

  pub turn-adds : (p : ℕ) → count_by (λ x. x == p && passes_at texts g plan p t) (row_at plan.rows.items n) ≡ cond (passes_at texts g plan p t) 1 0
  turn-adds p = by (passes_at texts g plan p t) refl
    where
      by : (b : Bool) → passes_at texts g plan p t ≡ b → count_by (λ x. x == p && b) (row_at plan.rows.items n) ≡ cond b 1 0
      by true e =
          count_same (λ x. x == p && true) (λ x. x == p) (row_at plan.rows.items n) (λ x. and-true (x == p))
          ∙ h.rows.once n p ∙ ap (λ c. cond c 1 0) (asked p e)
      by false e = none p (row_at plan.rows.items n)
