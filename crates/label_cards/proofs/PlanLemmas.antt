-- A plan as patterns are taken in.
use Rattle.std.proofs.Common.{◌≡◌, ◌≢◌, ℕ, zero, suc, ◌+◌, ◌<◌, ◌==◌, Bool, true, false, cond, List, [], ◌∷◌, ◌++◌, length, get_or, refl, sym, ap, subst, ◌∙◌, arith}
use Rattle.std.specs.Prelude.{Option, Some, None, count_by, slice_get}
use Rattle.std.specs.declared.alloc.Global.{Global}
use Rattle.std.specs.declared.vec.Vec.{Vec}
use Rattle.std.proofs.lemmas.Bool.{eqb-true, eq-eqb}
use Rattle.std.proofs.lemmas.Option.{slice_get_within, slice_get_read, slice_get-get_or, get_or_from_slice_get, unwrap_or-slice_get}
use Rattle.std.specs.Option.{unwrap_or}
use Rattle.std.proofs.lemmas.List.{ext_get_or}
use Rattle.flux_model.specs.Graph.{Graph}
use Rattle.flux_model.specs.Pattern.{PatternGraph, HasEnds}
use Rattle.flux_model.specs.declared.pattern.PatternEdge.{PatternEdge}
use Rattle.graph_traits.specs.Numbers.{IsNumberOf}
use Rattle.label_cards.specs.Plans.{labels_of, set_at, AreSetsKept, AreSetsOf, test_at, AreTestsKept, IsTestOf, AreTestsOf, row_at, is_number, AreRowsOf, IsTestIn, IsKept, IsFound}
use Rattle.label_cards.specs.declared.plan.LabelSet.{LabelSet}
use Rattle.label_cards.specs.declared.plan.Places.{Places}
use Rattle.label_cards.specs.declared.plan.Plan.{Plan}
use Rattle.label_cards.specs.declared.plan.TripleTest.{TripleTest}
use Rattle.label_cards.proofs.GrownLemmas.{get-append, get-fresh, count-append, all-more, all-at}

-- ---- sets

pub set-within : (sets : List LabelSet) (c : ℕ) (labels : List (List ℕ)) → set_at sets c ≡ Some labels → c < length sets
set-within sets c labels e = by (slice_get sets c) refl e
  where
    by : (o : Option LabelSet) → slice_get sets c ≡ o → labels_of o ≡ Some labels → c < length sets
    by None is e = cc
    by (Some set) is e = slice_get_within sets c set is

pub sets-kept : (old new : List LabelSet) (all : List (List (List ℕ))) (places : List ℕ) → AreSetsKept old new → AreSetsOf old all places → AreSetsOf new all places
sets-kept old new all places kept were =
    all-more (λ labels c. set_at old c ≡ Some labels) (λ labels c. set_at new c ≡ Some labels) (λ labels c e. kept c labels e) all places were

-- sets of labels that agree at each place are the same
pub same-labels : (labels others : List (List ℕ)) → length labels ≡ length others → ((j : ℕ) → j < length labels → slice_get labels j ≡ slice_get others j) → labels ≡ others
same-labels labels others size each =
    ext_get_or [] labels others size (λ j below. sym (unwrap_or-slice_get labels j []) ∙ ap (λ o. unwrap_or o []) (each j below) ∙ unwrap_or-slice_get others j [])

-- ---- tests

pub tests-kept : (texts : ℕ → Option (List ℕ)) (g : Graph) (old new : List TripleTest) (sets : List ℕ) (edges : List PatternEdge) (places : List ℕ)
    → AreTestsKept old new → AreTestsOf texts g old sets edges places → AreTestsOf texts g new sets edges places
tests-kept texts g old new sets edges places kept were =
    all-more (IsTestOf texts g old sets) (IsTestOf texts g new sets)
    (λ e p here. record { number = here.number; ends = here.ends; is = here.is; stands = kept p (record { label = here.number; tail = get_or sets e.tail 0; head = get_or sets e.head 0; is_loop = e.tail == e.head }) here.stands })
    edges places were

-- the tests of a plan are sound as long as each that came in is
pub tests-sound : (texts : ℕ → Option (List ℕ)) (sets : List LabelSet) (old new : List TripleTest) (test : TripleTest)
    → ((p : ℕ) (other : TripleTest) → slice_get old p ≡ Some other → IsTestIn texts sets other) → AreTestsKept old new
    → ((p : ℕ) (other : TripleTest) → slice_get new p ≡ Some other → slice_get old p ≡ None → other ≡ test) → IsTestIn texts sets test
    → (p : ℕ) (other : TripleTest) → slice_get new p ≡ Some other → IsTestIn texts sets other
tests-sound texts sets old new test were kept fresh here p other e = by (slice_get old p) refl
  where
    by : (o : Option TripleTest) → slice_get old p ≡ o → IsTestIn texts sets other
    by None is = rw (fresh p other e is) here
    by (Some same) is =
        let e' : ◌≡◌ {A = Option TripleTest} (Some same) (Some other) = sym (kept p same is) ∙ e in
        let alike : same ≡ other = cc in
        rw alike at (were p same is)

none-within : {X : Type 0} (xs : List X) (c : ℕ) → c < length xs → slice_get xs c ≡ None → ⊥
none-within [] c within e = omega (arith, within)
none-within (x ∷ xs) zero within e = cc
none-within (x ∷ xs) (suc c) within e = none-within xs c (omega (arith, within)) e

-- more sets spoil no test
pub tests-wider : (texts : ℕ → Option (List ℕ)) (old new : List LabelSet) (test : TripleTest) → AreSetsKept old new → IsTestIn texts old test → IsTestIn texts new test
tests-wider texts old new test kept here = record { tail = further test.tail here.tail; head = further test.head here.head; label = here.label; number = here.number }
  where
    further : (c : ℕ) → c < length old → c < length new
    further c within = by (slice_get old c) refl
      where
        by : (o : Option LabelSet) → slice_get old c ≡ o → c < length new
        by None is = absurd (none-within old c within is)
        by (Some set) is = set-within new c set.labels.now (kept c set.labels.now (ap labels_of is))

-- the test that an edge makes
pub test-in : (texts : ℕ → Option (List ℕ)) (sets : List LabelSet) (all : List (List (List ℕ))) (places : List ℕ) → AreSetsOf sets all places → (e : PatternEdge) → HasEnds (length all) e
    → (number : Option ℕ) → IsNumberOf texts e.label number
    → IsTestIn texts sets (record { label = number; tail = get_or places e.tail 0; head = get_or places e.head 0; is_loop = e.tail == e.head })
test-in texts sets all places are e ends number tells = record { tail = placed e.tail ends.0; head = placed e.head ends.1; label = e.label; number = tells }
  where
    placed : (u : ℕ) → u < length all → get_or places u 0 < length sets
    placed u below = set-within sets (get_or places u 0) (get_or all u []) (all-at (λ labels c. set_at sets c ≡ Some labels) all places [] 0 u are below)

-- ---- rows

asks : (number : Option ℕ) (n : ℕ) → is_number number n ≡ true → number ≡ Some n
asks None n e = cc
asks (Some m) n e = ap Some (eqb-true m n e)

-- a test that stood asks for the same
test-kept : (tests : List TripleTest) (test : TripleTest) (p n : ℕ) → (test_at tests p).label ≡ Some n → test_at (tests ++ test ∷ []) p ≡ test_at tests p
test-kept [] test p n e = cc
test-kept (z ∷ zs) test zero n e = refl
test-kept (z ∷ zs) test (suc p) n e = test-kept zs test p n e

test-other : (tests : List TripleTest) (test : TripleTest) (p : ℕ) → p ≢ length tests → test_at (tests ++ test ∷ []) p ≡ test_at tests p
test-other [] test zero ne = absurd (ne refl)
test-other [] test (suc p) ne = refl
test-other (z ∷ zs) test zero ne = refl
test-other (z ∷ zs) test (suc p) ne = test-other zs test p (λ e. ne (ap suc e))

test-last : (tests : List TripleTest) (test : TripleTest) → test_at (tests ++ test ∷ []) (length tests) ≡ test
test-last [] test = refl
test-last (z ∷ zs) test = test-last zs test

test-past : (tests : List TripleTest) → (test_at tests (length tests)).label ≡ None
test-past [] = refl
test-past (z ∷ zs) = test-past zs

-- one test more, whose place is put into the row that it belongs to
rows-more : (tests : List TripleTest) (old new : List (Vec ℕ Global)) (test : TripleTest)
    → ((n : ℕ) → row_at new n ≡ cond (is_number test.label n) (row_at old n ++ length tests ∷ []) (row_at old n)) → AreRowsOf tests old → AreRowsOf (tests ++ test ∷ []) new
rows-more tests old new test grown were = record { label = labels; once = onces }
  where
    labels : (n i p : ℕ) → slice_get (row_at new n) i ≡ Some p → (test_at (tests ++ test ∷ []) p).label ≡ Some n
    labels n i p e = by (is_number test.label n) refl (ap (λ (r : List ℕ). slice_get r i) (sym (grown n)) ∙ e)
      where
        kept : slice_get (row_at old n) i ≡ Some p → (test_at (tests ++ test ∷ []) p).label ≡ Some n
        kept e = let was = were.label n i p e in ap (λ (t : TripleTest). t.label) (test-kept tests test p n was) ∙ was

        late : (o : Option ℕ) → slice_get (row_at old n) i ≡ o → is_number test.label n ≡ true → slice_get (row_at old n ++ length tests ∷ []) i ≡ Some p → (test_at (tests ++ test ∷ []) p).label ≡ Some n
        late None is number e =
            let same : p ≡ length tests = get-fresh (row_at old n) (length tests) i p e is in
            ap (λ x. (test_at (tests ++ test ∷ []) x).label) same ∙ ap (λ (t : TripleTest). t.label) (test-last tests test) ∙ asks test.label n number
        late (Some x) is number e =
            let e' : ◌≡◌ {A = Option ℕ} (Some x) (Some p) = sym (get-append (row_at old n) (length tests) i x is) ∙ e in
            kept (is ∙ e')

        by : (b : Bool) → is_number test.label n ≡ b → slice_get (cond b (row_at old n ++ length tests ∷ []) (row_at old n)) i ≡ Some p → (test_at (tests ++ test ∷ []) p).label ≡ Some n
        by true number e = late (slice_get (row_at old n) i) refl number e
        by false number e = kept e

    onces : (n p : ℕ) → count_by (λ x. x == p) (row_at new n) ≡ cond (is_number (test_at (tests ++ test ∷ []) p).label n) 1 0
    onces n p =
        ap (count_by (λ x. x == p)) (grown n) ∙ by (is_number test.label n) refl (length tests == p) refl
      where
        row : Bool → List ℕ
        row b = cond b (row_at old n ++ length tests ∷ []) (row_at old n)

        before : count_by (λ x. x == p) (row_at old n) ≡ cond (is_number (test_at tests p).label n) 1 0
        before = were.once n p

        more : count_by (λ x. x == p) (row_at old n ++ length tests ∷ []) ≡ count_by (λ x. x == p) (row_at old n) + cond (length tests == p) 1 0
        more = count-append p (row_at old n) (length tests)

        by : (b : Bool) → is_number test.label n ≡ b → (c : Bool) → (length tests == p) ≡ c → count_by (λ x. x == p) (row b) ≡ cond (is_number (test_at (tests ++ test ∷ []) p).label n) 1 0
        by b number true here =
            let same : length tests ≡ p = eqb-true (length tests) p here in
            let none : is_number (test_at tests p).label n ≡ false = ap (λ x. is_number (test_at tests x).label n) (sym same) ∙ ap (λ o. is_number o n) (test-past tests) in
            let now : is_number (test_at (tests ++ test ∷ []) p).label n ≡ b = ap (λ x. is_number (test_at (tests ++ test ∷ []) x).label n) (sym same) ∙ ap (λ (t : TripleTest). is_number t.label n) (test-last tests test) ∙ number in
            counted b now (before ∙ ap (λ d. cond d 1 0) none)
          where
            counted : (b : Bool) → is_number (test_at (tests ++ test ∷ []) p).label n ≡ b → ◌≡◌ {A = ℕ} (count_by (λ x. x == p) (row_at old n)) 0 → count_by (λ x. x == p) (row b) ≡ cond (is_number (test_at (tests ++ test ∷ []) p).label n) 1 0
            counted true now zero_before =
                let bit : ◌≡◌ {A = ℕ} (cond (length tests == p) 1 0) 1 = ap (λ d. cond d 1 0) here in
                let due : ◌≡◌ {A = ℕ} (cond (is_number (test_at (tests ++ test ∷ []) p).label n) 1 0) 1 = ap (λ d. cond d 1 0) now in
                omega (arith, more, bit, due, zero_before)
            counted false now zero_before =
                let due : ◌≡◌ {A = ℕ} (cond (is_number (test_at (tests ++ test ∷ []) p).label n) 1 0) 0 = ap (λ d. cond d 1 0) now in
                omega (arith, due, zero_before)
        by b number false here =
            let same = test-other tests test p (λ e. absurd (let bad : false ≡ true = sym here ∙ eq-eqb (length tests) p (sym e) in cc)) in
            unchanged b (ap (λ (t : TripleTest). cond (is_number t.label n) 1 0) same)
          where
            unchanged : (b : Bool) → ◌≡◌ {A = ℕ} (cond (is_number (test_at (tests ++ test ∷ []) p).label n) 1 0) (cond (is_number (test_at tests p).label n) 1 0)
                → count_by (λ x. x == p) (row b) ≡ cond (is_number (test_at (tests ++ test ∷ []) p).label n) 1 0
            unchanged true same =
                let bit : ◌≡◌ {A = ℕ} (cond (length tests == p) 1 0) 0 = ap (λ d. cond d 1 0) here in
                omega (arith, more, bit, same, before)
            unchanged false same = before ∙ sym same

pub rows-grown : (tests more : List TripleTest) (old new : List (Vec ℕ Global)) (test : TripleTest) → more ≡ tests ++ test ∷ []
    → ((n : ℕ) → row_at new n ≡ cond (is_number test.label n) (row_at old n ++ length tests ∷ []) (row_at old n)) → AreRowsOf tests old → AreRowsOf more new
rows-grown tests more old new test is grown were = subst (λ l. AreRowsOf l new) (sym is) (rows-more tests old new test grown were)

-- ---- a place in a row

test-within : (tests : List TripleTest) (p n : ℕ) → (test_at tests p).label ≡ Some n → p < length tests
test-within [] p n e = cc
test-within (z ∷ zs) zero n e = omega arith
test-within (z ∷ zs) (suc p) n e = omega (arith, test-within zs p n e)

-- has a test
pub place-within : (tests : List TripleTest) (rows : List (Vec ℕ Global)) → AreRowsOf tests rows → (n i p : ℕ) → slice_get (row_at rows n) i ≡ Some p → p < length tests
place-within tests rows h n i p e = test-within tests p n (h.label n i p e)

same-test : (known test : TripleTest) → known.label ≡ test.label → known.tail ≡ test.tail → known.head ≡ test.head → known.is_loop ≡ test.is_loop → known ≡ test
same-test known test a b c d = λ i. record { label = a i; tail = b i; head = c i; is_loop = d i }

-- by the list that was read
pub row-here : (rows : List (Vec ℕ Global)) (n : ℕ) (places : List ℕ) (i : ℕ) → places ≡ row_at rows n → i < length places → slice_get (row_at rows n) i ≡ Some (get_or places i 0)
row-here rows n places i is within = ap (λ (r : List ℕ). slice_get r i) (sym is) ∙ slice_get-get_or places i 0 within

module _ (tests : List TripleTest) (rows : List (Vec ℕ Global)) (h : AreRowsOf tests rows) (n i p : ℕ) (e : slice_get (row_at rows n) i ≡ Some p) (known : TripleTest) (here : known ≡ get_or tests p known) where
  -- its test stands there
  pub known-stands : slice_get tests p ≡ Some known
  known-stands = slice_get_read tests (length tests) p known refl (place-within tests rows h n i p e) here

  pub known-at : test_at tests p ≡ known
  known-at = get_or_from_slice_get tests p known (record { label = None; tail = 0; head = 0; is_loop = false }) known-stands

  -- and asks for the row's label
  pub known-asks : known.label ≡ Some n
  known-asks = ap (λ (t : TripleTest). t.label) (sym known-at) ∙ h.label n i p e

  -- it is another test, if it agrees with that in all else
  pub known-same : (test : TripleTest) → test.label ≡ Some n → known.tail ≡ test.tail → known.head ≡ test.head → known.is_loop ≡ test.is_loop → slice_get tests p ≡ Some test
  known-same test label tail head is_loop = known-stands ∙ ap Some (same-test known test (known-asks ∙ sym label) tail head is_loop)

-- ---- the whole

pub found-kept : (texts : ℕ → Option (List ℕ)) (g : Graph) (old new : Plan) → IsKept old new → (q : PatternGraph) (places : Places) → IsFound texts g old q places → IsFound texts g new q places
found-kept texts g old new kept q places found = record {
  vertices = sets-kept old.sets.items new.sets.items q.labels places.vertices.items kept.sets found.vertices;
  edges = tests-kept texts g old.tests.items new.tests.items places.vertices.items q.edges places.edges.items kept.tests found.edges;
}
