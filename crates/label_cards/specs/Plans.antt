-- What a plan counts, and where a pattern finds its counts.
use Rattle.std.specs.Prelude.{◌≡◌, ◌<◌, ◌==◌, ◌&&◌, ◌||◌, ℕ, Bool, false, not, List, [], length, Option, Some, None, count_by, slice_get, slice_index, slice_index_or, if◌then◌else◌}
use Rattle.std.specs.List.{AllZip}
use Rattle.std.specs.Str.{bytes_eq}
use Rattle.std.specs.declared.alloc.Global.{Global}
use Rattle.std.specs.declared.vec.Vec.{Vec}
use Rattle.flux_model.specs.Graph.{Graph}
use Rattle.flux_model.specs.Pattern.{PatternGraph, HasEnds, fits_labels}
use Rattle.flux_model.specs.declared.graph.Triple.{Triple}
use Rattle.flux_model.specs.declared.pattern.PatternEdge.{PatternEdge}
use Rattle.graph_traits.specs.Numbers.{IsNumberOf, IsNumberIn}
use Rattle.label_cards.specs.declared.plan.LabelSet.{LabelSet}
use Rattle.label_cards.specs.declared.plan.Places.{Places}
use Rattle.label_cards.specs.declared.plan.Plan.{Plan}
use Rattle.label_cards.specs.declared.plan.TripleTest.{TripleTest}

-- ---- sets of labels

abbrev pub labels_of : Option LabelSet → Option (List (List ℕ))
labels_of None = None
labels_of (Some set) = Some set.labels.now

-- the set at a place, if there is one
abbrev pub set_at : List LabelSet → ℕ → Option (List (List ℕ))
set_at sets c = labels_of (slice_get sets c)

-- whether a vertex has each of the labels, if labels are told
abbrev pub fits_told : Graph → Option (List (List ℕ)) → ℕ → Bool
fits_told g None v = false
fits_told g (Some labels) v = fits_labels g labels v

-- whether it has those of the set at a place
abbrev pub fits_set : List LabelSet → Graph → ℕ → ℕ → Bool
fits_set sets g c v = fits_told g (set_at sets c) v

-- each set stands where it stood
abbrev pub AreSetsKept : List LabelSet → List LabelSet → Type 0
AreSetsKept old new = (c : ℕ) (labels : List (List ℕ)) → set_at old c ≡ Some labels → set_at new c ≡ Some labels

-- the labels of each vertex are the set at its place
abbrev pub AreSetsOf : List LabelSet → List (List (List ℕ)) → List ℕ → Type 0
AreSetsOf sets all places = AllZip (λ labels c. set_at sets c ≡ Some labels) all places

-- ---- tests of triples

-- whether a text that may be told is the label
abbrev pub is_told : Option (List ℕ) → List ℕ → Bool
is_told None label = false
is_told (Some text) label = bytes_eq text label

-- whether the number stands for the label
abbrev pub is_label : (ℕ → Option (List ℕ)) → Option ℕ → List ℕ → Bool
is_label texts None label = false
is_label texts (Some n) label = is_told (texts n) label

-- whether the triple is what the test asks for
abbrev pub passes : (ℕ → Option (List ℕ)) → Graph → List LabelSet → TripleTest → Triple → Bool
passes texts g sets test t =
    is_label texts test.label t.label && fits_set sets g test.tail t.src && fits_set sets g test.head t.dst && (not test.is_loop || t.src == t.dst)

-- the test at a place; past the end one that nothing passes
abbrev pub test_at : List TripleTest → ℕ → TripleTest
test_at tests p = slice_index_or tests p (record { label = None; tail = 0; head = 0; is_loop = false })

-- whether the triple is what the test at a place asks for
abbrev pub passes_at : (ℕ → Option (List ℕ)) → Graph → Plan → ℕ → Triple → Bool
passes_at texts g plan p t = passes texts g plan.sets.items (test_at plan.tests.items p) t

-- each test stands where it stood
abbrev pub AreTestsKept : List TripleTest → List TripleTest → Type 0
AreTestsKept old new = (p : ℕ) (test : TripleTest) → slice_get old p ≡ Some test → slice_get new p ≡ Some test

-- the place has the test that a pattern edge makes, where the sets of the pattern's vertices have these places
pub record IsTestOf (texts : ℕ → Option (List ℕ)) (g : Graph) (tests : List TripleTest) (sets : List ℕ) (e : PatternEdge) (p : ℕ) : Type 0 where
  pub number : Option ℕ
  pub ends : HasEnds (length sets) e
  pub is : IsNumberIn texts g e.label number
  pub stands : slice_get tests p ≡ Some (record { label = number; tail = slice_index sets e.tail; head = slice_index sets e.head; is_loop = e.tail == e.head })

-- each edge has its test
abbrev pub AreTestsOf : (ℕ → Option (List ℕ)) → Graph → List TripleTest → List ℕ → List PatternEdge → List ℕ → Type 0
AreTestsOf texts g tests sets edges places = AllZip (IsTestOf texts g tests sets) edges places

-- ---- rows of tests

abbrev pub places_of : Option (Vec ℕ Global) → List ℕ
places_of None = []
places_of (Some row) = row.items

-- the places in the row of a label's number
abbrev pub row_at : List (Vec ℕ Global) → ℕ → List ℕ
row_at rows n = places_of (slice_get rows n)

abbrev pub is_number : Option ℕ → ℕ → Bool
is_number None n = false
is_number (Some m) n = m == n

-- the row of a number has the places of the tests that ask for its label, each once
pub record AreRowsOf (tests : List TripleTest) (rows : List (Vec ℕ Global)) : Type 0 where
  pub label : (n i p : ℕ) → slice_get (row_at rows n) i ≡ Some p → (test_at tests p).label ≡ Some n
  pub once : (n p : ℕ) → count_by (λ x. x == p) (row_at rows n) ≡ (if is_number (test_at tests p).label n then 1 else 0)

-- ---- the whole

-- the ends of a test have their sets, and its number stands for one label, as no other number does
pub record IsTestIn (texts : ℕ → Option (List ℕ)) (sets : List LabelSet) (test : TripleTest) : Type 0 where
  pub tail : test.tail < length sets
  pub head : test.head < length sets
  pub label : List ℕ
  pub number : IsNumberOf texts label test.label

-- what a plan is, by the texts that the numbers of labels stand for
pub record IsPlan (texts : ℕ → Option (List ℕ)) (plan : Plan) : Type 0 where
  pub tests : (p : ℕ) (test : TripleTest) → slice_get plan.tests.items p ≡ Some test → IsTestIn texts plan.sets.items test
  pub rows : AreRowsOf plan.tests.items plan.rows.items

-- all that a plan has stands in another one, at the same places
pub record IsKept (old new : Plan) : Type 0 where
  pub sets : AreSetsKept old.sets.items new.sets.items
  pub tests : AreTestsKept old.tests.items new.tests.items

-- the places of a pattern's sets and tests
pub record IsFound (texts : ℕ → Option (List ℕ)) (g : Graph) (plan : Plan) (q : PatternGraph) (places : Places) : Type 0 where
  pub vertices : AreSetsOf plan.sets.items q.labels places.vertices.items
  pub edges : AreTestsOf texts g plan.tests.items places.vertices.items q.edges places.edges.items
