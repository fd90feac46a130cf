-- Counts that grow, and by what.
use Rattle.std.specs.Prelude.{◌≡◌, ◌+◌, ◌<◌, ◌^◌, ℕ, Bool, Option, List, length, slice_index, slice_index_or, false, count_by, map, EachIndex, if◌then◌else◌}
use Rattle.flux_model.specs.Graph.{Graph, ids}
use Rattle.flux_model.specs.declared.graph.Triple.{Triple}
use Rattle.graph_traits.specs.Rows.{triples_from}
use Rattle.label_cards.specs.declared.pass.Counts.{Counts}
use Rattle.label_cards.specs.declared.plan.LabelSet.{LabelSet}
use Rattle.flux_model.specs.Tree.{CardLists}
use Rattle.label_cards.specs.declared.plan.Places.{Places}
use Rattle.label_cards.specs.declared.plan.Plan.{Plan}
use Rattle.label_cards.specs.Plans.{fits_set, passes_at}

-- what v adds to the count of the set at place c
abbrev pub vertex_adds : Graph → List LabelSet → ℕ → ℕ → ℕ
vertex_adds g sets v c = if fits_set sets g c v then 1 else 0

-- what the triple adds to the count of the test at place p
abbrev pub triple_adds : (ℕ → Option (List ℕ)) → Graph → Plan → Triple → ℕ → ℕ
triple_adds texts g plan t p = if passes_at texts g plan p t then 1 else 0

-- what the triples that begin at v add to the count of the test at place p
abbrev pub row_adds : (ℕ → Option (List ℕ)) → Graph → Plan → ℕ → ℕ → ℕ
row_adds texts g plan v p = count_by (passes_at texts g plan p) (triples_from g v)

-- the count at each place has grown by what is added there
abbrev pub GrownBy : (ℕ → ℕ) → List ℕ → List ℕ → Type 0
GrownBy added old new = (k : ℕ) → k < length old → slice_index new k ≡ slice_index old k + added k

-- each count can grow by n
abbrev pub HasRoom : ℕ → List ℕ → Type 0
HasRoom n counts = (k : ℕ) → k < length counts → slice_index counts k + n < 2 ^ 64

-- for each set, whether v has its labels
pub record AreFits (g : Graph) (sets : List LabelSet) (v : ℕ) (fitted : List Bool) : Type 0 where
  pub size : length fitted ≡ length sets
  pub each : (c : ℕ) → c < length sets → slice_index_or fitted c false ≡ fits_set sets g c v

-- how many triples of the graph pass each test, and how many of its vertices fit each set
pub record AreCounts (texts : ℕ → Option (List ℕ)) (g : Graph) (plan : Plan) (counts : Counts) : Type 0 where
  pub tests_size : length counts.tests.items ≡ length plan.tests.items
  pub tests : (p : ℕ) → p < length plan.tests.items → slice_index counts.tests.items p ≡ count_by (passes_at texts g plan p) g.triples
  pub sets_size : length counts.sets.items ≡ length plan.sets.items
  pub sets : (c : ℕ) → c < length plan.sets.items → slice_index counts.sets.items c ≡ count_by (fits_set plan.sets.items g c) (ids g)

-- the counts at the places of a pattern
abbrev pub cards_at : Counts → Places → CardLists
cards_at counts places = record { edges = map (slice_index counts.tests.items) places.edges.items; vertices = map (slice_index counts.sets.items) places.vertices.items }

-- the places are places of counts
pub record HasPlaces (counts : Counts) (places : Places) : Type 0 where
  pub edges : EachIndex places.edges.items (λ k. slice_index places.edges.items k < length counts.tests.items)
  pub vertices : EachIndex places.vertices.items (λ u. slice_index places.vertices.items u < length counts.sets.items)
