-- The counts at the places of a pattern are its cards.
use Rattle.std.proofs.Common.{◌≡◌, ℕ, ◌<◌, ◌==◌, Bool, true, false, ◌&&◌, ◌||◌, not, List, [], ◌∷◌, length, get_or, map, refl, sym, ◌∙◌, ap, arith}
use Rattle.std.specs.Prelude.{Option, Some, None, count_by}
use Rattle.std.specs.Str.{bytes_eq}
use Rattle.std.proofs.lemmas.Bool.{lt-ltb}
use Rattle.std.proofs.lemmas.Option.{get_or_from_slice_get, slice_get_within}
use Rattle.std.proofs.lemmas.Slice.Zip.{AllZip-long}
use Rattle.flux_model.specs.Graph.{Graph, ids}
use Rattle.flux_model.specs.Pattern.{PatternGraph, vertex_count, fits_labels, fits, fits_edge}
use Rattle.flux_model.specs.Tree.{cards, edge_cards, vertex_cards}
use Rattle.flux_model.specs.declared.graph.Triple.{Triple}
use Rattle.flux_model.specs.declared.pattern.PatternEdge.{PatternEdge}
use Rattle.graph_traits.specs.Numbers.{IsNumberIn}
use Rattle.graph_rows.proofs.CountLemmas.{count_same, count-filter}
use Rattle.label_cards.specs.Counted.{AreCounts, HasPlaces, cards_at}
use Rattle.label_cards.specs.Plans.{set_at, fits_told, fits_set, is_told, passes, test_at, passes_at, IsTestOf, IsFound}
use Rattle.label_cards.specs.declared.pass.Counts.{Counts}
use Rattle.label_cards.specs.declared.plan.Places.{Places}
use Rattle.label_cards.specs.declared.plan.Plan.{Plan}
use Rattle.label_cards.specs.declared.plan.TripleTest.{TripleTest}
use Rattle.label_cards.proofs.GrownLemmas.{all-at, all-map, all-each}
use Rattle.label_cards.proofs.PlanLemmas.{set-within}

module _ (texts : ℕ → Option (List ℕ)) (g : Graph) (plan : Plan) (q : PatternGraph) (places : Places) (found : IsFound texts g plan q places) where
  -- ---- the test of an edge

  set-fits : (u v : ℕ) → u < vertex_count q → fits_set plan.sets.items g (get_or places.vertices.items u 0) v ≡ fits q u g v
  set-fits u v below =
      ap (λ o. fits_told g o v) (all-at (λ labels c. set_at plan.sets.items c ≡ Some labels) q.labels places.vertices.items [] 0 u found.vertices below)
      ∙ ap (λ b. b && fits_labels g (get_or q.labels u []) v) (sym (lt-ltb u (vertex_count q) below))

  module _ (e : PatternEdge) (p : ℕ) (here : IsTestOf texts g plan.tests.items places.vertices.items e p) where
    long : length places.vertices.items ≡ vertex_count q
    long = AllZip-long (λ labels c. set_at plan.sets.items c ≡ Some labels) q.labels places.vertices.items found.vertices

    abbrev made : Option ℕ → TripleTest
    made number = record { label = number; tail = get_or places.vertices.items e.tail 0; head = get_or places.vertices.items e.head 0; is_loop = e.tail == e.head }

    at-place : test_at plan.tests.items p ≡ made here.number
    at-place = get_or_from_slice_get plan.tests.items p (made here.number) (record { label = None; tail = 0; head = 0; is_loop = false }) here.stands

    -- what is asked beside the label
    abbrev rest : Triple → Bool
    rest t = fits q e.tail g t.src && fits q e.head g t.dst && (not (e.tail == e.head) || t.src == t.dst)

    regroup : (a b c d : Bool) → (a && b && c && d) ≡ (a && (b && c && d))
    regroup true b c d = refl
    regroup false b c d = refl

    nothing : (ts : List Triple) → count_by (λ (t : Triple). false) ts ≡ 0
    nothing [] = refl
    nothing (t ∷ ts) = nothing ts

    by-number : (number : Option ℕ) → IsNumberIn texts g e.label number → count_by (passes texts g plan.sets.items (made number)) g.triples ≡ count_by (fits_edge q e g) g.triples
    by-number None is =
        nothing g.triples ∙ sym (ap (count_by rest) is.absent) ∙ count-filter rest (λ (t : Triple). bytes_eq e.label t.label) g.triples
        ∙ sym (count_same (fits_edge q e g) (λ t. bytes_eq e.label t.label && rest t) g.triples
        (λ t. regroup (bytes_eq e.label t.label) (fits q e.tail g t.src) (fits q e.head g t.dst) (not (e.tail == e.head) || t.src == t.dst)))
    by-number (Some n) is =
        let text : texts n ≡ Some e.label = (is.tells n).1 refl in
        count_same (passes texts g plan.sets.items (made (Some n))) (fits_edge q e g) g.triples
        (λ t i.
        is_told (text i) t.label && set-fits e.tail t.src (omega (arith, here.ends.0, long)) i && set-fits e.head t.dst (omega (arith, here.ends.1, long)) i
        && (not (e.tail == e.head) || t.src == t.dst))

    pub edge-count : count_by (passes_at texts g plan p) g.triples ≡ count_by (fits_edge q e g) g.triples
    edge-count = ap (λ (test : TripleTest). count_by (passes texts g plan.sets.items test) g.triples) at-place ∙ by-number here.number here.is

  -- ---- the whole

  module _ (counts : Counts) (counted : AreCounts texts g plan counts) where
    edges-are : map (λ p. get_or counts.tests.items p 0) places.edges.items ≡ edge_cards q g
    edges-are =
        all-map (IsTestOf texts g plan.tests.items places.vertices.items) (λ e. count_by (fits_edge q e g) g.triples) (λ p. get_or counts.tests.items p 0)
        (λ e p here. counted.tests p (slice_get_within plan.tests.items p (made e p here here.number) here.stands) ∙ edge-count e p here)
        q.edges places.edges.items found.edges

    vertices-are : map (λ c. get_or counts.sets.items c 0) places.vertices.items ≡ vertex_cards q g
    vertices-are =
        all-map (λ labels c. set_at plan.sets.items c ≡ Some labels) (λ labels. count_by (fits_labels g labels) (ids g)) (λ c. get_or counts.sets.items c 0)
        (λ labels c here. counted.sets c (set-within plan.sets.items c labels here) ∙ ap (λ o. count_by (fits_told g o) (ids g)) here)
        q.labels places.vertices.items found.vertices

    pub cards-are : cards_at counts places ≡ cards q g
    cards-are = λ i. record { edges = edges-are i; vertices = vertices-are i }

    -- the places are places of counts
    pub places-within : HasPlaces counts places
    places-within = record {
      edges = all-each (IsTestOf texts g plan.tests.items places.vertices.items) (λ p. p < length counts.tests.items)
          (λ e p here. omega (arith, counted.tests_size, slice_get_within plan.tests.items p (made e p here here.number) here.stands)) q.edges places.edges.items 0 found.edges;
      vertices = all-each (λ labels c. set_at plan.sets.items c ≡ Some labels) (λ c. c < length counts.sets.items)
          (λ labels c here. omega (arith, counted.sets_size, set-within plan.sets.items c labels here)) q.labels places.vertices.items 0 found.vertices;
    }
