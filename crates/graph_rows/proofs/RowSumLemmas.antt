-- What the rows of listed vertices come to: each triple of a graph stands in one out row and in one in row.
use Rattle.std.proofs.Common.{◌≡◌, ℕ, ◌+◌, ◌≤◌, Bool, true, false, cond, ◌==◌, List, [], ◌∷◌, length, take, refl, sym, ap, ◌∙◌, arith}
use Rattle.std.specs.Prelude.{Some, filter, count_by, nat_eq, slice_get, IsPermutation}
use Rattle.std.specs.List.{sum_by, list_all, IsDistinct}
use Rattle.std.proofs.lemmas.Bool.{and_parts}
use Rattle.std.proofs.lemmas.List.{length-map, take_all}
use Rattle.std.proofs.lemmas.List.Sums.{sum_by-cons, sum_by_more, sum_by-take-le, length-filter}
use Rattle.std.proofs.lemmas.List.Sorted.{sum_by-IsPermutation, length_permutation}
use Rattle.std.proofs.lemmas.Option.{get_or_from_slice_get, slice_get_within}
use Rattle.flux_model.specs.Costs.{degree}
use Rattle.flux_model.specs.Graph.{Graph, IsGraph, ids, has_vertex, has_both_ends}
use Rattle.flux_model.specs.declared.graph.Triple.{Triple}
use Rattle.flux_model.specs.declared.graph.Vertex.{Vertex}
use Rattle.graph_rows.specs.Directions.{whole_row, near_end}
use Rattle.graph_rows.specs.declared.direction.Direction.{Direction}
use Rattle.graph_rows.specs.declared.direction.Direction.TheVariants.{Out, In}
use Rattle.graph_rows.proofs.SumLemmas.{sum_alike, sum_both, sum_nothing, once, once_at_most, distinct_ids, listed_id}

-- ---- triples of any weight

near_stands : (direction : Direction) (g : Graph) (t : Triple) → has_both_ends g t ≡ true → has_vertex g (near_end direction t) ≡ true
near_stands Out g t both = (and_parts (has_vertex g t.src) (has_vertex g t.dst) both).0
near_stands In g t both = (and_parts (has_vertex g t.src) (has_vertex g t.dst) both).1

row_is : (direction : Direction) (g : Graph) (v : ℕ) → whole_row direction g v ≡ filter (λ (t : Triple). near_end direction t == v) g.triples
row_is Out g v = refl
row_is In g v = refl

module _ (f : Triple → ℕ) (direction : Direction) where
  -- those of the list that stand in v's row
  abbrev part : List Triple → ℕ → ℕ
  part ts v = sum_by f (filter (λ (t : Triple). near_end direction t == v) ts)

  abbrev own : Triple → ℕ → ℕ
  own t v = cond (near_end direction t == v) (f t) 0

  part-cons : (t : Triple) (ts : List Triple) (v : ℕ) → part (t ∷ ts) v ≡ own t v + part ts v
  part-cons t ts v =
      let others = filter (λ (s : Triple). near_end direction s == v) ts in
      elim (near_end direction t == v) as (λ b. sum_by f (cond b (t ∷ others) others) ≡ cond b (f t) 0 + sum_by f others) [
        | true ↦ sum_by-cons f t others
        | false ↦ omega arith
      ]

  parts-cons : (t : Triple) (ts : List Triple) (vs : List ℕ) → sum_by (part (t ∷ ts)) vs ≡ sum_by (own t) vs + sum_by (part ts) vs
  parts-cons t ts vs = sum_alike (part (t ∷ ts)) (λ v. own t v + part ts v) vs (part-cons t ts) ∙ sum_both (own t) (part ts) vs

  parts_of_all : (g : Graph) → IsGraph g → (ts : List Triple) → list_all (has_both_ends g) ts ≡ true → sum_by (part ts) (ids g) ≡ sum_by f ts
  parts_of_all g is [] ends = sum_nothing (part []) (ids g) (λ v. refl)
  parts_of_all g is (t ∷ ts) ends =
      let both = and_parts (has_both_ends g t) (list_all (has_both_ends g) ts) ends in
      let stands = sym (listed_id g (near_end direction t)) ∙ near_stands direction g t both.0 in
      let here : sum_by (own t) (ids g) ≡ f t = once (near_end direction t) (f t) (ids g) (distinct_ids g is) stands in
      omega (arith, parts-cons t ts (ids g), here, parts_of_all g is ts both.1, sum_by-cons f t ts)

  parts_of_some : (vs : List ℕ) → IsDistinct nat_eq vs → (ts : List Triple) → sum_by (part ts) vs ≤ sum_by f ts
  parts_of_some vs distinct [] = omega (arith, sum_nothing (part []) vs (λ v. refl))
  parts_of_some vs distinct (t ∷ ts) =
      let here : sum_by (own t) vs ≤ f t = once_at_most (near_end direction t) (f t) vs distinct in
      omega (arith, parts-cons t ts vs, here, parts_of_some vs distinct ts, sum_by-cons f t ts)

  -- the rows of all vertices weigh as much as the triples of the graph
  pub weight_of_ids : (g : Graph) → IsGraph g → sum_by (λ v. sum_by f (whole_row direction g v)) (ids g) ≡ sum_by f g.triples
  weight_of_ids g is =
      sum_alike (λ v. sum_by f (whole_row direction g v)) (part g.triples) (ids g) (λ v. ap (sum_by f) (row_is direction g v)) ∙ parts_of_all g is g.triples is.ends

  -- in any order
  pub weight_of_all : (g : Graph) → IsGraph g → (vs : List ℕ) → IsPermutation vs (ids g) → sum_by (λ v. sum_by f (whole_row direction g v)) vs ≡ sum_by f g.triples
  weight_of_all g is vs all = sym (sum_by-IsPermutation (λ v. sum_by f (whole_row direction g v)) vs (ids g) all) ∙ weight_of_ids g is

  -- and those of distinct vertices no more
  pub weight_of_some : (g : Graph) (vs : List ℕ) → IsDistinct nat_eq vs → sum_by (λ v. sum_by f (whole_row direction g v)) vs ≤ sum_by f g.triples
  weight_of_some g vs distinct =
      omega (
        arith,
        sum_alike (λ v. sum_by f (whole_row direction g v)) (part g.triples) vs (λ v. ap (sum_by f) (row_is direction g v)),
        parts_of_some vs distinct g.triples,
      )

-- ---- those that pass a test

-- as many in the rows of all vertices as in the graph
pub count_of_ids : (p : Triple → Bool) (direction : Direction) (g : Graph) → IsGraph g → sum_by (λ v. count_by p (whole_row direction g v)) (ids g) ≡ count_by p g.triples
count_of_ids p direction g is = weight_of_ids (λ (t : Triple). cond (p t) 1 0) direction g is

-- in any order
pub count_of_all : (p : Triple → Bool) (direction : Direction) (g : Graph) → IsGraph g → (vs : List ℕ) → IsPermutation vs (ids g) → sum_by (λ v. count_by p (whole_row direction g v)) vs ≡ count_by p g.triples
count_of_all p direction g is vs all = weight_of_all (λ (t : Triple). cond (p t) 1 0) direction g is vs all

-- ---- all of them

-- how many triples the rows of these vertices have
abbrev pub rows_length : Direction → Graph → List ℕ → ℕ
rows_length direction g vs = sum_by (λ v. length (whole_row direction g v)) vs

ones : (ts : List Triple) → length ts ≡ sum_by (λ (t : Triple). 1) ts
ones [] = refl
ones (t ∷ ts) = omega (arith, sum_by-cons (λ (s : Triple). 1) t ts, ones ts)

-- both rows of a vertex have as many as its degree
pub degree_is : (g : Graph) (v : ℕ) → degree g v ≡ length (whole_row Out g v) + length (whole_row In g v)
degree_is g v = omega (arith, length-filter (λ (t : Triple). t.src == v) g.triples, length-filter (λ (t : Triple). t.dst == v) g.triples)

module _ (direction : Direction) (g : Graph) (vs : List ℕ) where
  by_ones : rows_length direction g vs ≡ sum_by (λ v. sum_by (λ (t : Triple). 1) (whole_row direction g v)) vs
  by_ones = sum_alike (λ v. length (whole_row direction g v)) (λ v. sum_by (λ (t : Triple). 1) (whole_row direction g v)) vs (λ v. ones (whole_row direction g v))

  -- the rows of all vertices have the triples of the graph
  pub rows_of_all : IsGraph g → IsPermutation vs (ids g) → rows_length direction g vs ≡ length g.triples
  rows_of_all is all = by_ones ∙ weight_of_all (λ (t : Triple). 1) direction g is vs all ∙ sym (ones g.triples)

  -- those of distinct vertices have no more
  pub rows_of_some : IsDistinct nat_eq vs → rows_length direction g vs ≤ length g.triples
  rows_of_some distinct = omega (arith, by_ones, weight_of_some (λ (t : Triple). 1) direction g vs distinct, ones g.triples)

  -- ---- as a walk of the list comes to them

  -- one vertex further
  pub rows_next : (i v : ℕ) → slice_get vs i ≡ Some v → rows_length direction g (take (i + 1) vs) ≡ rows_length direction g (take i vs) + length (whole_row direction g v)
  rows_next i v at =
      sum_by_more (λ x. length (whole_row direction g x)) vs i v (slice_get_within vs i v at)
      ∙ ap (λ x. rows_length direction g (take i vs) + length (whole_row direction g x)) (get_or_from_slice_get vs i v v at)

  rows_before : (i : ℕ) → rows_length direction g vs ≤ length g.triples → rows_length direction g (take i vs) ≤ length g.triples
  rows_before i few = omega (arith, few, sum_by-take-le (λ x. length (whole_row direction g x)) vs i)

  -- the rows of those before a place
  pub rows_before_of_all : (i : ℕ) → IsGraph g → IsPermutation vs (ids g) → rows_length direction g (take i vs) ≤ length g.triples
  rows_before_of_all i is all = rows_before i (omega (arith, rows_of_all is all))

  -- of distinct vertices
  pub rows_before_of_some : (i : ℕ) → IsDistinct nat_eq vs → rows_length direction g (take i vs) ≤ length g.triples
  rows_before_of_some i distinct = rows_before i (rows_of_some distinct)

  -- with the row of the vertex at the place
  pub room_of_all : (i v : ℕ) → IsGraph g → IsPermutation vs (ids g) → slice_get vs i ≡ Some v → rows_length direction g (take i vs) + length (whole_row direction g v) ≤ length g.triples
  room_of_all i v is all at = omega (arith, rows_next i v at, rows_before_of_all (i + 1) is all)

  -- of distinct vertices
  pub room_of_some : (i v : ℕ) → IsDistinct nat_eq vs → slice_get vs i ≡ Some v → rows_length direction g (take i vs) + length (whole_row direction g v) ≤ length g.triples
  room_of_some i v distinct at = omega (arith, rows_next i v at, rows_before_of_some (i + 1) distinct)

  -- at the end
  pub rows_at_end : (i : ℕ) → IsGraph g → IsPermutation vs (ids g) → length g.vertices ≤ i → rows_length direction g (take i vs) ≡ length g.triples
  rows_at_end i is all end =
      let long : length vs ≤ i = omega (arith, length_permutation vs (ids g) all, length-map g.vertices (λ (v : Vertex). v.id), end) in
      ap (rows_length direction g) (take_all i vs long) ∙ rows_of_all is all
