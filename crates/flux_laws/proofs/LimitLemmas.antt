-- A graph that is within its limits is so still after a change.
use Rattle.std.proofs.Common.{◌≡◌, ℕ, ◌+◌, ◌≤◌, Bool, true, false, not, ◌||◌, ◌&&◌, ◌==◌, nat_le, nat_lt, List, [], ◌∷◌, ◌++◌, length, map, refl, sym, ◌∙◌, ap, arith}
use borrow.Author.Tests.{ltb-false}
use Rattle.std.proofs.lemmas.Bool.{leb-false}
use Rattle.std.specs.declared.cmp.Ordering.{Ordering}
use Rattle.std.specs.declared.cmp.Ordering.TheVariants.{Less, Equal, Greater}
use Rattle.std.specs.Ordering.{is_eq}
use Rattle.std.specs.List.{flat_map, list_all}
use Rattle.std.proofs.lemmas.List.Folds.{list_all-append, list_all-map}
use Rattle.flux_model.specs.Text.{text_cmp}
use Rattle.flux_model.specs.Ordered.{is_in, put}
use Rattle.flux_model.specs.Graph.{Graph, IsWithin, names_of, name_count, vertex_cmp, triple_cmp, with_vertex, with_triple, without_vertex, without_triple}
use Rattle.flux_model.specs.declared.graph.Vertex.{Vertex}
use Rattle.flux_model.specs.declared.graph.Triple.{Triple}
use Rattle.flux_model.specs.declared.limits.Limits.{Limits}
use Rattle.flux_model.proofs.OrderedLemmas.{put-list_all}
use Rattle.flux_laws.proofs.AscendingLemmas.{filter-list_all, length-filter-le}
use Rattle.flux_laws.proofs.TestLemmas.{both, neither}
use Rattle.flux_laws.proofs.NameSetLemmas.{length-label_set, is_within-refl}

-- ---- the names of a graph

list_all-flat_map : {X A : Type 0} (p : A → Bool) (f : X → List A) (xs : List X) → list_all p (flat_map f xs) ≡ list_all (λ x. list_all p (f x)) xs
list_all-flat_map p f [] = refl
list_all-flat_map p f (x ∷ xs) = list_all-append p (f x) (flat_map f xs) ∙ ap (λ b. list_all p (f x) && b) (list_all-flat_map p f xs)

-- on vertices, on triples, and more
name_parts : (p : List ℕ → Bool) (g : Graph) (more : List (List ℕ)) → list_all p (names_of g ++ more) ≡ ((list_all (λ (v : Vertex). list_all p v.labels) g.vertices && list_all (λ (t : Triple). p t.label) g.triples) && list_all p more)
name_parts p g more =
    list_all-append p (names_of g) more
    ∙ ap (λ b. b && list_all p more) (list_all-append p (flat_map (λ (v : Vertex). v.labels) g.vertices) (map (λ (t : Triple). t.label) g.triples)
    ∙ (λ i. list_all-flat_map p (λ (v : Vertex). v.labels) g.vertices i && list_all-map p (λ (t : Triple). t.label) g.triples i))

-- whether each name passes
pub record NamesPass (p : List ℕ → Bool) (g : Graph) (more : List (List ℕ)) : Type 0 where
  pub on_vertices : list_all (λ (v : Vertex). list_all p v.labels) g.vertices ≡ true
  pub on_triples : list_all (λ (t : Triple). p t.label) g.triples ≡ true
  pub others : list_all p more ≡ true

-- each name of a graph is among all of them
pub among : (g : Graph) (more : List (List ℕ)) → NamesPass (λ x. is_in text_cmp x (names_of g ++ more)) g more
among g more =
    let p : List ℕ → Bool = λ x. is_in text_cmp x (names_of g ++ more) in
    let vs = list_all (λ (v : Vertex). list_all p v.labels) g.vertices in
    let ts = list_all (λ (t : Triple). p t.label) g.triples in
    let two = both (vs && ts) (list_all p more) (sym (name_parts p g more) ∙ is_within-refl (names_of g ++ more)) in
    let first = both vs ts two.0 in
    record { on_vertices = first.0; on_triples = first.1; others = two.1 }

-- a graph whose names are among others has no more of them
pub name_count-within : (g h : Graph) (fewer more : List (List ℕ)) → NamesPass (λ x. is_in text_cmp x (names_of h ++ more)) g fewer → name_count g fewer ≤ name_count h more
name_count-within g h fewer more n =
    length-label_set (names_of g ++ fewer) (names_of h ++ more) (name_parts (λ x. is_in text_cmp x (names_of h ++ more)) g fewer ∙ rw (n.on_vertices, n.on_triples, n.others) refl)

-- ---- one more

-- one element more at most
pub length-put : {K : Type 0} (R : K → K → Ordering) (x : K) (xs : List K) → length (put R x xs) ≤ length xs + 1
length-put R x [] = omega arith
length-put R x (y ∷ ys) = by (R x y) refl (length-put R x ys)
  where
    by : (r : Ordering) → R x y ≡ r → length (put R x ys) ≤ length ys + 1 → length (put R x (y ∷ ys)) ≤ length (y ∷ ys) + 1
    by Less e rest = rw e (omega arith)
    by Equal e rest = rw e (omega arith)
    by Greater e rest = rw e (omega arith)

-- neither limit is reached
room : (limit count names in_use : ℕ) → (nat_le limit count || nat_lt names in_use) ≡ false → (count + 1 ≤ limit) × (in_use ≤ names)
room limit count names in_use h =
    let two = neither (nat_le limit count) (nat_lt names in_use) h in
    (omega (arith, leb-false limit count two.0), ltb-false names in_use two.1)

-- a vertex more within the limits
pub with_vertex_within : (limits : Limits) (g : Graph) (v : Vertex) → IsWithin limits g → (nat_le limits.vertices (length g.vertices) || nat_lt limits.labels (name_count g v.labels)) ≡ false → IsWithin limits (with_vertex g v)
with_vertex_within limits g v h full =
    let p : List ℕ → Bool = λ x. is_in text_cmp x (names_of g ++ v.labels) in
    let n = among g v.labels in
    let left = room limits.vertices (length g.vertices) limits.labels (name_count g v.labels) full in
    let fewer : name_count (with_vertex g v) [] ≤ name_count g v.labels =
    name_count-within (with_vertex g v) g [] v.labels (record {
      on_vertices = put-list_all vertex_cmp (λ (w : Vertex). list_all p w.labels) v g.vertices n.others n.on_vertices;
      on_triples = n.on_triples;
      others = refl;
    }) in
    record {
      vertices = omega (arith, length-put vertex_cmp v g.vertices, left.0);
      triples = h.triples;
      names = omega (arith, fewer, left.1);
    }

-- a triple more
pub with_triple_within : (limits : Limits) (g : Graph) (t : Triple) → IsWithin limits g → (nat_le limits.edges (length g.triples) || nat_lt limits.labels (name_count g (t.label ∷ []))) ≡ false → IsWithin limits (with_triple g t)
with_triple_within limits g t h full =
    let p : List ℕ → Bool = λ x. is_in text_cmp x (names_of g ++ t.label ∷ []) in
    let n = among g (t.label ∷ []) in
    let left = room limits.edges (length g.triples) limits.labels (name_count g (t.label ∷ [])) full in
    let fewer : name_count (with_triple g t) [] ≤ name_count g (t.label ∷ []) =
    name_count-within (with_triple g t) g [] (t.label ∷ []) (record {
      on_vertices = n.on_vertices;
      on_triples = put-list_all triple_cmp (λ (s : Triple). p s.label) t g.triples (both (p t.label) true n.others).0 n.on_triples;
      others = refl;
    }) in
    record {
      vertices = h.vertices;
      triples = omega (arith, length-put triple_cmp t g.triples, left.0);
      names = omega (arith, fewer, left.1);
    }

-- ---- one fewer

-- a vertex fewer
pub without_vertex_within : (limits : Limits) (g : Graph) (id : ℕ) → IsWithin limits g → IsWithin limits (without_vertex g id)
without_vertex_within limits g id h =
    let p : List ℕ → Bool = λ x. is_in text_cmp x (names_of g ++ []) in
    let others : Vertex → Bool = λ v. not (v.id == id) in
    let n = among g [] in
    let fewer : name_count (without_vertex g id) [] ≤ name_count g [] =
    name_count-within (without_vertex g id) g [] [] (record {
      on_vertices = filter-list_all others (λ (v : Vertex). list_all p v.labels) g.vertices n.on_vertices;
      on_triples = n.on_triples;
      others = refl;
    }) in
    record {
      vertices = omega (arith, length-filter-le others g.vertices, h.vertices);
      triples = h.triples;
      names = omega (arith, fewer, h.names);
    }

-- a triple fewer
pub without_triple_within : (limits : Limits) (g : Graph) (t : Triple) → IsWithin limits g → IsWithin limits (without_triple g t)
without_triple_within limits g t h =
    let p : List ℕ → Bool = λ x. is_in text_cmp x (names_of g ++ []) in
    let others : Triple → Bool = λ s. not (is_eq (triple_cmp s t)) in
    let n = among g [] in
    let fewer : name_count (without_triple g t) [] ≤ name_count g [] =
    name_count-within (without_triple g t) g [] [] (record {
      on_vertices = n.on_vertices;
      on_triples = filter-list_all others (λ (s : Triple). p s.label) g.triples n.on_triples;
      others = refl;
    }) in
    record {
      vertices = h.vertices;
      triples = omega (arith, length-filter-le others g.triples, h.triples);
      names = omega (arith, fewer, h.names);
    }
