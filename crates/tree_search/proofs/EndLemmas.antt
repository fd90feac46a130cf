-- The candidates of a row: each once, and each with its triple.
use Rattle.std.proofs.Common.{◌≡◌, ◌≢◌, ℕ, Bool, true, false, ◌==◌, nat_eq, List, [], ◌∷◌, inl, inr, refl, sym, ap, ◌∙◌, subst}
use Rattle.std.specs.Prelude.{filter, map, IsPermutation}
use Rattle.std.specs.List.{IsDistinct, AllByRecursion, list_all}
use Rattle.std.specs.Str.{bytes_eq}
use Rattle.std.specs.declared.cmp.Ordering.{Ordering}
use Rattle.std.specs.declared.cmp.Ordering.TheVariants.{Less, Equal, Greater}
use Rattle.std.specs.Ordering.{is_lt, is_eq, eq_by_cmp}
use Rattle.std.specs.Cmp.Lexicographic.{same_text}
use Rattle.std.proofs.lemmas.Bool.{and_parts, eqb-true, eq-eqb, ne_eqb}
use Rattle.std.proofs.lemmas.Cmp.{tied_itself, eq_by_cmp_equiv, nat_list_eq_equiv}
use Rattle.std.proofs.lemmas.List.Sorted.{IsPermutation-sym}
use Rattle.std.proofs.lemmas.Map.Keys.{IsDistinct-IsPermutation}
use Rattle.flux_model.specs.Graph.{Graph, IsGraph, has_triple, triple_cmp}
use Rattle.flux_model.specs.Ordered.{is_ascending}
use Rattle.flux_model.specs.declared.graph.Triple.{Triple}
use Rattle.flux_laws.proofs.AscendingLemmas.{below_rest, tail_ascending, filter-ascending}
use Rattle.flux_laws.proofs.SetsLemmas.{triple_total}
use Rattle.flux_model.specs.Members.{In}
use Rattle.flux_model.proofs.MemberLemmas.{filter_in, in_filter, mapped_in, in_mapped, in_permutation, in_permutation_back}
use Rattle.graph_rows.specs.Directions.{whole_row, triple_of, other_end, ends_of}
use Rattle.graph_rows.specs.declared.direction.Direction.{Direction}
use Rattle.graph_rows.specs.declared.direction.Direction.TheVariants.{Out, In as Inward}
use Rattle.tree_search.proofs.EmbeddingLemmas.{triple_in, in_triple}

-- ---- lists

-- what holds of each element holds of all
pub all_by : {X : Type 0} (P : X → Type 0) (xs : List X) → ((x : X) → In xs x → P x) → AllByRecursion P xs
all_by P [] h = tt
all_by P (x ∷ xs) h = (h x (inl refl), all_by P xs (λ y i. h y (inr i)))

-- what holds of all elements holds of each
pub by_in : {X : Type 0} (P : X → Type 0) (xs : List X) (x : X) → AllByRecursion P xs → In xs x → P x
by_in P [] x h i = absurd i
by_in P (y ∷ ys) x h (inl e) = subst P (sym e) h.0
by_in P (y ∷ ys) x h (inr i) = by_in P ys x h.1 i

-- what all elements pass each passes
pub in_all : {X : Type 0} (p : X → Bool) (xs : List X) (x : X) → list_all p xs ≡ true → In xs x → p x ≡ true
in_all p [] x h i = absurd i
in_all p (y ∷ ys) x h (inl e) = ap p e ∙ (and_parts (p y) (list_all p ys) h).0
in_all p (y ∷ ys) x h (inr i) = in_all p ys x (and_parts (p y) (list_all p ys) h).1 i

lt_apart : (r : Ordering) → is_lt r ≡ true → is_eq r ≡ false
lt_apart Less h = refl
lt_apart Equal h = absurd (let bad : false ≡ true = h in cc)
lt_apart Greater h = refl

distinct_ascending : (xs : List Triple) → is_ascending triple_cmp xs ≡ true → IsDistinct (eq_by_cmp triple_cmp) xs
unfolding IsDistinct
distinct_ascending [] a = tt
distinct_ascending (x ∷ xs) a = (
  all_by (λ y. eq_by_cmp triple_cmp x y ≡ false) xs (λ y i. lt_apart (triple_cmp x y) (in_all (λ z. is_lt (triple_cmp x z)) xs y (below_rest triple_cmp triple_total x xs a) i)),
  distinct_ascending xs (tail_ascending triple_cmp triple_total x xs a),
)

-- where those of distinct triples that pass a test have distinct values
distinct_values : (p : Triple → Bool) (f : Triple → ℕ) (xs : List Triple) → IsDistinct (eq_by_cmp triple_cmp) xs → ((s t : Triple) → In xs s → In xs t → p s ≡ true → p t ≡ true → f s ≡ f t → s ≡ t) → IsDistinct nat_eq (map f (filter p xs))
unfolding IsDistinct
distinct_values p f [] d h = tt
distinct_values p f (x ∷ xs) d h = by (p x) refl (distinct_values p f xs d.1 (λ s t i j. h s t (inr i) (inr j)))
  where
    apart : p x ≡ true → (y : ℕ) → In (map f (filter p xs)) y → nat_eq (f x) y ≡ false
    apart e y i =
        let s = mapped_in f (filter p xs) y i in
        let r = filter_in p xs s.0 s.1 in
        let other : f x ≢ y = λ same.
        (let equal : x ≡ s.0 = h x s.0 (inl refl) (inr r.0) e r.1 (same ∙ s.2) in
        let tie : eq_by_cmp triple_cmp x s.0 ≡ true = ap (λ z. eq_by_cmp triple_cmp x z) (sym equal) ∙ ap is_eq (tied_itself triple_total x) in
        let bad : eq_by_cmp triple_cmp x s.0 ≡ false = by_in (λ z. eq_by_cmp triple_cmp x z ≡ false) xs s.0 d.0 r.0 in
        let no_bool : false ≡ true = sym bad ∙ tie in cc) in
        ne_eqb (f x) y other

    by : (b : Bool) → p x ≡ b → IsDistinct nat_eq (map f (filter p xs)) → IsDistinct nat_eq (map f (filter p (x ∷ xs)))
    by true e rest = rw e (all_by (λ y. nat_eq (f x) y ≡ false) (map f (filter p xs)) (apart e), rest)
    by false e rest = rw e rest

-- ---- the rows of a graph

same_triple : (s t : Triple) → s.src ≡ t.src → s.label ≡ t.label → s.dst ≡ t.dst → s ≡ t
same_triple s t a b c = λ i. record { src = a i; label = b i; dst = c i }

module _ (g : Graph) (v : ℕ) where
  row_distinct : IsGraph g → (direction : Direction) → IsDistinct (eq_by_cmp triple_cmp) (whole_row direction g v)
  row_distinct is Out = distinct_ascending _ (filter-ascending triple_cmp triple_total (λ (t : Triple). t.src == v) g.triples is.ascending_triples)
  row_distinct is Inward = distinct_ascending _ (filter-ascending triple_cmp triple_total (λ (t : Triple). t.dst == v) g.triples is.ascending_triples)

  -- a triple of the row is told by its label and its other end
  in_row : (direction : Direction) (s : Triple) → In (whole_row direction g v) s → In g.triples s × (triple_of direction v s.label (other_end direction s) ≡ s)
  in_row Out s i = let r = filter_in (λ (t : Triple). t.src == v) g.triples s i in (r.0, same_triple _ s (sym (eqb-true s.src v r.1)) refl refl)
  in_row Inward s i = let r = filter_in (λ (t : Triple). t.dst == v) g.triples s i in (r.0, same_triple _ s refl refl (sym (eqb-true s.dst v r.1)))

  row_has : (direction : Direction) (label : List ℕ) (x : ℕ) → In g.triples (triple_of direction v label x) → In (whole_row direction g v) (triple_of direction v label x)
  row_has Out label x i = in_filter (λ (t : Triple). t.src == v) g.triples (triple_of Out v label x) i (eq-eqb v v refl)
  row_has Inward label x i = in_filter (λ (t : Triple). t.dst == v) g.triples (triple_of Inward v label x) i (eq-eqb v v refl)

  label_of : (direction : Direction) (label : List ℕ) (x : ℕ) → bytes_eq label (triple_of direction v label x).label ≡ true
  label_of Out label x = nat_list_eq_equiv.refl label
  label_of Inward label x = nat_list_eq_equiv.refl label

  end_of : (direction : Direction) (label : List ℕ) (x : ℕ) → other_end direction (triple_of direction v label x) ≡ x
  end_of Out label x = refl
  end_of Inward label x = refl

  module _ (direction : Direction) (label : List ℕ) (rows : List Triple) (all : IsPermutation rows (whole_row direction g v)) where
    abbrev has_label : Triple → Bool
    has_label t = bytes_eq label t.label

    -- no end is there twice
    pub ends_distinct : IsGraph g → IsDistinct nat_eq (ends_of direction label rows)
    ends_distinct is =
        distinct_values has_label (other_end direction) rows
        (IsDistinct-IsPermutation (eq_by_cmp triple_cmp) (eq_by_cmp_equiv triple_total).symm (whole_row direction g v) rows (IsPermutation-sym rows (whole_row direction g v) all) (row_distinct is direction))
        (λ s t i j a b same.
        let p = in_row direction s (in_permutation_back rows (whole_row direction g v) all s i) in
        let r = in_row direction t (in_permutation_back rows (whole_row direction g v) all t j) in
        let labels : s.label ≡ t.label = sym (same_text label s.label (sym a)) ∙ same_text label t.label (sym b) in
        sym p.1 ∙ (λ k. triple_of direction v (labels k) (same k)) ∙ r.1)

    -- an end to which the triple leads is there
    pub ends_have : (x : ℕ) → has_triple g (triple_of direction v label x) ≡ true → In (ends_of direction label rows) x
    ends_have x h =
        let there = in_permutation rows (whole_row direction g v) all (triple_of direction v label x) (row_has direction label x (triple_in g (triple_of direction v label x) h)) in
        let kept = in_filter has_label rows (triple_of direction v label x) there (label_of direction label x) in
        subst (λ y. In (ends_of direction label rows) y) (end_of direction label x) (in_mapped (other_end direction) (filter has_label rows) (triple_of direction v label x) kept)

    -- to each end the triple leads
    pub end_stands : (x : ℕ) → In (ends_of direction label rows) x → has_triple g (triple_of direction v label x) ≡ true
    end_stands x i =
        let s = mapped_in (other_end direction) (filter has_label rows) x i in
        let r = filter_in has_label rows s.0 s.1 in
        let p = in_row direction s.0 (in_permutation_back rows (whole_row direction g v) all s.0 r.0) in
        let labels : s.0.label ≡ label = sym (same_text label s.0.label (sym r.1)) in
        let same : triple_of direction v label x ≡ s.0 = (λ k. triple_of direction v (sym labels k) (s.2 k)) ∙ p.1 in
        in_triple g (triple_of direction v label x) (subst (λ z. In g.triples z) (sym same) p.0)
