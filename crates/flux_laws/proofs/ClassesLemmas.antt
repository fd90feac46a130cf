-- The embeddings that a triple brings fall apart by the first pattern edge that is sent to it.
use Rattle.std.proofs.Common.{◌≡◌, ℕ, zero, suc, ◌+◌, ◌<◌, Bool, true, false, not, ◌||◌, ◌&&◌, ◌==◌, cond, List, [], ◌∷◌, ◌++◌, length, Option, Some, None, refl, sym, ◌∙◌, ap, subst, arith}
use Rattle.std.specs.Prelude.{IsPermutation, flat_map}
use Rattle.std.specs.declared.cmp.Ordering.{Ordering}
use Rattle.std.specs.declared.cmp.Ordering.TheVariants.{Less, Equal, Greater}
use Rattle.std.specs.Ordering.{is_eq}
use Rattle.std.specs.List.{list_all, list_any, filter, Contains, slice_get, range_with_len}
use Rattle.std.specs.Str.{bytes_eq}
use Rattle.std.proofs.lemmas.Bool.{eqb-true, ne_eqb, false_from_ne_true, both_ways}
use Rattle.std.proofs.lemmas.Cmp.{nat_list_eq_equiv}
use Rattle.std.proofs.lemmas.List.Sorted.{IsPermutation-filter_both, IsPermutation-append_right, IsPermutation-trans, IsPermutation-refl}
use Rattle.std.proofs.lemmas.Option.{same_Some, none-some}
use Rattle.std.proofs.lemmas.Slice.Eq.{bytes_eq-Decides}
use Rattle.std.proofs.lemmas.Map.Views.{Contains-from_any, list_any-from_Contains}
use Rattle.flux_model.specs.Graph.{Graph, IsGraph, ids, triple_cmp, has_triple, with_triple, without_triple}
use Rattle.flux_model.specs.Ordered.{is_in, put}
use Rattle.flux_model.specs.Pattern.{PatternGraph, vertex_count}
use Rattle.flux_model.specs.Embedding.{is_embedding, fit_all, keeps_edges, keeps_mode, image, id_lists, embeddings}
use Rattle.flux_model.specs.Change.{same_map, gained}
use Rattle.flux_model.specs.declared.pattern.PatternEdge.{PatternEdge}
use Rattle.flux_model.specs.declared.graph.Triple.{Triple}
use Rattle.flux_model.specs.Classes.{is_sent, first_sent, is_number, edge_class}
use Rattle.flux_laws.specs.ClassesLaws.{ClassesAreNew, ClassesAreApart, ClassesAreGained, OtherLabelClassIsEmpty}
use Rattle.flux_laws.proofs.TestLemmas.{both, eqb-refl}
use Rattle.flux_laws.proofs.GraphsLemmas.{triple_exact}
use Rattle.flux_laws.proofs.SetsLemmas.{triple_total, same_triple}
use Rattle.flux_laws.proofs.UndoLemmas.{put_back, absent_after}
use Rattle.flux_laws.proofs.EmbeddingsLemmas.{same_exact, passes, kept, embedding_listed, embeds}

-- ---- the first edge that is sent

false_true : false ≡ true → ⊥
false_true e = cc

unless : (b : Bool) → (b ≡ true → ⊥) → not b ≡ true
unless true f = absurd (f refl)
unless false f = refl

-- there is one exactly where some edge is sent
abbrev sent_bool : Option ℕ → Bool
sent_bool None = false
sent_bool (Some k) = true

any_sent : (i : ℕ) (t : Triple) (m : List ℕ) (es : List PatternEdge) → sent_bool (first_sent i t m es) ≡ list_any (is_sent t m) es
any_sent i t m [] = refl
any_sent i t m (e ∷ es) = by (is_sent t m e) (any_sent (i + 1) t m es)
  where
    by : (b : Bool) → sent_bool (first_sent (i + 1) t m es) ≡ list_any (is_sent t m) es → sent_bool (cond b (Some i) (first_sent (i + 1) t m es)) ≡ b || list_any (is_sent t m) es
    by true rest = refl
    by false rest = rest

-- whether the number is one of n numbers from s on
abbrev within : ℕ → ℕ → Option ℕ → Bool
within s n o = list_any (λ i. is_number i o) (range_with_len s n)

none_within : (s n : ℕ) → within s n None ≡ false
none_within s zero = refl
none_within s (suc n) = none_within (s + 1) n

-- and it is then below the number of edges
sent_within : (i : ℕ) (t : Triple) (m : List ℕ) (es : List PatternEdge) → within i (length es) (first_sent i t m es) ≡ list_any (is_sent t m) es
sent_within i t m [] = refl
sent_within i t m (e ∷ es) = by (is_sent t m e) (sent_within (i + 1) t m es)
  where
    later : (o : Option ℕ) → within (i + 1) (length es) o ≡ list_any (is_sent t m) es → sent_bool o ≡ list_any (is_sent t m) es
        → is_number i o || within (i + 1) (length es) o ≡ list_any (is_sent t m) es
    later None w s = w
    later (Some k) w s = one (k == i)
      where
        one : (c : Bool) → c || within (i + 1) (length es) (Some k) ≡ list_any (is_sent t m) es
        one true = s
        one false = w

    by : (b : Bool) → within (i + 1) (length es) (first_sent (i + 1) t m es) ≡ list_any (is_sent t m) es
        → within i (suc (length es)) (cond b (Some i) (first_sent (i + 1) t m es)) ≡ b || list_any (is_sent t m) es
    by true rest = rw (eqb-refl i) refl
    by false rest = later (first_sent (i + 1) t m es) rest (any_sent (i + 1) t m es)

-- a number is not among those above it
not_above : (k s n : ℕ) → k < s → within s n (Some k) ≡ false
not_above k s zero h = refl
not_above k s (suc n) h = rw (ne_eqb k s (λ e. omega (arith, e))) (not_above k (s + 1) n (omega arith))

-- a number among them is below their end
within_below : (k s n : ℕ) → within s n (Some k) ≡ true → k < s + n
within_below k s zero h = absurd (false_true h)
within_below k s (suc n) h = by (k == s) refl (within_below k (s + 1) n)
  where
    by : (b : Bool) → (k == s) ≡ b → (within (s + 1) n (Some k) ≡ true → k < s + 1 + n) → k < s + suc n
    by true e rest = omega (arith, eqb-true k s e)
    by false e rest = let low = rest (rw e at h) in omega (arith, low)

-- ---- a list falls apart by numbers

fuse : {X : Type 0} (p r : X → Bool) (xs : List X) → filter p (filter r xs) ≡ filter (λ x. r x && p x) xs
fuse p r [] = refl
fuse p r (x ∷ xs) = by (r x) (p x) (fuse p r xs)
  where
    by : (b c : Bool) → filter p (filter r xs) ≡ filter (λ y. r y && p y) xs
        → filter p (cond b (x ∷ filter r xs) (filter r xs)) ≡ cond (b && p x) (x ∷ filter (λ y. r y && p y) xs) (filter (λ y. r y && p y) xs)
    by true c e = two (p x)
      where
        two : (d : Bool) → cond d (x ∷ filter p (filter r xs)) (filter p (filter r xs)) ≡ cond d (x ∷ filter (λ y. r y && p y) xs) (filter (λ y. r y && p y) xs)
        two d = ap (λ ys. cond d (x ∷ ys) ys) e
    by false c e = e

alike : {X : Type 0} (p r : X → Bool) → ((x : X) → p x ≡ r x) → (xs : List X) → filter p xs ≡ filter r xs
alike p r f [] = refl
alike p r f (x ∷ xs) = λ i. cond (f x i) (x ∷ alike p r f xs i) (alike p r f xs i)

-- the same where all are kept by another filter
alike_in : {X : Type 0} (b p r : X → Bool) → ((x : X) → b x ≡ true → p x ≡ r x) → (xs : List X) → filter p (filter b xs) ≡ filter r (filter b xs)
alike_in b p r f xs = fuse p b xs ∙ alike (λ x. b x && p x) (λ x. b x && r x) (λ x. one (b x) (p x) (r x) (f x)) xs ∙ sym (fuse r b xs)
  where
    one : (a c d : Bool) → (a ≡ true → c ≡ d) → a && c ≡ a && d
    one true c d h = h refl
    one false c d h = refl

nothing : {X : Type 0} (xs : List X) → filter (λ x. false) xs ≡ []
nothing [] = refl
nothing (x ∷ xs) = nothing xs

parts : {X : Type 0} (key : X → Option ℕ) (xs : List X) (s n : ℕ)
    → IsPermutation (filter (λ x. within s n (key x)) xs) (flat_map (λ i. filter (λ x. is_number i (key x)) xs) (range_with_len s n))
parts {X} key xs s zero = subst (λ (l : List X). IsPermutation l []) (sym (nothing xs)) (IsPermutation-refl [])
parts {X} key xs s (suc n) =
    let all = filter (λ x. within s (suc n) (key x)) xs in
    let here : filter (λ x. is_number s (key x)) all ≡ filter (λ x. is_number s (key x)) xs =
    fuse (λ x. is_number s (key x)) (λ x. within s (suc n) (key x)) xs
    ∙ alike (λ x. within s (suc n) (key x) && is_number s (key x)) (λ x. is_number s (key x)) (λ x. first (is_number s (key x)) (within (s + 1) n (key x))) xs in
    let there : filter (λ x. not (is_number s (key x))) all ≡ filter (λ x. within (s + 1) n (key x)) xs =
    fuse (λ x. not (is_number s (key x))) (λ x. within s (suc n) (key x)) xs
    ∙ alike (λ x. within s (suc n) (key x) && not (is_number s (key x))) (λ x. within (s + 1) n (key x)) (λ x. rest (key x)) xs in
    IsPermutation-trans _ _ _
    (subst (λ (l : List X). IsPermutation all (l ++ filter (λ x. not (is_number s (key x))) all)) here (IsPermutation-filter_both (λ x. is_number s (key x)) (λ x. not (is_number s (key x))) (λ x. refl) all))
    (IsPermutation-append_right (filter (λ x. is_number s (key x)) xs) _ _ (subst (λ (l : List X). IsPermutation l (flat_map (λ i. filter (λ x. is_number i (key x)) xs) (range_with_len (s + 1) n))) (sym there) (parts key xs (s + 1) n)))
  where
    first : (a b : Bool) → (a || b) && a ≡ a
    first true b = refl
    first false true = refl
    first false false = refl

    rest : (o : Option ℕ) → within s (suc n) o && not (is_number s o) ≡ within (s + 1) n o
    rest None = ap (λ b. b && true) (none_within (s + 1) n) ∙ sym (none_within (s + 1) n)
    rest (Some k) = by (k == s) refl
      where
        by : (b : Bool) → (k == s) ≡ b → (b || within (s + 1) n (Some k)) && not b ≡ within (s + 1) n (Some k)
        by true e = sym (not_above k (s + 1) n (omega (arith, eqb-true k s e)))
        by false e = and_true (within (s + 1) n (Some k))
          where
            and_true : (c : Bool) → c && true ≡ c
            and_true true = refl
            and_true false = refl

-- ---- the embeddings of a graph with a triple more

equal : (r : Ordering) → is_eq r ≡ true → r ≡ Equal
equal Less h = cc
equal Equal h = refl
equal Greater h = cc

-- what stands in the graph with the triple is that triple, or stood before
put_in : (s t : Triple) (ts : List Triple) → is_in triple_cmp s (put triple_cmp t ts) ≡ true → is_eq (triple_cmp s t) ≡ false → is_in triple_cmp s ts ≡ true
put_in s t [] h n = cc
put_in s t (u ∷ us) h n = by (triple_cmp t u) refl (is_eq (triple_cmp s u)) refl (put_in s t us)
  where
    by : (r : Ordering) → triple_cmp t u ≡ r → (b : Bool) → is_eq (triple_cmp s u) ≡ b → (is_in triple_cmp s (put triple_cmp t us) ≡ true → is_eq (triple_cmp s t) ≡ false → is_in triple_cmp s us ≡ true) → is_in triple_cmp s (u ∷ us) ≡ true
    by Less e b f rest = rw (e, n) at h
    by Equal e b f rest = rw e at h
    by Greater e true f rest = rw f refl
    by Greater e false f rest = rw f (rest (rw (e, f) at h) n)

module _ (q : PatternGraph) (g : Graph) (t : Triple) (absent : has_triple g t ≡ false) where
  -- the edges are kept in the smaller graph exactly where none is sent to the triple
  edges_kept : (m : List ℕ) (es : List PatternEdge) → list_all (λ e. has_triple (with_triple g t) (image m e)) es ≡ true
      → list_all (λ e. has_triple g (image m e)) es ≡ not (list_any (is_sent t m) es)
  edges_kept m [] h = refl
  edges_kept m (e ∷ es) h =
      let two = both (has_triple (with_triple g t) (image m e)) (list_all (λ f. has_triple (with_triple g t) (image m f)) es) h in
      by (is_sent t m e) refl two.0 (edges_kept m es two.1)
    where
      by : (b : Bool) → is_sent t m e ≡ b → has_triple (with_triple g t) (image m e) ≡ true → list_all (λ f. has_triple g (image m f)) es ≡ not (list_any (is_sent t m) es)
          → has_triple g (image m e) && list_all (λ f. has_triple g (image m f)) es ≡ not (b || list_any (is_sent t m) es)
      by true s h rest = let gone : has_triple g (image m e) ≡ false = ap (has_triple g) (same_triple (image m e) t (equal (triple_cmp (image m e) t) s)) ∙ absent in rw gone refl
      by false s h rest = rw (put_in (image m e) t g.triples h s) rest

  was_embedding : (m : List ℕ) → is_embedding q (with_triple g t) m ≡ true → is_embedding q g m ≡ not (list_any (is_sent t m) q.edges)
  was_embedding m h =
      let outer = both (fit_all q g m && keeps_edges q (with_triple g t) m) (keeps_mode q.mode m) h in
      let inner = both (fit_all q g m) (keeps_edges q (with_triple g t) m) outer.0 in
      rw (inner.0, outer.1, edges_kept m q.edges inner.1) (and_true (not (list_any (is_sent t m) q.edges)))
    where
      and_true : (c : Bool) → c && true ≡ c
      and_true true = refl
      and_true false = refl

  -- it is new exactly where some edge is sent to the triple
  is_new : (m : List ℕ) → is_embedding q (with_triple g t) m ≡ true → not (list_any (same_map m) (embeddings q g)) ≡ list_any (is_sent t m) q.edges
  is_new m h = by (list_any (same_map m) (embeddings q g)) refl (list_any (is_sent t m) q.edges) refl
    where
      was : is_embedding q g m ≡ not (list_any (is_sent t m) q.edges)
      was = was_embedding m h

      by : (b : Bool) → list_any (same_map m) (embeddings q g) ≡ b → (c : Bool) → list_any (is_sent t m) q.edges ≡ c → not b ≡ c
      by true e true f = absurd (false_true (sym (was ∙ ap not f) ∙ embeds q g m e))
      by true e false f = refl
      by false e true f = refl
      by false e false f = absurd (false_true (sym e ∙ embedding_listed q g m (was ∙ ap not f)))

  gained_is : gained q g (with_triple g t) ≡ filter (λ m. within 0 (length q.edges) (first_sent 0 t m q.edges)) (embeddings q (with_triple g t))
  gained_is = alike_in (is_embedding q (with_triple g t)) _ _ (λ m h. is_new m h ∙ sym (sent_within 0 t m q.edges)) (id_lists (ids g) (vertex_count q))

-- all classes together are what the triple brings
pub are_gained : ClassesAreGained
are_gained q g t absent =
    subst (λ l. IsPermutation l (flat_map (edge_class q (with_triple g t) t) (range_with_len 0 (length q.edges)))) (sym (gained_is q g t absent))
    (parts (λ m. first_sent 0 t m q.edges) (embeddings q (with_triple g t)) 0 (length q.edges))

-- an embedding lies in one class only
pub are_apart : ClassesAreApart
are_apart q g t m i k a b =
    same (first_sent 0 t m q.edges)
    (passes (λ n. is_number i (first_sent 0 t n q.edges)) m (embeddings q g) (list_any-from_Contains nat_list_eq_equiv m (edge_class q g t i) a))
    (passes (λ n. is_number k (first_sent 0 t n q.edges)) m (embeddings q g) (list_any-from_Contains nat_list_eq_equiv m (edge_class q g t k) b))
  where
    same : (o : Option ℕ) → is_number i o ≡ true → is_number k o ≡ true → i ≡ k
    same None x y = cc
    same (Some n) x y = sym (eqb-true n i x) ∙ eqb-true n k y

-- it lies in one exactly where it was none before
pub are_new : ClassesAreNew
are_new q g t m absent c = (one, two)
  where
    larger : Graph
    larger = with_triple g t

    there : list_any (same_map m) (embeddings q larger) ≡ true
    there = list_any-from_Contains nat_list_eq_equiv m (embeddings q larger) c

    new : not (list_any (same_map m) (embeddings q g)) ≡ list_any (is_sent t m) q.edges
    new = is_new q g t absent m (embeds q larger m there)

    one : (i : ℕ) × (i < length q.edges) × Contains (edge_class q larger t i) m → Contains (embeddings q g) m → ⊥
    one p d =
        let in_class = passes (λ n. is_number p.0 (first_sent 0 t n q.edges)) m (embeddings q larger) (list_any-from_Contains nat_list_eq_equiv m (edge_class q larger t p.0) p.2) in
        let old : list_any (same_map m) (embeddings q g) ≡ true = list_any-from_Contains nat_list_eq_equiv m (embeddings q g) d in
        clash (first_sent 0 t m q.edges) in_class (any_sent 0 t m q.edges ∙ sym new ∙ ap not old)
      where
        clash : (o : Option ℕ) → is_number p.0 o ≡ true → sent_bool o ≡ false → ⊥
        clash None x y = false_true x
        clash (Some n) x y = false_true (sym y)

    is_any : (Contains (embeddings q g) m → ⊥) → list_any (is_sent t m) q.edges ≡ true
    is_any f = sym new ∙ unless (list_any (same_map m) (embeddings q g)) (λ e. f (Contains-from_any same_exact m (embeddings q g) e))

    pick : (Contains (embeddings q g) m → ⊥) → (o : Option ℕ) → first_sent 0 t m q.edges ≡ o → (i : ℕ) × (i < length q.edges) × Contains (edge_class q larger t i) m
    pick f None e = absurd (false_true (sym (ap sent_bool e) ∙ any_sent 0 t m q.edges ∙ is_any f))
    pick f (Some k) e =
        let low = within_below k 0 (length q.edges) (sym (ap (within 0 (length q.edges)) e) ∙ sent_within 0 t m q.edges ∙ is_any f) in
        (k, omega (arith, low), Contains-from_any same_exact m (edge_class q larger t k) (kept (λ n. is_number k (first_sent 0 t n q.edges)) m (embeddings q larger) (ap (is_number k) e ∙ eqb-refl k) there))

    two : (Contains (embeddings q g) m → ⊥) → (i : ℕ) × (i < length q.edges) × Contains (edge_class q larger t i) m
    two f = pick f (first_sent 0 t m q.edges) refl

-- what the triple brings to the graph without it
pub gained_by_classes : (q : PatternGraph) (g : Graph) (t : Triple) → IsGraph g → has_triple g t ≡ true
    → IsPermutation (gained q (without_triple g t) g) (flat_map (edge_class q g t) (range_with_len 0 (length q.edges)))
gained_by_classes q g t graph there =
    let back : with_triple (without_triple g t) t ≡ g = ap (λ ts. record g { triples = ts }) (put_back triple_cmp triple_total triple_exact t g.triples graph.ascending_triples there) in
    let P : Graph → Type 0 = λ h. IsPermutation (gained q (without_triple g t) h) (flat_map (edge_class q h t) (range_with_len 0 (length q.edges))) in
    subst P back (are_gained q (without_triple g t) t (absent_after triple_cmp triple_total t g.triples))

-- ---- an edge with another label

-- the number of the first edge is none below where the numbers begin
not_below : (k i : ℕ) (t : Triple) (m : List ℕ) (es : List PatternEdge) → k < i → is_number k (first_sent i t m es) ≡ false
not_below k i t m [] low = refl
not_below k i t m (e ∷ es) low = by (is_sent t m e) (not_below k (i + 1) t m es (omega arith))
  where
    by : (b : Bool) → is_number k (first_sent (i + 1) t m es) ≡ false → is_number k (cond b (Some i) (first_sent (i + 1) t m es)) ≡ false
    by true rest = ne_eqb i k (λ same. absurd (omega (arith, same, low)))
    by false rest = rest

-- nor that of an edge that is not sent
not_number : (i j : ℕ) (t : Triple) (m : List ℕ) (es : List PatternEdge) (e : PatternEdge) → slice_get es j ≡ Some e → is_sent t m e ≡ false → is_number (i + j) (first_sent i t m es) ≡ false
not_number i j t m [] e here off = absurd (none-some e here)
not_number i zero t m (f ∷ fs) e here off =
    let none : is_sent t m f ≡ false = ap (is_sent t m) (same_Some f e here) ∙ off in
    subst (λ b. is_number (i + 0) (cond b (Some i) (first_sent (i + 1) t m fs)) ≡ false) (sym none) (not_below (i + 0) (i + 1) t m fs (omega arith))
not_number i (suc j) t m (f ∷ fs) e here off = by (is_sent t m f) (not_number (i + 1) j t m fs e here off)
  where
    same : i + 1 + j ≡ i + suc j
    same = omega arith

    by : (b : Bool) → is_number (i + 1 + j) (first_sent (i + 1) t m fs) ≡ false → is_number (i + suc j) (cond b (Some i) (first_sent (i + 1) t m fs)) ≡ false
    by true rest = ne_eqb i (i + suc j) (λ e. absurd (omega (arith, e)))
    by false rest = subst (λ n. is_number n (first_sent (i + 1) t m fs) ≡ false) same rest

-- an edge with another label is not sent
not_sent : (t : Triple) (m : List ℕ) (e : PatternEdge) → bytes_eq e.label t.label ≡ false → is_sent t m e ≡ false
not_sent t m e other =
    false_from_ne_true (is_sent t m e) (λ sent.
    let same = same_triple (image m e) t (equal (triple_cmp (image m e) t) sent) in
    both_ways (bytes_eq e.label t.label) other ((bytes_eq-Decides e.label t.label).1 (ap (λ (s : Triple). s.label) same)))

none_kept : {X : Type 0} (p : X → Bool) (xs : List X) → ((x : X) → p x ≡ false) → filter p xs ≡ []
none_kept p [] off = refl
none_kept p (x ∷ xs) off = rw (off x) (none_kept p xs off)

-- the class of an edge with another label is empty
pub other_label : OtherLabelClassIsEmpty
other_label q g t i e here other =
    none_kept (λ m. is_number i (first_sent 0 t m q.edges)) (embeddings q g) (λ m.
    subst (λ n. is_number n (first_sent 0 t m q.edges) ≡ false) (omega arith) (not_number 0 i t m q.edges e here (not_sent t m e other)))
