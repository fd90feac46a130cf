-- How many names are in use.
use Rattle.std.proofs.Common.{◌≡◌, ℕ, zero, suc, ◌+◌, ◌<◌, Bool, true, false, cond, Option, Some, None, List, [], ◌∷◌, ◌++◌, map, length}
use Rattle.std.proofs.Common.{refl, sym, ap, ◌∙◌, subst, ⊎_elim, ◌⊎◌, inl, inr, arith}
use Rattle.std.specs.Prelude.{◌==◌, is_some, MatchOption, count_by, unwrap_or, if◌then◌else◌}
use Rattle.std.specs.List.{flat_map}
use Rattle.std.specs.Ordering.{is_eq}
use Rattle.std.specs.Cmp.Lexicographic.{nat_list_cmp_total}
use Rattle.std.proofs.lemmas.Map.Lookups.{exact_bytes, exact_unsigned}
use Rattle.std.proofs.lemmas.Bool.{cases_lt, eqb-true}
use Rattle.std.proofs.lemmas.Option.{none-some, same_Some}
use Rattle.flux_model.specs.Text.{text_cmp}
use Rattle.flux_model.specs.Labels.{put_all, label_set}
use Rattle.flux_model.specs.Ordered.{is_ascending, is_in, put}
use Rattle.flux_model.proofs.OrderedLemmas.{put-ascending}
use Rattle.flux_model.specs.Graph.{triple_cmp, vertex_cmp, name_count, names_of}
use Rattle.flux_model.specs.declared.graph.Vertex.{Vertex}
use Rattle.flux_model.specs.declared.graph.Triple.{Triple}
use Rattle.label_graph.specs.declared.link.Link.{Link}
use Rattle.label_graph.specs.declared.names.Name.{Name}
use Rattle.label_graph.specs.Names.{slot, text_at, IsTable, IsUnknown}
use Rattle.flux_model.specs.Members.{In, AreOnce}
use Rattle.flux_model.proofs.MemberLemmas.{in_any, any_in, in_mapped, mapped_in, append_in, in_append_left, in_append_right}
use Rattle.flux_laws.proofs.SameMembersLemmas.{ascending_same, put_in, in_put}
use Rattle.label_graph.specs.Sorted.{sorted}
use Rattle.label_graph.specs.Store.{triple_of, kept_graph, IsNamed}
use Rattle.label_graph.proofs.TableLemmas.{tell_text}
use Rattle.label_graph.proofs.SortedLemmas.{sorted_ascending, sorted_in, in_sorted, length_sorted}
use Rattle.label_graph.proofs.StoreLemmas.{vertex_total, triple_total, self_equal, count_cons, count_in, known_label, known_slot, text_of_slot}
use Rattle.graph_traits.proofs.NumberLemmas.{triple_exact, is_equal}

-- the texts of the names in use
abbrev pub text_list : List (Option Name) → List (List ℕ)
text_list [] = []
text_list (None ∷ rest) = text_list rest
text_list (Some x ∷ rest) = x.text ∷ text_list rest

-- there are as many texts as names in use
pub length_texts : (names : List (Option Name)) → length (text_list names) ≡ count_by is_some names
length_texts [] = refl
length_texts (None ∷ rest) = let e = count_cons is_some None rest in let i = length_texts rest in omega arith
length_texts (Some x ∷ rest) = let e = count_cons is_some (Some x) rest in let i = length_texts rest in omega arith

-- a text of the list is a name in use
pub texts_in : (names : List (Option Name)) (t : List ℕ) → In (text_list names) t →
    (n : ℕ) × (x : Name) × (slot names n ≡ Some x) × (x.text ≡ t)
texts_in [] t i = absurd i
texts_in (None ∷ rest) t i = let r = texts_in rest t i in (suc r.0, r.1, r.2, r.3)
texts_in (Some x ∷ rest) t (inl e) = (zero, x, refl, sym e)
texts_in (Some x ∷ rest) t (inr i) = let r = texts_in rest t i in (suc r.0, r.1, r.2, r.3)

-- a name in use has its text in the list
pub in_texts : (names : List (Option Name)) (n : ℕ) (x : Name) → slot names n ≡ Some x → In (text_list names) x.text
in_texts [] n x e = absurd (none-some x e)
in_texts (None ∷ rest) zero x e = absurd (none-some x e)
in_texts (None ∷ rest) (suc n) x e = in_texts rest n x e
in_texts (Some y ∷ rest) zero x e = inl (ap (λ (z : Name). z.text) (sym (same_Some y x e)))
in_texts (Some y ∷ rest) (suc n) x e = inr (in_texts rest n x e)

-- no text is listed twice
pub apart_texts : (names : List (Option Name)) → ((m n : ℕ) (x y : Name) → slot names m ≡ Some x → slot names n ≡ Some y → x.text ≡ y.text → m ≡ n) → AreOnce (text_list names)
apart_texts [] d = tt
apart_texts (None ∷ rest) d = apart_texts rest (λ m n x y p q e. let s : suc m ≡ suc n = d (suc m) (suc n) x y p q e in omega arith)
apart_texts (Some z ∷ rest) d = (
  λ i. let r = texts_in rest z.text i in let s : zero ≡ suc r.0 = d zero (suc r.0) z r.1 refl r.2 (sym r.3) in absurd (omega arith),
  apart_texts rest (λ m n x y p q e. let s : suc m ≡ suc n = d (suc m) (suc n) x y p q e in omega arith),
)

-- ---- sets of names

-- what is in a set after names were put into it was in it, or is one of them
pub in_put_all : (set names : List (List ℕ)) (z : List ℕ) → In (put_all set names) z → In set z ⊎ In names z
in_put_all set [] z i = inl i
in_put_all set (n ∷ ns) z i = ⊎_elim (λ j. ⊎_elim (λ e. inr (inl e)) (λ k. inl k) (put_in text_cmp nat_list_cmp_total n set z j)) (λ j. inr (inr j)) (in_put_all (put text_cmp n set) ns z i)

-- and each of these is in it
pub put_all_in : (set names : List (List ℕ)) (z : List ℕ) → In set z ⊎ In names z → In (put_all set names) z
put_all_in set [] z (inl i) = i
put_all_in set [] z (inr i) = absurd i
put_all_in set (n ∷ ns) z (inl i) = put_all_in (put text_cmp n set) ns z (inl (in_put text_cmp nat_list_cmp_total n set (λ y j e. exact_bytes n y e) z (inr i)))
put_all_in set (n ∷ ns) z (inr (inl e)) = put_all_in (put text_cmp n set) ns z (inl (in_put text_cmp nat_list_cmp_total n set (λ y j q. exact_bytes n y q) z (inl e)))
put_all_in set (n ∷ ns) z (inr (inr i)) = put_all_in (put text_cmp n set) ns z (inr i)

-- a set that names were put into is still in order
pub put_all_ascending : (set names : List (List ℕ)) → is_ascending text_cmp set ≡ true → is_ascending text_cmp (put_all set names) ≡ true
put_all_ascending set [] a = a
put_all_ascending set (n ∷ ns) a = put_all_ascending (put text_cmp n set) ns (put-ascending text_cmp nat_list_cmp_total n set a)

-- ---- joined lists

in_labels : (vs : List Vertex) (t : List ℕ) → In (flat_map (λ (v : Vertex). v.labels) vs) t → (v : Vertex) × In vs v × In v.labels t
in_labels [] t i = absurd i
in_labels (v ∷ vs) t i = ⊎_elim (λ j. (v, inl refl, j)) (λ j. let r = in_labels vs t j in (r.0, inr r.1, r.2)) (append_in v.labels (flat_map (λ (v : Vertex). v.labels) vs) t i)

labels_in : (vs : List Vertex) (v : Vertex) (t : List ℕ) → In vs v → In v.labels t → In (flat_map (λ (v : Vertex). v.labels) vs) t
labels_in [] v t i j = absurd i
labels_in (w ∷ vs) v t (inl e) j = in_append_left w.labels (flat_map (λ (v : Vertex). v.labels) vs) t (let P : Vertex → Type 0 = λ z. In z.labels t in subst P e j)
labels_in (w ∷ vs) v t (inr i) j = in_append_right w.labels (flat_map (λ (v : Vertex). v.labels) vs) t (labels_in vs v t i j)

some_counted : {X : Type 0} (p : X → Bool) (xs : List X) → 0 < count_by p xs → (x : X) × In xs x × (p x ≡ true)
some_counted p [] c = absurd (omega arith)
some_counted {X} p (x ∷ xs) c = by (p x) refl (some_counted p xs)
  where
    by : (b : Bool) → p x ≡ b → (0 < count_by p xs → (y : X) × In xs y × (p y ≡ true)) → (y : X) × In (x ∷ xs) y × (p y ≡ true)
    by true e ih = (x, inl refl, e)
    by false e ih = let z : cond (p x) 1 0 + count_by p xs ≡ count_by p xs = rw e (omega arith) in let q : count_by p (x ∷ xs) ≡ count_by p xs = count_cons p x xs ∙ z in let r = ih (omega arith) in (r.0, inr r.1, r.2)

is_here : (xs : List (List ℕ)) (t : List ℕ) → In xs t ⊎ (In xs t → ⊥)
is_here [] t = inr (λ i. i)
is_here (x ∷ xs) t = ⊎_elim (λ e. inl (inl e)) (λ n. ⊎_elim (λ i. inl (inr i)) (λ m. inr (λ i. ⊎_elim n m i)) (is_here xs t)) (tell_text t x)

module _ (names : List (Option Name)) (vertices : List Vertex) (links : List Link) (h : IsNamed names vertices links)
    (tab : IsTable names) where
  not_there : (t : List ℕ) → (In (text_list names) t → ⊥) → IsUnknown names t
  not_there t n m e = let x = known_slot names m t e in let P : List ℕ → Type 0 = λ z. In (text_list names) z in n (subst P x.2 (in_texts names m x.0 x.1))

  from_vertex : (t : List ℕ) (v : Vertex) → In vertices v → In v.labels t → In (text_list names) t
  from_vertex t v i j = ⊎_elim (λ k. k)
      (λ n.
      let zero_count = h.unborne t (not_there t n) in
      let has : is_in text_cmp t v.labels ≡ true = any_in (λ y. is_eq (text_cmp t y)) v.labels t j (ap is_eq (self_equal text_cmp nat_list_cmp_total t)) in
      let some = count_in (λ (w : Vertex). is_in text_cmp t w.labels) vertices v i has in absurd (omega arith))
      (is_here (text_list names) t)

  from_link : (l : Link) → In links l → In (text_list names) (unwrap_or (text_at names l.label) [])
  from_link l i =
      let x = known_label names vertices links h l i in
      let e : unwrap_or (text_at names l.label) [] ≡ x.0.text = ap (λ (o : Option (List ℕ)). unwrap_or o []) (text_of_slot names l.label x.0 x.1) in
      let P : List ℕ → Type 0 = λ z. In (text_list names) z in subst P (sym e) (in_texts names l.label x.0 x.1)

  -- a label name of the graph is a name in use
  pub names_known : (t : List ℕ) → In (names_of (kept_graph names vertices links)) t → In (text_list names) t
  names_known t i = ⊎_elim
      (λ j. let v = in_labels (sorted vertex_cmp vertices) t j in from_vertex t v.0 (sorted_in vertex_cmp vertex_total vertices v.0 v.1) v.2)
      (λ j.
      let s = mapped_in (λ (s : Triple). s.label) (sorted triple_cmp (map (triple_of names) links)) t j in
      let l = mapped_in (triple_of names) links s.0 (sorted_in triple_cmp triple_total (map (triple_of names) links) s.0 s.1) in
      let e : unwrap_or (text_at names l.0.label) [] ≡ t = sym (s.2 ∙ ap (λ (z : Triple). z.label) l.2) in
      let P : List ℕ → Type 0 = λ z. In (text_list names) z in subst P e (from_link l.0 l.1))
      (append_in (flat_map (λ (v : Vertex). v.labels) (sorted vertex_cmp vertices)) (map (λ (s : Triple). s.label) (sorted triple_cmp (map (triple_of names) links))) t i)

  by_link : (n : ℕ) (x : Name) → slot names n ≡ Some x → 0 < count_by (λ (l : Link). l.label == n) links →
      In (names_of (kept_graph names vertices links)) x.text
  by_link n x e c =
      let l = some_counted (λ (l : Link). l.label == n) links c in
      let s : slot names l.0.label ≡ Some x = (let P : ℕ → Type 0 = λ m. slot names m ≡ Some x in subst P (sym (eqb-true l.0.label n l.2)) e) in
      let f : unwrap_or (text_at names l.0.label) [] ≡ x.text = ap (λ (o : Option (List ℕ)). unwrap_or o []) (text_of_slot names l.0.label x s) in
      let P : List ℕ → Type 0 = λ z. In (map (λ (s : Triple). s.label) (sorted triple_cmp (map (triple_of names) links))) z in
      in_append_right (flat_map (λ (v : Vertex). v.labels) (sorted vertex_cmp vertices)) (map (λ (s : Triple). s.label) (sorted triple_cmp (map (triple_of names) links))) x.text
      (subst P f (in_mapped (λ (s : Triple). s.label) (sorted triple_cmp (map (triple_of names) links)) (triple_of names l.0)
      (in_sorted triple_cmp triple_total (map (triple_of names) links) (λ a b i j q. triple_exact a b q) (triple_of names l.0) (in_mapped (triple_of names) links l.0 l.1))))

  by_vertex : (t : List ℕ) → 0 < count_by (λ (v : Vertex). is_in text_cmp t v.labels) vertices →
      In (names_of (kept_graph names vertices links)) t
  by_vertex t c =
      let v = some_counted (λ (v : Vertex). is_in text_cmp t v.labels) vertices c in
      let y = in_any (λ z. is_eq (text_cmp t z)) v.0.labels v.2 in
      let e : t ≡ y.0 = exact_bytes t y.0 (is_equal (text_cmp t y.0) y.2) in
      let P : List ℕ → Type 0 = λ z. In v.0.labels z in
      in_append_left (flat_map (λ (v : Vertex). v.labels) (sorted vertex_cmp vertices)) (map (λ (s : Triple). s.label) (sorted triple_cmp (map (triple_of names) links))) t
      (labels_in (sorted vertex_cmp vertices) v.0 t (in_sorted vertex_cmp vertex_total vertices (λ a b i j q. h.one_each a b i j (exact_unsigned a.id b.id q)) v.0 v.1) (subst P (sym e) y.1))

  -- a name in use is a label name of the graph
  pub known_named : (t : List ℕ) → In (text_list names) t → In (names_of (kept_graph names vertices links)) t
  known_named t i =
      let r = texts_in names t i in
      let used = tab.used r.0 r.1 r.2 in
      let c = h.counted r.0 r.1 r.2 in
      let P : List ℕ → Type 0 = λ z. In (names_of (kept_graph names vertices links)) z in
      subst P r.3 (⊎_elim (λ l. by_link r.0 r.1 r.2 l) (λ z. by_vertex r.1.text (omega (arith, used, c, z))) (cases_lt 0 (count_by (λ (l : Link). l.label == r.0) links)))

  set_is : (text : List ℕ) (list : List (List ℕ)) → ((t : List ℕ) → In list t → In (text_list names) t ⊎ (t ≡ text)) →
      ((t : List ℕ) → In (text_list names) t ⊎ (t ≡ text) → In list t) →
      label_set (names_of (kept_graph names vertices links) ++ text ∷ []) ≡ sorted text_cmp list
  set_is text list to from = ascending_same text_cmp nat_list_cmp_total (label_set (names_of (kept_graph names vertices links) ++ text ∷ [])) (sorted text_cmp list)
      (put_all_ascending [] (names_of (kept_graph names vertices links) ++ text ∷ []) refl) (sorted_ascending text_cmp nat_list_cmp_total list)
      (λ z i. in_sorted text_cmp nat_list_cmp_total list (λ a b p q e. exact_bytes a b e) z
      (from z (⊎_elim (λ j. absurd j) (λ j. ⊎_elim (λ k. inl (names_known z k)) (λ k. ⊎_elim (λ e. inr e) (λ n. absurd n) k) (append_in (names_of (kept_graph names vertices links)) (text ∷ []) z j))
      (in_put_all [] (names_of (kept_graph names vertices links) ++ text ∷ []) z i))))
      (λ z i. put_all_in [] (names_of (kept_graph names vertices links) ++ text ∷ []) z
      (inr (⊎_elim (λ k. in_append_left (names_of (kept_graph names vertices links)) (text ∷ []) z (known_named z k)) (λ e. in_append_right (names_of (kept_graph names vertices links)) (text ∷ []) z (inl e))
      (to z (sorted_in text_cmp nat_list_cmp_total list z i)))))

  -- with one text more, the graph has as many label names as the table, and one more where the text has no number
  pub names_counted : (text : List ℕ) (known : Option ℕ) → MatchOption known (IsUnknown names text) (λ n. text_at names n ≡ Some text) →
      name_count (kept_graph names vertices links) (text ∷ []) ≡ count_by is_some names + (if is_some known then 0 else 1)
  names_counted text (Some n) found =
      let x = known_slot names n text found in
      let P : List ℕ → Type 0 = λ z. In (text_list names) z in
      let there : In (text_list names) text = subst P x.2 (in_texts names n x.0 x.1) in
      let e = ap (λ (l : List (List ℕ)). length l) (set_is text (text_list names) (λ t i. inl i) (λ t i. ⊎_elim (λ j. j) (λ q. subst P (sym q) there) i)) in
      let l = length_sorted text_cmp nat_list_cmp_total exact_bytes (text_list names) (apart_texts names tab.distinct) in
      let c = length_texts names in e ∙ (l ∙ omega (arith, c))
  names_counted text None unknown =
      let e = ap (λ (l : List (List ℕ)). length l) (set_is text (text ∷ text_list names) (λ t i. ⊎_elim (λ q. inr q) (λ j. inl j) i) (λ t i. ⊎_elim (λ j. inr j) (λ q. inl q) i)) in
      let l = length_sorted text_cmp nat_list_cmp_total exact_bytes (text ∷ text_list names)
      (λ i. let r = texts_in names text i in unknown r.0 (text_of_slot names r.0 r.1 r.2 ∙ ap Some r.3), apart_texts names tab.distinct) in
      let c = length_texts names in e ∙ (l ∙ omega (arith, c))
