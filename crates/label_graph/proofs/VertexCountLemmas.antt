-- How many vertices and names there are, with those of a new vertex.
use Rattle.std.proofs.Common.{◌≡◌, ℕ, ◌+◌, Bool, true, false, ◌||◌, not, Option, Some, List, [], ◌∷◌, ◌++◌, map, length, refl, sym, ap, ◌∙◌}
use Rattle.std.proofs.Common.{subst, ⊎_elim, inl, inr, arith}
use Rattle.std.specs.Prelude.{is_some, nat_eq, nat_le, nat_lt, count_by}
use Rattle.std.specs.List.{filter, AllByRecursion, IsDistinct}
use Rattle.std.specs.Map.{keys_of}
use Rattle.std.specs.declared.cmp.Ordering.{Ordering}
use Rattle.std.specs.declared.cmp.Ordering.TheVariants.{Less, Equal, Greater}
use Rattle.std.specs.Ordering.{nat_cmp}
use Rattle.std.specs.Cmp.{nat_cmp_total}
use Rattle.std.specs.Cmp.Lexicographic.{nat_list_cmp_total}
use Rattle.std.proofs.lemmas.Bool.{eq-eqb, true≢false}
use Rattle.std.proofs.lemmas.List.{length-map, length-append}
use Rattle.std.proofs.lemmas.List.Sums.{length-filter}
use Rattle.std.proofs.lemmas.Map.Entries.{length-keys_of}
use Rattle.std.proofs.lemmas.Map.Lookups.{exact_bytes, exact_unsigned}
use Rattle.flux_model.specs.Text.{text_cmp}
use Rattle.flux_model.specs.Labels.{label_set}
use Rattle.flux_model.specs.Ordered.{put, is_ascending}
use Rattle.flux_model.specs.Graph.{vertex_cmp, name_count, names_of}
use Rattle.flux_model.specs.declared.graph.Vertex.{Vertex}
use Rattle.flux_model.specs.declared.limits.Limits.{Limits}
use Rattle.label_graph.specs.declared.link.Link.{Link}
use Rattle.label_graph.specs.declared.link.Node.{Node}
use Rattle.label_graph.specs.declared.names.Name.{Name}
use Rattle.label_graph.specs.Names.{IsTable}
use Rattle.label_graph.specs.Places.{vertex_of}
use Rattle.label_graph.specs.SetNames.{is_known}
use Rattle.flux_model.specs.Members.{In, AreOnce}
use Rattle.flux_model.proofs.MemberLemmas.{append_in, in_append_left, in_append_right, filter_in, in_filter}
use Rattle.flux_laws.proofs.AscendingLemmas.{filter-ascending}
use Rattle.flux_laws.proofs.SameMembersLemmas.{ascending_same, ascending_once}
use Rattle.label_graph.specs.Sorted.{sorted}
use Rattle.label_graph.specs.Store.{kept_graph, IsNamed}
use Rattle.label_graph.proofs.CountLemmas.{text_list, length_texts, texts_in, in_texts, apart_texts, in_put_all, put_all_in, put_all_ascending, names_known, known_named}
use Rattle.label_graph.proofs.SetNameLemmas.{known_at, known_some}
use Rattle.label_graph.proofs.SortedLemmas.{sorted_ascending, sorted_in, in_sorted, length_sorted}
use Rattle.label_graph.proofs.StoreLemmas.{known_slot, text_of_slot}

-- ---- vertices

ids_put : (v : Vertex) (vs : List Vertex) → map (λ (w : Vertex). w.id) (put vertex_cmp v vs)
    ≡ put nat_cmp v.id (map (λ (w : Vertex). w.id) vs)
ids_put v [] = refl
ids_put v (w ∷ ws) = by (nat_cmp v.id w.id) refl (ids_put v ws)
  where
    by : (r : Ordering) → nat_cmp v.id w.id ≡ r → map (λ (w : Vertex). w.id) (put vertex_cmp v ws)
        ≡ put nat_cmp v.id (map (λ (w : Vertex). w.id) ws) →
        map (λ (w : Vertex). w.id) (put vertex_cmp v (w ∷ ws)) ≡ put nat_cmp v.id (map (λ (w : Vertex). w.id) (w ∷ ws))
    by Less e ih = rw e refl
    by Equal e ih = rw e refl
    by Greater e ih = rw e (ap (λ (l : List ℕ). w.id ∷ l) ih)

ids_sorted : (vs : List Vertex) → map (λ (w : Vertex). w.id) (sorted vertex_cmp vs) ≡ sorted nat_cmp (map (λ (w : Vertex). w.id) vs)
ids_sorted [] = refl
ids_sorted (v ∷ vs) = ids_put v (sorted vertex_cmp vs) ∙ ap (put nat_cmp v.id) (ids_sorted vs)

ids_of_nodes : {R : Type 0} (es : List (ℕ × Node R)) → map (λ (w : Vertex). w.id) (map vertex_of es) ≡ keys_of es
ids_of_nodes [] = refl
ids_of_nodes (e ∷ es) = ap (λ (l : List ℕ). e.0 ∷ l) (ids_of_nodes es)

apart_ids : (ks : List ℕ) → IsDistinct nat_eq ks → AreOnce ks
unfolding IsDistinct
apart_ids [] d = tt
apart_ids (k ∷ ks) d = ((λ i. head ks d.0 i), apart_ids ks d.1)
  where
    head : (ls : List ℕ) → AllByRecursion (λ m. nat_eq k m ≡ false) ls → In ls k → ⊥
    head [] a j = j
    head (m ∷ ms) a (inl e) = true≢false (sym (eq-eqb k m e) ∙ a.0)
    head (m ∷ ms) a (inr j) = head ms a.1 j

-- there are as many vertices as nodes
pub vertices_counted : {R : Type 0} (es : List (ℕ × Node R)) → IsDistinct nat_eq (keys_of es) → length (sorted vertex_cmp (map vertex_of es)) ≡ length es
vertices_counted es d =
    sym (length-map (sorted vertex_cmp (map vertex_of es)) (λ (w : Vertex). w.id))
    ∙ (ap (λ (l : List ℕ). length l) (ids_sorted (map vertex_of es) ∙ ap (sorted nat_cmp) (ids_of_nodes es))
    ∙ (length_sorted nat_cmp nat_cmp_total exact_unsigned (keys_of es) (apart_ids (keys_of es) d) ∙ length-keys_of es))

-- ---- names

apart_joined : (xs ys : List (List ℕ)) → AreOnce xs → AreOnce ys → ((z : List ℕ) → In xs z → In ys z → ⊥) → AreOnce (xs ++ ys)
apart_joined [] ys a b n = b
apart_joined (x ∷ xs) ys a b n = ((λ i. ⊎_elim a.0 (λ j. n x (inl refl) j) (append_in xs ys x i)), apart_joined xs ys a.1 b (λ z i j. n z (inr i) j))

module _ (names : List (Option Name)) (vertices : List Vertex) (links : List Link) (h : IsNamed names vertices links) (tab : IsTable names)
    (set : List (List ℕ)) (up : is_ascending text_cmp set ≡ true) where
  listed_known : (t : List ℕ) → is_known names t ≡ true → In (text_list names) t
  listed_known t e =
      let n = known_at names t e in
      let x = known_slot names n.0 t n.1 in
      let P : List ℕ → Type 0 = λ z. In (text_list names) z in
      subst P x.2 (in_texts names n.0 x.0 x.1)

  known_listed : (t : List ℕ) → In (text_list names) t → is_known names t ≡ true
  known_listed t i = let r = texts_in names t i in known_some names r.0 t (text_of_slot names r.0 r.1 r.2 ∙ ap Some r.3)

  in_use : (z : List ℕ) → In (names_of (kept_graph names vertices links) ++ set) z →
      In (filter (λ (t : List ℕ). not (is_known names t)) set ++ text_list names) z
  in_use z i = ⊎_elim
      (λ j. in_append_right (filter (λ (t : List ℕ). not (is_known names t)) set) (text_list names) z (names_known names vertices links h tab z j))
      (λ j. by (is_known names z) refl j)
      (append_in (names_of (kept_graph names vertices links)) set z i)
    where
      by : (b : Bool) → is_known names z ≡ b → In set z → In (filter (λ (t : List ℕ). not (is_known names t)) set ++ text_list names) z
      by true e j = in_append_right (filter (λ (t : List ℕ). not (is_known names t)) set) (text_list names) z (listed_known z e)
      by false e j = in_append_left (filter (λ (t : List ℕ). not (is_known names t)) set) (text_list names) z (in_filter (λ (t : List ℕ). not (is_known names t)) set z j (ap not e))

  use_in : (z : List ℕ) → In (filter (λ (t : List ℕ). not (is_known names t)) set ++ text_list names) z →
      In (names_of (kept_graph names vertices links) ++ set) z
  use_in z i = ⊎_elim
      (λ j. in_append_right (names_of (kept_graph names vertices links)) set z (filter_in (λ (t : List ℕ). not (is_known names t)) set z j).0)
      (λ j. in_append_left (names_of (kept_graph names vertices links)) set z (known_named names vertices links h tab z j))
      (append_in (filter (λ (t : List ℕ). not (is_known names t)) set) (text_list names) z i)

  label_set_is : label_set (names_of (kept_graph names vertices links) ++ set)
      ≡ sorted text_cmp (filter (λ (t : List ℕ). not (is_known names t)) set ++ text_list names)
  label_set_is = ascending_same text_cmp nat_list_cmp_total (label_set (names_of (kept_graph names vertices links) ++ set)) (sorted text_cmp (filter (λ (t : List ℕ). not (is_known names t)) set ++ text_list names))
      (put_all_ascending [] (names_of (kept_graph names vertices links) ++ set) refl)
      (sorted_ascending text_cmp nat_list_cmp_total (filter (λ (t : List ℕ). not (is_known names t)) set ++ text_list names))
      (λ z i. in_sorted text_cmp nat_list_cmp_total (filter (λ (t : List ℕ). not (is_known names t)) set ++ text_list names) (λ a b p q e. exact_bytes a b e) z
      (in_use z (⊎_elim (λ j. absurd j) (λ j. j) (in_put_all [] (names_of (kept_graph names vertices links) ++ set) z i))))
      (λ z i. put_all_in [] (names_of (kept_graph names vertices links) ++ set) z
      (inr (use_in z (sorted_in text_cmp nat_list_cmp_total (filter (λ (t : List ℕ). not (is_known names t)) set ++ text_list names) z i))))

  apart_all : AreOnce (filter (λ (t : List ℕ). not (is_known names t)) set ++ text_list names)
  apart_all = apart_joined (filter (λ (t : List ℕ). not (is_known names t)) set) (text_list names)
      (ascending_once text_cmp nat_list_cmp_total (filter (λ (t : List ℕ). not (is_known names t)) set) (filter-ascending text_cmp nat_list_cmp_total (λ (t : List ℕ). not (is_known names t)) set up))
      (apart_texts names tab.distinct)
      (λ z i j. true≢false (sym (filter_in (λ (t : List ℕ). not (is_known names t)) set z i).1 ∙ ap not (known_listed z j)))

  -- the names in use, and those of the set that are not
  pub set_counted : name_count (kept_graph names vertices links) set
      ≡ count_by is_some names + count_by (λ (t : List ℕ). not (is_known names t)) set
  set_counted =
      let e = ap (λ (l : List (List ℕ)). length l) label_set_is in
      let l = length_sorted text_cmp nat_list_cmp_total exact_bytes (filter (λ (t : List ℕ). not (is_known names t)) set ++ text_list names) apart_all in
      let a = length-append (filter (λ (t : List ℕ). not (is_known names t)) set) (text_list names) in
      let f = length-filter (λ (t : List ℕ). not (is_known names t)) set in
      let c = length_texts names in
      e ∙ (l ∙ omega (arith, a, f, c))

-- the test of the store is that of the graph
pub room_is : {R : Type 0} (limits : Limits) (names : List (Option Name)) (es : List (ℕ × Node R)) (links : List Link) (set : List (List ℕ))
    (count name more : ℕ) → IsNamed names (map vertex_of es) links → IsTable names →
    is_ascending text_cmp set ≡ true → IsDistinct nat_eq (keys_of es) → count ≡ length es → name ≡ count_by is_some names → more ≡ count_by (λ (t : List ℕ). not (is_known names t)) set →
    nat_le limits.vertices (length (sorted vertex_cmp (map vertex_of es))) || nat_lt limits.labels (name_count (kept_graph names (map vertex_of es) links) set) ≡ nat_le limits.vertices count || nat_lt limits.labels (name + more)
room_is limits names es links set count name more h tab up d c n m =
    let all : name_count (kept_graph names (map vertex_of es) links) set ≡ name + more = set_counted names (map vertex_of es) links h tab set up ∙ omega (arith, n, m) in
    ap (λ (k : ℕ). nat_le limits.vertices k || nat_lt limits.labels (name_count (kept_graph names (map vertex_of es) links) set)) (vertices_counted es d ∙ sym c)
    ∙ ap (λ (k : ℕ). nat_le limits.vertices count || nat_lt limits.labels k) all
