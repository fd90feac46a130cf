-- A vertex more or less.
use Rattle.std.proofs.Common.{◌≡◌, ℕ, ◌+◌, ◌-◌, Bool, true, false, not, cond, Option, Some, None, List, [], ◌∷◌, map, refl, sym, ap, ◌∙◌}
use Rattle.std.proofs.Common.{subst, ⊎_elim, inl, inr, arith}
use Rattle.std.specs.Prelude.{◌==◌, IsPermutation, option_map, count_by, unwrap_or}
use Rattle.std.specs.List.{filter, list_any}
use Rattle.std.proofs.lemmas.Bool.{eq-eqb, true≢false}
use Rattle.std.proofs.lemmas.Map.Lookups.{exact_unsigned}
use Rattle.std.proofs.lemmas.Option.{none-some, same_Some}
use Rattle.flux_model.specs.Text.{text_cmp}
use Rattle.flux_model.specs.Ordered.{put, is_in}
use Rattle.flux_model.specs.Graph.{vertex_cmp, triple_cmp, with_vertex, without_vertex}
use Rattle.flux_model.specs.declared.graph.Vertex.{Vertex}
use Rattle.label_graph.specs.declared.link.Link.{Link}
use Rattle.label_graph.specs.declared.names.Name.{Name}
use Rattle.label_graph.specs.Names.{slot, text_at, lowered, IsUnknown}
use Rattle.label_graph.specs.SetNames.{is_known, raised_in, lowered_in, IsRaised}
use Rattle.flux_model.specs.Members.{In}
use Rattle.flux_model.proofs.MemberLemmas.{filter_in, in_filter, in_permutation, in_permutation_back, none_in}
use Rattle.flux_laws.proofs.AscendingLemmas.{filter-ascending}
use Rattle.flux_laws.proofs.SameMembersLemmas.{ascending_same}
use Rattle.label_graph.specs.Sorted.{sorted}
use Rattle.label_graph.specs.Store.{triple_of, kept_graph, use_count, IsNamed}
use Rattle.label_graph.proofs.SetNameLemmas.{raised_here, raised_apart, text_kept, lowered_here, lowered_apart, known_at, unknown_is}
use Rattle.label_graph.proofs.SortedLemmas.{sorted_ascending, sorted_in, in_sorted, sorted_same, IsExactOn}
use Rattle.label_graph.proofs.StoreLemmas.{vertex_total, count_cons, count_permutation, count_in, known_label, known_slot, text_of_slot, lowered_cases, same_graph}

-- ---- vertices in another order

-- names, vertices and links belong together with the vertices in another order
pub named_permuted : (names : List (Option Name)) (vertices vertices' : List Vertex) (links : List Link) →
    IsPermutation vertices vertices' → IsNamed names vertices links → IsNamed names vertices' links
named_permuted names vertices vertices' links p h = record {
  counted = λ n x e. h.counted n x e ∙ ap (λ (m : ℕ). count_by (λ (k : Link). k.label == n) links + m) (sym (count_permutation (λ (v : Vertex). is_in text_cmp x.text v.labels) vertices vertices' p));
  unused = h.unused;
  unborne = λ t unknown. count_permutation (λ (v : Vertex). is_in text_cmp t v.labels) vertices vertices' p ∙ h.unborne t unknown;
  one_each = λ v w i j e. h.one_each v w (in_permutation vertices vertices' p v i) (in_permutation vertices vertices' p w j) e;
}

exact_vertices : (names : List (Option Name)) (vertices : List Vertex) (links : List Link) → IsNamed names vertices links →
    IsExactOn vertex_cmp vertex_total vertices
exact_vertices names vertices links h a b i j q = h.one_each a b i j (exact_unsigned a.id b.id q)

-- how many vertices bear a text, with one more
borne : (v : Vertex) (vertices : List Vertex) (t : List ℕ) (b : Bool) → is_in text_cmp t v.labels ≡ b →
    count_by (λ (w : Vertex). is_in text_cmp t w.labels) (v ∷ vertices) ≡ cond b 1 0 + count_by (λ (w : Vertex). is_in text_cmp t w.labels) vertices
borne v vertices t b e = count_cons (λ (w : Vertex). is_in text_cmp t w.labels) v vertices ∙ ap (λ (c : Bool). cond c 1 0 + count_by (λ (w : Vertex). is_in text_cmp t w.labels) vertices) e

-- triples whose labels keep their texts
triples_same : (names names' : List (Option Name)) (ls : List Link) →
    ((l : Link) → In ls l → text_at names' l.label ≡ text_at names l.label) → map (triple_of names') ls ≡ map (triple_of names) ls
triples_same names names' [] f = refl
triples_same names names' (l ∷ ls) f =
    let t : triple_of names' l ≡ triple_of names l = ap (λ (o : Option (List ℕ)). record { src = l.src; label = unwrap_or o []; dst = l.dst }) (f l (inl refl)) in
    rw (t, triples_same names names' ls (λ m i. f m (inr i))) refl

-- ---- a vertex more

module _ (names names' : List (Option Name)) (vertices vertices' : List Vertex) (links : List Link) (v : Vertex)
    (h : IsNamed names vertices links) (r : IsRaised v.labels names names') (new : list_any (λ (w : Vertex). w.id == v.id) vertices ≡ false) (p : IsPermutation (v ∷ vertices) vertices') where
  counted_known : (n : ℕ) (x : Name) → slot names n ≡ Some x →
      (raised_in v.labels x).uses ≡ use_count (v ∷ vertices) links n (raised_in v.labels x).text
  counted_known n x e = by (is_in text_cmp x.text v.labels) refl
    where
      by : (b : Bool) → is_in text_cmp x.text v.labels ≡ b →
          (raised_in v.labels x).uses ≡ use_count (v ∷ vertices) links n (raised_in v.labels x).text
      by true f =
          let P : Name → Type 0 = λ z. z.uses ≡ use_count (v ∷ vertices) links n z.text in
          let c = h.counted n x e in
          let d = borne v vertices x.text true f in
          subst P (sym (raised_here v.labels x f)) (omega (arith, c, d))
      by false f =
          let P : Name → Type 0 = λ z. z.uses ≡ use_count (v ∷ vertices) links n z.text in
          let c = h.counted n x e in
          let d = borne v vertices x.text false f in
          subst P (sym (raised_apart v.labels x f)) (omega (arith, c, d))

  counted_more : (n : ℕ) (y : Name) → slot names' n ≡ Some y → y.uses ≡ use_count (v ∷ vertices) links n y.text
  counted_more n y g = by (slot names n) refl
    where
      by : (o : Option Name) → slot names n ≡ o → y.uses ≡ use_count (v ∷ vertices) links n y.text
      by None e =
          let f = r.fresh n y e g in
          let a = h.unused n e in
          let b = h.unborne y.text f.2 in
          let d = borne v vertices y.text true f.1 in
          let u = f.0 in
          omega (arith, a, b, d, u)
      by (Some x) e =
          let P : Name → Type 0 = λ z. z.uses ≡ use_count (v ∷ vertices) links n z.text in
          subst P (same_Some (raised_in v.labels x) y (sym (r.kept n x e) ∙ g)) (counted_known n x e)

  unused_more : (n : ℕ) → slot names' n ≡ None → count_by (λ (k : Link). k.label == n) links ≡ 0
  unused_more n g = by (slot names n) refl
    where
      by : (o : Option Name) → slot names n ≡ o → count_by (λ (k : Link). k.label == n) links ≡ 0
      by None e = h.unused n e
      by (Some x) e = absurd (none-some (raised_in v.labels x) (sym g ∙ r.kept n x e))

  unborne_more : (t : List ℕ) → IsUnknown names' t → count_by (λ (w : Vertex). is_in text_cmp t w.labels) (v ∷ vertices) ≡ 0
  unborne_more t unknown =
      let a = h.unborne t (λ m e. unknown m (text_kept v.labels names names' r m t e)) in
      let d = borne v vertices t false (r.known t unknown) in
      omega (arith, a, d)

  no_twin : (w : Vertex) → In vertices w → w.id ≡ v.id → ⊥
  no_twin w i e = true≢false (sym (eq-eqb w.id v.id e) ∙ none_in (λ (z : Vertex). z.id == v.id) vertices new w i)

  one_each_more : (a b : Vertex) → In (v ∷ vertices) a → In (v ∷ vertices) b → a.id ≡ b.id → a ≡ b
  one_each_more a b (inl s) (inl t) e = s ∙ sym t
  one_each_more a b (inl s) (inr j) e = absurd (no_twin b j (sym e ∙ ap (λ (z : Vertex). z.id) s))
  one_each_more a b (inr i) (inl t) e = absurd (no_twin a i (e ∙ ap (λ (z : Vertex). z.id) t))
  one_each_more a b (inr i) (inr j) e = h.one_each a b i j e

  named_first : IsNamed names' (v ∷ vertices) links
  named_first = record { counted = counted_more; unused = unused_more; unborne = unborne_more; one_each = one_each_more }

  -- names, vertices and links belong together after a vertex came
  pub named_with : IsNamed names' vertices' links
  named_with = named_permuted names' (v ∷ vertices) vertices' links p named_first

  text_stays_with : (l : Link) → In links l → text_at names' l.label ≡ text_at names l.label
  text_stays_with l i =
      let x = known_label names vertices links h l i in
      text_kept v.labels names names' r l.label x.0.text (text_of_slot names l.label x.0 x.1) ∙ sym (text_of_slot names l.label x.0 x.1)

  -- a vertex more is the graph with it
  pub graph_with : with_vertex (kept_graph names vertices links) v ≡ kept_graph names' vertices' links
  graph_with = same_graph (put vertex_cmp v (sorted vertex_cmp vertices)) (sorted vertex_cmp vertices') (sorted triple_cmp (map (triple_of names) links)) (sorted triple_cmp (map (triple_of names') links))
      (sorted_same vertex_cmp vertex_total (v ∷ vertices) vertices' (exact_vertices names' (v ∷ vertices) links named_first) p)
      (ap (sorted triple_cmp) (sym (triples_same names names' links text_stays_with)))

-- ---- a vertex less

module _ (names names' : List (Option Name)) (vertices : List Vertex) (links : List Link) (v : Vertex)
    (h : IsNamed names (v ∷ vertices) links) (low : (q : ℕ) → slot names' q ≡ lowered_in v.labels (slot names q)) where
  slot_apart : (n : ℕ) (x : Name) → slot names n ≡ Some x → is_in text_cmp x.text v.labels ≡ false → slot names' n ≡ Some x
  slot_apart n x e f = low n ∙ (ap (lowered_in v.labels) e ∙ lowered_apart v.labels x f)

  slot_here : (n : ℕ) (x : Name) → slot names n ≡ Some x → is_in text_cmp x.text v.labels ≡ true → slot names' n ≡ lowered (Some x)
  slot_here n x e f = low n ∙ (ap (lowered_in v.labels) e ∙ lowered_here v.labels x f)

  counted_less : (n : ℕ) (y : Name) → slot names' n ≡ Some y → y.uses ≡ use_count vertices links n y.text
  counted_less n y g = by (slot names n) refl
    where
      by : (o : Option Name) → slot names n ≡ o → y.uses ≡ use_count vertices links n y.text
      by None e = absurd (none-some y (sym (low n ∙ ap (lowered_in v.labels) e) ∙ g))
      by (Some x) e = test (is_in text_cmp x.text v.labels) refl
        where
          test : (b : Bool) → is_in text_cmp x.text v.labels ≡ b → y.uses ≡ use_count vertices links n y.text
          test true f = ⊎_elim
              (λ s. absurd (none-some y (sym (slot_here n x e f ∙ s.0) ∙ g)))
              (λ s.
              let P : Name → Type 0 = λ z. z.uses ≡ use_count vertices links n z.text in
              let c = h.counted n x e in
              let d = borne v vertices x.text true f in
              let u = s.1 in
              subst P (same_Some (record x { uses = x.uses - 1 }) y (sym (slot_here n x e f ∙ s.0) ∙ g)) (omega (arith, c, d, u)))
              (lowered_cases x)
          test false f =
              let P : Name → Type 0 = λ z. z.uses ≡ use_count vertices links n z.text in
              let c = h.counted n x e in
              let d = borne v vertices x.text false f in
              subst P (same_Some x y (sym (slot_apart n x e f) ∙ g)) (omega (arith, c, d))

  unused_less : (n : ℕ) → slot names' n ≡ None → count_by (λ (k : Link). k.label == n) links ≡ 0
  unused_less n g = by (slot names n) refl
    where
      by : (o : Option Name) → slot names n ≡ o → count_by (λ (k : Link). k.label == n) links ≡ 0
      by None e = h.unused n e
      by (Some x) e = test (is_in text_cmp x.text v.labels) refl
        where
          test : (b : Bool) → is_in text_cmp x.text v.labels ≡ b → count_by (λ (k : Link). k.label == n) links ≡ 0
          test true f = ⊎_elim
              (λ s. let c = h.counted n x e in let d = borne v vertices x.text true f in let u = s.1 in omega (arith, c, d, u))
              (λ s. absurd (none-some (record x { uses = x.uses - 1 }) (sym g ∙ (slot_here n x e f ∙ s.0))))
              (lowered_cases x)
          test false f = absurd (none-some x (sym g ∙ slot_apart n x e f))

  borne_known : (t : List ℕ) (n : ℕ) (x : Name) → IsUnknown names' t → slot names n ≡ Some x → x.text ≡ t →
      is_in text_cmp x.text v.labels ≡ true → count_by (λ (w : Vertex). is_in text_cmp t w.labels) vertices ≡ 0
  borne_known t n x unknown e same f = ⊎_elim
      (λ s.
      let P : List ℕ → Type 0 = λ z. count_by (λ (w : Vertex). is_in text_cmp z w.labels) vertices ≡ 0 in
      let c = h.counted n x e in
      let d = borne v vertices x.text true f in
      let u = s.1 in
      subst P same (omega (arith, c, d, u)))
      (λ s. absurd (unknown n (ap (option_map (λ (y : Name). y.text)) (slot_here n x e f ∙ s.0) ∙ ap Some same)))
      (lowered_cases x)

  unborne_less : (t : List ℕ) → IsUnknown names' t → count_by (λ (w : Vertex). is_in text_cmp t w.labels) vertices ≡ 0
  unborne_less t unknown = test (is_in text_cmp t v.labels) refl
    where
      test : (b : Bool) → is_in text_cmp t v.labels ≡ b → count_by (λ (w : Vertex). is_in text_cmp t w.labels) vertices ≡ 0
      test false f =
          let a = h.unborne t (λ m e.
          let x = known_slot names m t e in
          let P : List ℕ → Type 0 = λ z. is_in text_cmp z v.labels ≡ false in
          unknown m (text_of_slot names' m x.0 (slot_apart m x.0 x.1 (subst P (sym x.2) f)) ∙ ap Some x.2)) in
          let d = borne v vertices t false f in
          omega (arith, a, d)
      test true f = known (is_known names t) refl
        where
          known : (b : Bool) → is_known names t ≡ b → count_by (λ (w : Vertex). is_in text_cmp t w.labels) vertices ≡ 0
          known true e =
              let n = known_at names t e in
              let x = known_slot names n.0 t n.1 in
              let P : List ℕ → Type 0 = λ z. is_in text_cmp z v.labels ≡ true in
              borne_known t n.0 x.0 unknown x.1 x.2 (subst P (sym x.2) f)
          known false e =
              let a = h.unborne t (unknown_is names t e) in
              let d = borne v vertices t true f in
              omega (arith, a, d)

  -- names, vertices and links belong together after a vertex without triples went
  pub named_without : IsNamed names' vertices links
  named_without = record {
    counted = counted_less;
    unused = unused_less;
    unborne = unborne_less;
    one_each = λ a b i j e. h.one_each a b (inr i) (inr j) e;
  }

  -- the labels of the links stand for the same texts
  pub text_stays_without : (l : Link) → In links l → text_at names' l.label ≡ text_at names l.label
  text_stays_without l i = known (known_label names (v ∷ vertices) links h l i)
    where
      known : (x : Name) × (slot names l.label ≡ Some x) → text_at names' l.label ≡ text_at names l.label
      known x = test (is_in text_cmp x.0.text v.labels) refl
        where
          test : (b : Bool) → is_in text_cmp x.0.text v.labels ≡ b → text_at names' l.label ≡ text_at names l.label
          test true f = ⊎_elim
              (λ s.
              let c = h.counted l.label x.0 x.1 in
              let d = borne v vertices x.0.text true f in
              let u = s.1 in
              let some = count_in (λ (k : Link). k.label == l.label) links l i (eq-eqb l.label l.label refl) in
              absurd (omega (arith, c, d, u, some)))
              (λ s. ap (option_map (λ (y : Name). y.text)) (slot_here l.label x.0 x.1 f ∙ s.0) ∙ sym (ap (option_map (λ (y : Name). y.text)) x.1))
              (lowered_cases x.0)
          test false f = ap (option_map (λ (y : Name). y.text)) (slot_apart l.label x.0 x.1 f ∙ sym x.1)

-- the vertices of a store without the one with this id
vertices_without : (names : List (Option Name)) (vertices vertices' : List Vertex) (links : List Link) (v : Vertex) →
    IsNamed names vertices links → IsPermutation vertices (v ∷ vertices') →
    list_any (λ (w : Vertex). w.id == v.id) vertices' ≡ false → filter (λ (w : Vertex). not (w.id == v.id)) (sorted vertex_cmp vertices) ≡ sorted vertex_cmp vertices'
vertices_without names vertices vertices' links v h p gone =
    let exact : IsExactOn vertex_cmp vertex_total vertices = exact_vertices names vertices links h in
    let back : (z : Vertex) → In vertices' z → In vertices z = λ z i. in_permutation vertices (v ∷ vertices') p z (inr i) in
    ascending_same vertex_cmp vertex_total (filter (λ (w : Vertex). not (w.id == v.id)) (sorted vertex_cmp vertices)) (sorted vertex_cmp vertices')
    (filter-ascending vertex_cmp vertex_total (λ (w : Vertex). not (w.id == v.id)) (sorted vertex_cmp vertices) (sorted_ascending vertex_cmp vertex_total vertices))
    (sorted_ascending vertex_cmp vertex_total vertices')
    (λ z i.
    let f = filter_in (λ (w : Vertex). not (w.id == v.id)) (sorted vertex_cmp vertices) z i in
    in_sorted vertex_cmp vertex_total vertices' (λ a b j k q. exact a b (back a j) (back b k) q) z
    (⊎_elim
    (λ (e : z ≡ v).
    let s : not (z.id == v.id) ≡ false = ap not (eq-eqb z.id v.id (ap (λ (w : Vertex). w.id) e)) in
    absurd (true≢false (sym f.1 ∙ s)))
    (λ j. j)
    (in_permutation_back vertices (v ∷ vertices') p z (sorted_in vertex_cmp vertex_total vertices z f.0))))
    (λ z i.
    let j = sorted_in vertex_cmp vertex_total vertices' z i in
    in_filter (λ (w : Vertex). not (w.id == v.id)) (sorted vertex_cmp vertices) z
    (in_sorted vertex_cmp vertex_total vertices exact z (back z j))
    (ap not (none_in (λ (w : Vertex). w.id == v.id) vertices' gone z j)))

module _ (names names' : List (Option Name)) (vertices vertices' : List Vertex) (links : List Link) (v : Vertex)
    (h : IsNamed names vertices links) (low : (q : ℕ) → slot names' q ≡ lowered_in v.labels (slot names q)) (p : IsPermutation vertices (v ∷ vertices'))
    (gone : list_any (λ (w : Vertex). w.id == v.id) vertices' ≡ false) where
  -- the same, with the vertices in another order
  pub removed_vertex_named : IsNamed names' vertices' links
  removed_vertex_named = named_without names names' vertices' links v (named_permuted names vertices (v ∷ vertices') links p h) low

  -- a vertex less is the graph without it
  pub graph_without : without_vertex (kept_graph names vertices links) v.id ≡ kept_graph names' vertices' links
  graph_without = same_graph (filter (λ (w : Vertex). not (w.id == v.id)) (sorted vertex_cmp vertices)) (sorted vertex_cmp vertices') (sorted triple_cmp (map (triple_of names) links)) (sorted triple_cmp (map (triple_of names') links))
      (vertices_without names vertices vertices' links v h p gone)
      (ap (sorted triple_cmp) (sym (triples_same names names' links (text_stays_without names names' vertices' links v (named_permuted names vertices (v ∷ vertices') links p h) low))))
