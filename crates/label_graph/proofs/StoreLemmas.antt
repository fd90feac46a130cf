-- The graph of a store.
use Rattle.std.proofs.Common.{◌≡◌, ℕ, ◌+◌, ◌-◌, ◌<◌, ◌≤◌, Bool, true, false, ◌&&◌, cond, Option, Some, None, List, [], ◌∷◌, map, not, Ok}
use Rattle.std.proofs.Common.{Err, refl, sym, ap, ◌∙◌, subst, ⊎_elim, ◌⊎◌, inl, inr, arith}
use Rattle.std.specs.Prelude.{◌==◌, IsSome, is_some, nat_eq, nat_le, IsPermutation, slice_get, MatchOption, option_map, unwrap_or, count_by}
use Rattle.std.specs.List.{filter, list_any}
use Rattle.std.specs.Map.{lookup, keys_of}
use Rattle.std.specs.declared.cmp.Ordering.{Ordering}
use Rattle.std.specs.declared.cmp.Ordering.TheVariants.{Less, Equal, Greater}
use Rattle.std.specs.Ordering.{is_eq, ordering_reverse}
use Rattle.std.specs.Cmp.{IsTotalOrder, nat_cmp_total, on_total, nat_eq_equiv}
use Rattle.std.specs.Cmp.Lexicographic.{nat_list_cmp_total}
use Rattle.std.proofs.lemmas.Cmp.{then_total}
use Rattle.std.proofs.lemmas.Map.Lookups.{exact_unsigned}
use Rattle.std.proofs.lemmas.Map.Made.{is_some-lookup}
use Rattle.std.proofs.lemmas.Bool.{cases_eq, ne_eqb, eq-eqb, cases_lt, le-leb, lt-leb, true≢false, and_from}
use Rattle.std.proofs.lemmas.Option.{none-some, same_Some}
use Rattle.std.proofs.lemmas.List.Sums.{sum_by-cons}
use Rattle.std.proofs.lemmas.List.Sorted.{sum_by-IsPermutation, IsPermutation-map}
use Rattle.flux_model.specs.Text.{text_cmp}
use Rattle.flux_model.specs.Graph.{Graph, vertex_cmp, triple_cmp, with_triple, without_triple, drop_edge, has_both_ends, has_vertex}
use Rattle.flux_model.specs.Graph.{has_triple}
use Rattle.flux_model.specs.Ordered.{is_in, put}
use Rattle.flux_model.specs.declared.graph.Vertex.{Vertex}
use Rattle.flux_model.specs.declared.graph.Triple.{Triple}
use Rattle.flux_model.specs.declared.code.Code.TheVariants as code
use Rattle.graph_traits.proofs.NumberLemmas.{triple_exact, is_equal}
use Rattle.label_graph.specs.declared.link.Link.{Link}
use Rattle.label_graph.specs.declared.link.Node.{Node}
use Rattle.label_graph.specs.declared.link.RowEntry.{RowEntry}
use Rattle.label_graph.specs.declared.link.Places.{Places}
use Rattle.label_graph.specs.declared.names.Name.{Name}
use Rattle.label_graph.specs.Names.{slot, text_at, IsTable, IsUnknown, lowered, uses_of}
use Rattle.label_graph.specs.Places.{Row, ArePlaced, link_eq, vertex_of, outs, out_link}
use Rattle.flux_model.specs.Members.{In}
use Rattle.flux_model.proofs.MemberLemmas.{filter_in, in_filter, mapped_in, in_mapped, in_permutation, in_permutation_back, none_in, in_any}
use Rattle.flux_laws.proofs.AscendingLemmas.{filter-ascending}
use Rattle.flux_laws.proofs.SameMembersLemmas.{ascending_same}
use Rattle.label_graph.specs.Sorted.{sorted}
use Rattle.label_graph.specs.Store.{triple_of, kept_graph, use_count, IsNamed}
use Rattle.label_graph.proofs.TableLemmas.{tell_text, same_name}
use Rattle.label_graph.proofs.PlaceLemmas.{link_same, link_refl, option_map_some, IsSome-mapped}
use Rattle.label_graph.proofs.SortedLemmas.{sorted_ascending, sorted_in, in_sorted, any_sorted, sorted_same, IsExactOn}

-- ---- the orders

-- vertices are ordered by their ids
pub vertex_total : IsTotalOrder vertex_cmp
vertex_total = on_total (λ (v : Vertex). v.id) nat_cmp_total

-- triples are ordered by source, label and target
pub triple_total : IsTotalOrder triple_cmp
triple_total = then_total (on_total (λ (t : Triple). t.src) nat_cmp_total) (then_total (on_total (λ (t : Triple). t.label) nat_list_cmp_total) (on_total (λ (t : Triple). t.dst) nat_cmp_total))

-- each element is equal to itself in an order
pub self_equal : {X : Type 0} (R : X → X → Ordering) → IsTotalOrder R → (x : X) → R x x ≡ Equal
self_equal R o x = by (R x x) (o.antisymm x x)
  where
    by : (r : Ordering) → r ≡ ordering_reverse r → r ≡ Equal
    by Less e = cc
    by Equal e = refl
    by Greater e = cc

-- ---- counts

-- a list counts its first element and its rest
pub count_cons : {X : Type 0} (p : X → Bool) (x : X) (xs : List X) → count_by p (x ∷ xs) ≡ cond (p x) 1 0 + count_by p xs
count_cons p x xs = sum_by-cons (λ y. cond (p y) 1 0) x xs

-- a list counts the same in another order
pub count_permutation : {X : Type 0} (p : X → Bool) (xs ys : List X) → IsPermutation xs ys → count_by p ys ≡ count_by p xs
count_permutation p xs ys h = sum_by-IsPermutation (λ y. cond (p y) 1 0) xs ys h

-- an element that passes a test is counted
pub count_in : {X : Type 0} (p : X → Bool) (xs : List X) (x : X) → In xs x → p x ≡ true → 0 < count_by p xs
count_in p [] x i h = absurd i
count_in {X} p (y ∷ ys) x (inl e) h = let q : p y ≡ true = (let P : X → Type 0 = λ z. p z ≡ true in subst P e h) in rw (count_cons p y ys, q) (omega arith)
count_in p (y ∷ ys) x (inr i) h = let r = count_in p ys x i h in omega (arith, count_cons p y ys)

-- ---- readers

same_id : (a b : ℕ) → (a == b) ≡ (b == a)
same_id a b = nat_eq_equiv.symm a b

-- the vertices of the nodes have the ids of the nodes
pub any_vertex : {R : Type 0} (es : List (ℕ × Node R)) (id : ℕ) → list_any (λ (v : Vertex). v.id == id) (map vertex_of es)
    ≡ list_any (nat_eq id) (keys_of es)
any_vertex [] id = refl
any_vertex (e ∷ es) id = rw (same_id e.0 id, any_vertex es id) refl

-- an id is a vertex where it has a node
pub has_vertex_of : {R : Type 0} (names : List (Option Name)) (es : List (ℕ × Node R)) (links : List Link) (id : ℕ) →
    has_vertex (kept_graph names (map vertex_of es) links) id ≡ is_some (lookup (nat_eq id) es)
has_vertex_of names es links id =
    any_sorted vertex_cmp vertex_total (λ (v : Vertex). v.id == id) (λ x y e. ap (λ (n : ℕ). n == id) (exact_unsigned x.id y.id e)) (map vertex_of es)
    ∙ any_vertex es id ∙ sym (is_some-lookup (nat_eq id) es)

-- the number of a link in a store stands for a text
pub known_label : (names : List (Option Name)) (vertices : List Vertex) (links : List Link) → IsNamed names vertices links → (k : Link) →
    In links k → (x : Name) × (slot names k.label ≡ Some x)
known_label names vertices links h k i = by (slot names k.label) refl
  where
    by : (o : Option Name) → slot names k.label ≡ o → (x : Name) × (slot names k.label ≡ Some x)
    by None e = let z = h.unused k.label e in let c = count_in (λ (l : Link). l.label == k.label) links k i (eq-eqb k.label k.label refl) in absurd (omega arith)
    by (Some x) e = (x, e)

-- a number stands for the text of its name
pub text_of_slot : (names : List (Option Name)) (n : ℕ) (x : Name) → slot names n ≡ Some x → text_at names n ≡ Some x.text
text_of_slot names n x e = ap (option_map (λ (y : Name). y.text)) e

-- a text has one number at most
pub one_number : (names : List (Option Name)) → IsTable names → (m n : ℕ) (text : List ℕ) → text_at names m ≡ Some text →
    text_at names n ≡ Some text → m ≡ n
one_number names t m n text p q =
    let a = option_map_some (λ (y : Name). y.text) (slot names m) text p in
    let b = option_map_some (λ (y : Name). y.text) (slot names n) text q in
    t.distinct m n a.0 b.0 a.1 b.1 (a.2 ∙ sym b.2)

same_link : (a b c x y z : ℕ) → a ≡ x → b ≡ y → c ≡ z → ◌≡◌ {A = Link} (record { src = a; label = b; dst = c })
    (record { src = x; label = y; dst = z })
same_link a b c x y z p q r = cc

-- the triple of a link tells the link
pub triple_tells : (names : List (Option Name)) (vertices : List Vertex) (links : List Link) → IsNamed names vertices links →
    IsTable names → (k l : Link) → In links k → (x : Name) → slot names l.label ≡ Some x →
    triple_of names k ≡ triple_of names l → k ≡ l
triple_tells names vertices links h t k l i x e same =
    let w = known_label names vertices links h k i in
    let p : unwrap_or (text_at names k.label) [] ≡ unwrap_or (text_at names l.label) [] = ap (λ (s : Triple). s.label) same in
    let q : w.0.text ≡ x.text = rw (text_of_slot names k.label w.0 w.1, text_of_slot names l.label x e) at p in
    same_link _ _ _ _ _ _ (ap (λ (s : Triple). s.src) same) (t.distinct k.label l.label w.0 x w.1 e q) (ap (λ (s : Triple). s.dst) same)

equal_respects : (t x y : Triple) → triple_cmp x y ≡ Equal → is_eq (triple_cmp t x) ≡ is_eq (triple_cmp t y)
equal_respects t x y e = let P : Triple → Type 0 = λ z. is_eq (triple_cmp t x) ≡ is_eq (triple_cmp t z) in subst P (triple_exact x y e) refl

-- a triple stands where a link means it
pub any_triple : (names : List (Option Name)) (vertices : List Vertex) (links : List Link) (t : Triple) →
    has_triple (kept_graph names vertices links) t ≡ list_any (λ s. is_eq (triple_cmp t s)) (map (triple_of names) links)
any_triple names vertices links t = any_sorted triple_cmp triple_total (λ s. is_eq (triple_cmp t s)) (equal_respects t) (map (triple_of names) links)

-- whether the triple of a link stands
pub has_triple_known : (names : List (Option Name)) (vertices : List Vertex) (links : List Link) → IsNamed names vertices links →
    IsTable names → (k : Link) (x : Name) → slot names k.label ≡ Some x →
    has_triple (kept_graph names vertices links) (triple_of names k) ≡ list_any (link_eq k) links
has_triple_known names vertices links h tab k x e = any_triple names vertices links (triple_of names k) ∙ each links (λ l i. i)
  where
    one : (l : Link) → In links l → (b : Bool) → link_eq k l ≡ b → is_eq (triple_cmp (triple_of names k) (triple_of names l)) ≡ b
    one l i true q = let P : Link → Type 0 = λ m. is_eq (triple_cmp (triple_of names k) (triple_of names m)) ≡ true in subst P (link_same k l q) (ap is_eq (self_equal triple_cmp triple_total (triple_of names k)))
    one l i false q = by (is_eq (triple_cmp (triple_of names k) (triple_of names l))) refl
      where
        by : (c : Bool) → is_eq (triple_cmp (triple_of names k) (triple_of names l)) ≡ c →
            is_eq (triple_cmp (triple_of names k) (triple_of names l)) ≡ false
        by true r =
            let s = triple_exact (triple_of names k) (triple_of names l) (is_equal (triple_cmp (triple_of names k) (triple_of names l)) r) in
            let u : l ≡ k = triple_tells names vertices links h tab l k i x e (sym s) in
            let v : link_eq k k ≡ false = (let P : Link → Type 0 = λ m. link_eq k m ≡ false in subst P u q) in let w = link_refl k in cc
        by false r = r

    each : (ls : List Link) → ((l : Link) → In ls l → In links l) →
        list_any (λ s. is_eq (triple_cmp (triple_of names k) s)) (map (triple_of names) ls) ≡ list_any (link_eq k) ls
    each [] f = refl
    each (l ∷ ls) f = rw (one l (f l (inl refl)) (link_eq k l) refl, each ls (λ m i. f m (inr i))) refl

-- no triple has a label that no number stands for
pub has_triple_unknown : (names : List (Option Name)) (vertices : List Vertex) (links : List Link) → IsNamed names vertices links →
    (t : Triple) → IsUnknown names t.label → has_triple (kept_graph names vertices links) t ≡ false
has_triple_unknown names vertices links h t unknown = any_triple names vertices links t ∙ each links (λ l i. i)
  where
    one : (l : Link) → In links l → (b : Bool) → is_eq (triple_cmp t (triple_of names l)) ≡ b →
        is_eq (triple_cmp t (triple_of names l)) ≡ false
    one l i true q =
        let s = triple_exact t (triple_of names l) (is_equal (triple_cmp t (triple_of names l)) q) in
        let w = known_label names vertices links h l i in
        let p : t.label ≡ unwrap_or (text_at names l.label) [] = ap (λ (z : Triple). z.label) s in
        let r : t.label ≡ w.0.text = rw (text_of_slot names l.label w.0 w.1) at p in
        absurd (unknown l.label (text_of_slot names l.label w.0 w.1 ∙ ap Some (sym r)))
    one l i false q = q

    each : (ls : List Link) → ((l : Link) → In ls l → In links l) →
        list_any (λ s. is_eq (triple_cmp t s)) (map (triple_of names) ls) ≡ false
    each [] f = refl
    each (l ∷ ls) f = rw (one l (f l (inl refl)) (is_eq (triple_cmp t (triple_of names l))) refl) (each ls (λ m i. f m (inr i)))

-- the same, by what a look-up of the name answered
pub known_slot : (names : List (Option Name)) (n : ℕ) (text : List ℕ) → text_at names n ≡ Some text →
    (x : Name) × (slot names n ≡ Some x) × (x.text ≡ text)
known_slot names n text e = option_map_some (λ (y : Name). y.text) (slot names n) text e

-- what a link means, by the text of its label
pub triple_is : (names : List (Option Name)) (k : Link) (text : List ℕ) → text_at names k.label ≡ Some text →
    triple_of names k ≡ record { src = k.src; label = text; dst = k.dst }
triple_is names k text e = ap (λ (o : Option (List ℕ)). record { src = k.src; label = unwrap_or o []; dst = k.dst }) e

-- a triple stands where the link with the number of its label does
pub has_triple_found : (names : List (Option Name)) (vertices : List Vertex) (links : List Link) → IsNamed names vertices links →
    IsTable names → (k : Link) (text : List ℕ) → text_at names k.label ≡ Some text →
    has_triple (kept_graph names vertices links) (record { src = k.src; label = text; dst = k.dst }) ≡ list_any (link_eq k) links
has_triple_found names vertices links h tab k text e =
    let x = known_slot names k.label text e in
    let P : Triple → Type 0 = λ t. has_triple (kept_graph names vertices links) t ≡ list_any (link_eq k) links in
    subst P (triple_is names k text e) (has_triple_known names vertices links h tab k x.0 x.1)

-- ---- a triple less

-- a name goes with its last use, and else has one use less
pub lowered_cases : (x : Name) → ((lowered (Some x) ≡ None) × (x.uses ≤ 1))
    ⊎ ((lowered (Some x) ≡ Some (record x { uses = x.uses - 1 })) × (1 < x.uses))
lowered_cases x = ⊎_elim (λ l. inr (rw (lt-leb x.uses 1 l) refl, l)) (λ l. inl (rw (le-leb x.uses 1 l) refl, l)) (cases_lt 1 x.uses)

module _ (names names' : List (Option Name)) (vertices : List Vertex) (links links' : List Link) (k : Link) (x : Name)
    (h : IsNamed names vertices links) (tab : IsTable names) (at : slot names k.label ≡ Some x) (p : IsPermutation links (k ∷ links'))
    (gone : list_any (link_eq k) links' ≡ false) (here : slot names' k.label ≡ lowered (slot names k.label))
    (others : (q : ℕ) → (q ≡ k.label → ⊥) → slot names' q ≡ slot names q) where
  here_is : slot names' k.label ≡ lowered (Some x)
  here_is = here ∙ ap lowered at

  count_left : (q : ℕ) → count_by (λ (l : Link). l.label == q) links
      ≡ cond (k.label == q) 1 0 + count_by (λ (l : Link). l.label == q) links'
  count_left q = sym (count_permutation (λ (l : Link). l.label == q) links (k ∷ links') p) ∙ count_cons (λ (l : Link). l.label == q) k links'

  count_here : count_by (λ (l : Link). l.label == k.label) links ≡ 1 + count_by (λ (l : Link). l.label == k.label) links'
  count_here = rw (eq-eqb k.label k.label refl) at (count_left k.label)

  count_apart : (q : ℕ) → (q ≡ k.label → ⊥) → count_by (λ (l : Link). l.label == q) links ≡ count_by (λ (l : Link). l.label == q) links'
  count_apart q n = let e : count_by (λ (l : Link). l.label == q) links ≡ 0 + count_by (λ (l : Link). l.label == q) links' = rw (ne_eqb k.label q (λ s. n (sym s))) at (count_left q) in omega arith

  counted_here : (y : Name) → slot names' k.label ≡ Some y → y.uses ≡ use_count vertices links' k.label y.text
  counted_here y e = ⊎_elim
      (λ r. let f : Some y ≡ None = sym e ∙ (here_is ∙ r.0) in absurd (none-some y (sym f)))
      (λ r.
      let f : record x { uses = x.uses - 1 } ≡ y = same_Some (record x { uses = x.uses - 1 }) y (sym r.0 ∙ (sym here_is ∙ e)) in
      let P : Name → Type 0 = λ z. z.uses ≡ use_count vertices links' k.label z.text in
      let c = h.counted k.label x at in
      let d = count_here in
      subst P f (omega (arith, c, d, r.1)))
      (lowered_cases x)

  counted_apart : (q : ℕ) (y : Name) → (q ≡ k.label → ⊥) → slot names' q ≡ Some y → y.uses ≡ use_count vertices links' q y.text
  counted_apart q y n e = let c = h.counted q y (sym (others q n) ∙ e) in c ∙ ap (λ (m : ℕ). m + count_by (λ (v : Vertex). is_in text_cmp y.text v.labels) vertices) (count_apart q n)

  unused_here : slot names' k.label ≡ None → count_by (λ (l : Link). l.label == k.label) links' ≡ 0
  unused_here e = ⊎_elim
      (λ r. let c = h.counted k.label x at in let d = count_here in omega (arith, c, d, r.1))
      (λ r. let f : None ≡ Some (record x { uses = x.uses - 1 }) = sym e ∙ (here_is ∙ r.0) in absurd (none-some (record x { uses = x.uses - 1 }) f))
      (lowered_cases x)

  borne_here : (text : List ℕ) → IsUnknown names' text → x.text ≡ text →
      count_by (λ (v : Vertex). is_in text_cmp text v.labels) vertices ≡ 0
  borne_here text unknown e = ⊎_elim
      (λ r. let P : List ℕ → Type 0 = λ t. count_by (λ (v : Vertex). is_in text_cmp t v.labels) vertices ≡ 0 in
      subst P e (let c = h.counted k.label x at in let d = count_here in omega (arith, c, d, r.1)))
      (λ r. absurd (unknown k.label (ap (option_map (λ (y : Name). y.text)) (here_is ∙ r.0) ∙ ap Some e)))
      (lowered_cases x)

  unborne_left : (text : List ℕ) → IsUnknown names' text → count_by (λ (v : Vertex). is_in text_cmp text v.labels) vertices ≡ 0
  unborne_left text unknown = ⊎_elim (λ e. borne_here text unknown e)
      (λ n. h.unborne text (λ m e. ⊎_elim
      (λ s. let Q : ℕ → Type 0 = λ z. text_at names z ≡ Some text in
      n (same_Some x.text text (sym (text_of_slot names k.label x at) ∙ subst Q s e)))
      (λ d. unknown m (ap (option_map (λ (y : Name). y.text)) (others m d) ∙ e)) (cases_eq m k.label)))
      (tell_text x.text text)

  -- names, vertices and links belong together after a link went
  pub named_left : IsNamed names' vertices links'
  named_left = record {
    counted = λ q y e. ⊎_elim
        (λ s. let P : ℕ → Type 0 = λ m. y.uses ≡ use_count vertices links' m y.text in
        subst P (sym s) (counted_here y (let Q : ℕ → Type 0 = λ m. slot names' m ≡ Some y in subst Q s e)))
        (λ n. counted_apart q y n e) (cases_eq q k.label);
    unused = λ q e. ⊎_elim
        (λ s. let P : ℕ → Type 0 = λ m. count_by (λ (l : Link). l.label == m) links' ≡ 0 in
        subst P (sym s) (unused_here (let Q : ℕ → Type 0 = λ m. slot names' m ≡ None in subst Q s e)))
        (λ n. sym (count_apart q n) ∙ h.unused q (sym (others q n) ∙ e)) (cases_eq q k.label);
    unborne = unborne_left;
    one_each = h.one_each;
  }

  text_here : (l : Link) → In links' l → l.label ≡ k.label → text_at names' k.label ≡ text_at names k.label
  text_here l i e = ⊎_elim
      (λ r. let z = unused_here (here_is ∙ r.0) in let c = count_in (λ (m : Link). m.label == k.label) links' l i (eq-eqb l.label k.label e) in absurd (omega arith))
      (λ r. ap (option_map (λ (y : Name). y.text)) (here_is ∙ r.0) ∙ sym (ap (option_map (λ (y : Name). y.text)) at))
      (lowered_cases x)

  text_left : (l : Link) → In links' l → text_at names' l.label ≡ text_at names l.label
  text_left l i = ⊎_elim
      (λ e. let P : ℕ → Type 0 = λ m. text_at names' m ≡ text_at names m in subst P (sym e) (text_here l i e))
      (λ n. ap (option_map (λ (y : Name). y.text)) (others l.label n)) (cases_eq l.label k.label)

  triple_left : (l : Link) → In links' l → triple_of names' l ≡ triple_of names l
  triple_left l i = ap (λ (o : Option (List ℕ)). record { src = l.src; label = unwrap_or o []; dst = l.dst }) (text_left l i)

  triples_left : (ls : List Link) → ((l : Link) → In ls l → In links' l) → map (triple_of names') ls ≡ map (triple_of names) ls
  triples_left [] f = refl
  triples_left (l ∷ ls) f = rw (triple_left l (f l (inl refl)), triples_left ls (λ m i. f m (inr i))) refl

  exact : (ls : List Link) → IsExactOn triple_cmp triple_total (map (triple_of names) ls)
  exact ls a b i j e = triple_exact a b e

  is_other : Triple → Bool
  is_other s = not (is_eq (triple_cmp s (triple_of names k)))

  stays : (l : Link) → In links' l → not (is_eq (triple_cmp (triple_of names l) (triple_of names k))) ≡ true
  stays l i = by (is_eq (triple_cmp (triple_of names l) (triple_of names k))) refl
    where
      by : (b : Bool) → is_eq (triple_cmp (triple_of names l) (triple_of names k)) ≡ b →
          not (is_eq (triple_cmp (triple_of names l) (triple_of names k))) ≡ true
      by true e =
          let s = triple_exact (triple_of names l) (triple_of names k) (is_equal (triple_cmp (triple_of names l) (triple_of names k)) e) in
          let u : l ≡ k = triple_tells names vertices links h tab l k (in_permutation links (k ∷ links') p l (inr i)) x at s in
          let n = none_in (link_eq k) links' gone l i in
          let v : link_eq k k ≡ false = (let P : Link → Type 0 = λ m. link_eq k m ≡ false in subst P u n) in
          let w = link_refl k in cc
      by false e = rw e refl

  goes : not (is_eq (triple_cmp (triple_of names k) (triple_of names k))) ≡ false
  goes = rw (self_equal triple_cmp triple_total (triple_of names k)) refl

  -- the triples without that of a link are those of the other links
  pub triples_without : filter (λ s. not (is_eq (triple_cmp s (triple_of names k)))) (sorted triple_cmp (map (triple_of names) links))
      ≡ sorted triple_cmp (map (triple_of names') links')
  triples_without =
      let test : Triple → Bool = λ s. not (is_eq (triple_cmp s (triple_of names k))) in
      ascending_same triple_cmp triple_total (filter (λ s. not (is_eq (triple_cmp s (triple_of names k)))) (sorted triple_cmp (map (triple_of names) links))) (sorted triple_cmp (map (triple_of names) links'))
      (filter-ascending triple_cmp triple_total (λ s. not (is_eq (triple_cmp s (triple_of names k)))) (sorted triple_cmp (map (triple_of names) links)) (sorted_ascending triple_cmp triple_total (map (triple_of names) links)))
      (sorted_ascending triple_cmp triple_total (map (triple_of names) links'))
      (λ z i.
      let f = filter_in (λ s. not (is_eq (triple_cmp s (triple_of names k)))) (sorted triple_cmp (map (triple_of names) links)) z i in
      let m = mapped_in (triple_of names) links z (sorted_in triple_cmp triple_total (map (triple_of names) links) z f.0) in
      in_sorted triple_cmp triple_total (map (triple_of names) links') (exact links') z
      (⊎_elim
      (λ (e : m.0 ≡ k).
      let r : z ≡ triple_of names k = m.2 ∙ ap (triple_of names) e in
      let P : Triple → Type 0 = λ s. not (is_eq (triple_cmp s (triple_of names k))) ≡ true in
      let u : not (is_eq (triple_cmp (triple_of names k) (triple_of names k))) ≡ true = subst P r f.1 in
      let w = goes in absurd (true≢false (sym u ∙ w)))
      (λ j. let P : Triple → Type 0 = λ s. In (map (triple_of names) links') s in subst P (sym m.2) (in_mapped (triple_of names) links' m.0 j))
      (in_permutation_back links (k ∷ links') p m.0 m.1)))
      (λ z i.
      let m = mapped_in (triple_of names) links' z (sorted_in triple_cmp triple_total (map (triple_of names) links') z i) in
      let l = in_permutation links (k ∷ links') p m.0 (inr m.1) in
      let P : Triple → Type 0 = λ s. In (filter (λ s. not (is_eq (triple_cmp s (triple_of names k)))) (sorted triple_cmp (map (triple_of names) links))) s in
      subst P (sym m.2) (in_filter (λ s. not (is_eq (triple_cmp s (triple_of names k)))) (sorted triple_cmp (map (triple_of names) links)) (triple_of names m.0)
      (in_sorted triple_cmp triple_total (map (triple_of names) links) (exact links) (triple_of names m.0) (in_mapped (triple_of names) links m.0 l)) (stays m.0 m.1)))
      ∙ sym (ap (sorted triple_cmp) (triples_left links' (λ l i. i)))

-- ---- the answers of the definition, case by case

-- an end that is no vertex is refused first
pub drop_edge_apart : (g : Graph) (t : Triple) → has_both_ends g t ≡ false → drop_edge g t ≡ Err code.NoVertex
drop_edge_apart g t e = rw e refl

-- then a triple that does not stand
pub drop_edge_absent : (g : Graph) (t : Triple) → has_both_ends g t ≡ true → has_triple g t ≡ false → drop_edge g t ≡ Err code.Absent
drop_edge_absent g t e f = rw (e, f) refl

-- any other is taken away
pub drop_edge_done : (g : Graph) (t : Triple) → has_both_ends g t ≡ true → has_triple g t ≡ true → drop_edge g t ≡ Ok (without_triple g t)
drop_edge_done g t e f = rw (e, f) refl

and_left_false : (b c : Bool) → b ≡ false → b && c ≡ false
and_left_false b c e = rw e refl

and_right_false : (b c : Bool) → c ≡ false → b && c ≡ false
and_right_false true c e = e
and_right_false false c e = refl

module _ {R : Type 0} (names : List (Option Name)) (es : List (ℕ × Node R)) (links : List Link) (t : Triple) where
  -- a source without a node is no vertex
  pub no_src : is_some (lookup (nat_eq t.src) es) ≡ false → has_both_ends (kept_graph names (map vertex_of es) links) t ≡ false
  no_src e = and_left_false _ _ (has_vertex_of names es links t.src ∙ e)

  -- a target without a node is no vertex
  pub no_dst : is_some (lookup (nat_eq t.dst) es) ≡ false → has_both_ends (kept_graph names (map vertex_of es) links) t ≡ false
  no_dst e = and_right_false (has_vertex (kept_graph names (map vertex_of es) links) t.src) _ (has_vertex_of names es links t.dst ∙ e)

  -- ends with nodes are vertices
  pub both_ends : is_some (lookup (nat_eq t.src) es) ≡ true → is_some (lookup (nat_eq t.dst) es) ≡ true →
      has_both_ends (kept_graph names (map vertex_of es) links) t ≡ true
  both_ends e f =
      let a : has_vertex (kept_graph names (map vertex_of es) links) t.src ≡ true = has_vertex_of names es links t.src ∙ e in
      let b : has_vertex (kept_graph names (map vertex_of es) links) t.dst ≡ true = has_vertex_of names es links t.dst ∙ f in
      and_from _ _ a b

-- graphs of the same vertices and triples are the same
pub same_graph : (a c : List Vertex) (b d : List Triple) → a ≡ c → b ≡ d →
    ◌≡◌ {A = Graph} (record { vertices = a; triples = b }) (record { vertices = c; triples = d })
same_graph a c b d p q = cc

module _ (names names' : List (Option Name)) (vertices vertices' : List Vertex) (links links' : List Link) (k : Link) (text : List ℕ)
    (h : IsNamed names vertices links) (tab : IsTable names) (found : text_at names k.label ≡ Some text) (p : IsPermutation links (k ∷ links'))
    (gone : list_any (link_eq k) links' ≡ false) (here : slot names' k.label ≡ lowered (slot names k.label))
    (others : (q : ℕ) → (q ≡ k.label → ⊥) → slot names' q ≡ slot names q) (same : vertices' ≡ vertices) where
  -- the same, where the vertices were written another way
  pub removed_named : IsNamed names' vertices' links'
  removed_named = let x = known_slot names k.label text found in
      let P : List Vertex → Type 0 = λ vs. IsNamed names' vs links' in
      subst P (sym same) (named_left names names' vertices links links' k x.0 h tab x.1 p gone here others)

  -- a link less is the graph without its triple
  pub removed_graph : without_triple (kept_graph names vertices links) (record { src = k.src; label = text; dst = k.dst })
      ≡ kept_graph names' vertices' links'
  removed_graph = let x = known_slot names k.label text found in
      let P : Triple → Type 0 = λ t. without_triple (kept_graph names vertices links) t ≡ kept_graph names' vertices' links' in
      subst P (triple_is names k text found)
      (same_graph (sorted vertex_cmp vertices) (sorted vertex_cmp vertices') (filter (λ s. not (is_eq (triple_cmp s (triple_of names k)))) (sorted triple_cmp (map (triple_of names) links))) (sorted triple_cmp (map (triple_of names') links'))
      (ap (sorted vertex_cmp) (sym same)) (triples_without names names' vertices links links' k x.0 h tab x.1 p gone here others))

-- ---- a triple more

uses_here : (names : List (Option Name)) (vertices : List Vertex) (links : List Link) (n : ℕ) (text : List ℕ) →
    IsNamed names vertices links →
    MatchOption (slot names n) (IsUnknown names text) (λ x. x.text ≡ text) → uses_of (slot names n) ≡ use_count vertices links n text
uses_here names vertices links n text h was = by (slot names n) refl was
  where
    by : (o : Option Name) → slot names n ≡ o → MatchOption o (IsUnknown names text) (λ x. x.text ≡ text) →
        uses_of (slot names n) ≡ use_count vertices links n text
    by None e unknown = let a : uses_of (slot names n) ≡ 0 = ap uses_of e in let b = h.unused n e in let c = h.unborne text unknown in omega (arith, a, b, c)
    by (Some x) e same = let a : uses_of (slot names n) ≡ x.uses = ap uses_of e in let P : List ℕ → Type 0 = λ t. x.uses ≡ use_count vertices links n t in a ∙ subst P same (h.counted n x e)

module _ (names names' : List (Option Name)) (vertices : List Vertex) (links links' : List Link) (k : Link) (text : List ℕ)
    (h : IsNamed names vertices links) (tab : IsTable names) (was : MatchOption (slot names k.label) (IsUnknown names text) (λ x. x.text ≡ text))
    (here : slot names' k.label ≡ Some (record { text = text; uses = uses_of (slot names k.label) + 1 }))
    (others : (q : ℕ) → (q ≡ k.label → ⊥) → slot names' q ≡ slot names q) where
  more_here : IsPermutation (k ∷ links) links' → count_by (λ (l : Link). l.label == k.label) links'
      ≡ 1 + count_by (λ (l : Link). l.label == k.label) links
  more_here p = let e = count_permutation (λ (l : Link). l.label == k.label) (k ∷ links) links' p ∙ count_cons (λ (l : Link). l.label == k.label) k links in rw (eq-eqb k.label k.label refl) at e

  more_apart : IsPermutation (k ∷ links) links' → (q : ℕ) → (q ≡ k.label → ⊥) →
      count_by (λ (l : Link). l.label == q) links' ≡ count_by (λ (l : Link). l.label == q) links
  more_apart p q n =
      let e = count_permutation (λ (l : Link). l.label == q) (k ∷ links) links' p ∙ count_cons (λ (l : Link). l.label == q) k links in
      let f : count_by (λ (l : Link). l.label == q) links' ≡ 0 + count_by (λ (l : Link). l.label == q) links = rw (ne_eqb k.label q (λ s. n (sym s))) at e in omega arith

  added_here : IsPermutation (k ∷ links) links' → (y : Name) → slot names' k.label ≡ Some y →
      y.uses ≡ use_count vertices links' k.label y.text
  added_here p y e =
      let f : record { text = text; uses = uses_of (slot names k.label) + 1 } ≡ y = same_Some (record { text = text; uses = uses_of (slot names k.label) + 1 }) y (sym here ∙ e) in
      let P : Name → Type 0 = λ z. z.uses ≡ use_count vertices links' k.label z.text in
      let c = uses_here names vertices links k.label text h was in
      let d = more_here p in
      subst P f (omega (arith, c, d))

  -- names, vertices and links belong together after a link came
  pub named_added : IsPermutation (k ∷ links) links' → IsNamed names' vertices links'
  named_added p = record {
    counted = λ q y e. ⊎_elim
        (λ s. let P : ℕ → Type 0 = λ m. y.uses ≡ use_count vertices links' m y.text in
        subst P (sym s) (added_here p y (let Q : ℕ → Type 0 = λ m. slot names' m ≡ Some y in subst Q s e)))
        (λ n. h.counted q y (sym (others q n) ∙ e) ∙ ap (λ (m : ℕ). m + count_by (λ (v : Vertex). is_in text_cmp y.text v.labels) vertices) (sym (more_apart p q n))) (cases_eq q k.label);
    unused = λ q e. ⊎_elim
        (λ s. let Q : ℕ → Type 0 = λ m. slot names' m ≡ None in absurd (none-some (record { text = text; uses = uses_of (slot names k.label) + 1 }) (sym (subst Q s e) ∙ here)))
        (λ n. more_apart p q n ∙ h.unused q (sym (others q n) ∙ e)) (cases_eq q k.label);
    unborne = λ t unknown. h.unborne t (λ m e. unknown m (text_more m t e));
    one_each = h.one_each;
  }
    where
      text_more : (m : ℕ) (t : List ℕ) → text_at names m ≡ Some t → text_at names' m ≡ Some t
      text_more m t e = ⊎_elim
          (λ s. let Q : ℕ → Type 0 = λ z. text_at names z ≡ Some t in let R : ℕ → Type 0 = λ z. text_at names' z ≡ Some t in
          let x = known_slot names k.label t (subst Q s e) in
          let P : Option Name → Type 0 = λ o. MatchOption o (IsUnknown names text) (λ z. z.text ≡ text) in
          let same : x.0.text ≡ text = subst P x.1 was in
          subst R (sym s) (ap (option_map (λ (y : Name). y.text)) here ∙ ap Some (sym same ∙ x.2)))
          (λ d. ap (option_map (λ (y : Name). y.text)) (others m d) ∙ e) (cases_eq m k.label)

  text_stays : (l : Link) → In links l → text_at names' l.label ≡ text_at names l.label
  text_stays l i = ⊎_elim
      (λ e.
      let w = known_label names vertices links h l i in
      let Q : ℕ → Type 0 = λ z. slot names z ≡ Some w.0 in
      let at : slot names k.label ≡ Some w.0 = subst Q e w.1 in
      let P : Option Name → Type 0 = λ o. MatchOption o (IsUnknown names text) (λ z. z.text ≡ text) in
      let same : w.0.text ≡ text = subst P at was in
      let R : ℕ → Type 0 = λ z. text_at names' z ≡ text_at names z in
      subst R (sym e) (ap (option_map (λ (y : Name). y.text)) here ∙ (ap Some (sym same) ∙ sym (ap (option_map (λ (y : Name). y.text)) at))))
      (λ d. ap (option_map (λ (y : Name). y.text)) (others l.label d)) (cases_eq l.label k.label)

  triples_stay : (ls : List Link) → ((l : Link) → In ls l → In links l) → map (triple_of names') ls ≡ map (triple_of names) ls
  triples_stay [] f = refl
  triples_stay (l ∷ ls) f =
      let t : triple_of names' l ≡ triple_of names l = ap (λ (o : Option (List ℕ)). record { src = l.src; label = unwrap_or o []; dst = l.dst }) (text_stays l (f l (inl refl))) in
      rw (t, triples_stay ls (λ m i. f m (inr i))) refl

  -- a link more is the graph with its triple
  pub added_graph : IsPermutation (k ∷ links) links' → (vertices' : List Vertex) → vertices' ≡ vertices →
      with_triple (kept_graph names vertices links) (record { src = k.src; label = text; dst = k.dst }) ≡ kept_graph names' vertices' links'
  added_graph p vertices' same =
      let new : Triple = record { src = k.src; label = text; dst = k.dst } in
      let one : triple_of names' k ≡ record { src = k.src; label = text; dst = k.dst } = triple_is names' k text (ap (option_map (λ (y : Name). y.text)) here) in
      let all : map (triple_of names') (k ∷ links) ≡ record { src = k.src; label = text; dst = k.dst } ∷ map (triple_of names) links = rw (one, triples_stay links (λ l i. i)) refl in
      same_graph (sorted vertex_cmp vertices) (sorted vertex_cmp vertices') (put triple_cmp new (sorted triple_cmp (map (triple_of names) links))) (sorted triple_cmp (map (triple_of names') links'))
      (ap (sorted vertex_cmp) (sym same))
      (sym (ap (sorted triple_cmp) all)
      ∙ sorted_same triple_cmp triple_total (map (triple_of names') (k ∷ links)) (map (triple_of names') links') (λ a b i j e. triple_exact a b e)
      (IsPermutation-map (triple_of names') (k ∷ links) links' p))

-- ---- the same graph

lowered_back : (o : Option Name) (text : List ℕ) → ((x : Name) → o ≡ Some x → (0 < x.uses) × (x.text ≡ text)) →
    lowered (Some (record { text = text; uses = uses_of o + 1 })) ≡ o
lowered_back None text h = refl
lowered_back (Some x) text h =
    let u = h x refl in
    let big : nat_le (x.uses + 1) 1 ≡ false = lt-leb (x.uses + 1) 1 (let p = u.0 in omega arith) in
    rw big (ap Some (same_name text x.text (x.uses + 1 - 1) x.uses (sym u.1) (omega arith)))

-- a name that was used once more and then once less stands as before
pub back_same : (names names' names'' : List (Option Name)) (n : ℕ) (text : List ℕ) → IsTable names →
    MatchOption (slot names n) (IsUnknown names text) (λ x. x.text ≡ text) →
    slot names' n ≡ Some (record { text = text; uses = uses_of (slot names n) + 1 }) → ((q : ℕ) → (q ≡ n → ⊥) → slot names' q ≡ slot names q) →
    slot names'' n ≡ lowered (slot names' n) → ((q : ℕ) → (q ≡ n → ⊥) → slot names'' q ≡ slot names' q) → (q : ℕ) → slot names'' q ≡ slot names q
back_same names names' names'' n text tab was here others low rest q = ⊎_elim
    (λ e. let P : ℕ → Type 0 = λ m. slot names'' m ≡ slot names m in
    subst P (sym e) (low ∙ (ap lowered here ∙ lowered_back (slot names n) text
    (λ x f. (tab.used n x f, (let Q : Option Name → Type 0 = λ o. MatchOption o (IsUnknown names text) (λ z. z.text ≡ text) in subst Q f was))))))
    (λ d. rest q d ∙ others q d) (cases_eq q n)

module _ (names names' : List (Option Name)) (vertices vertices' : List Vertex) (links links' : List Link)
    (slots : (q : ℕ) → slot names' q ≡ slot names q)
    (same : vertices' ≡ vertices) (p : IsPermutation links links') where
  -- names that stand for what they stood for keep belonging to the vertices and links
  pub same_named : IsNamed names vertices links → IsNamed names' vertices' links'
  same_named h =
      let P : List Vertex → Type 0 = λ vs. IsNamed names' vs links' in
      subst P (sym same) (record {
        counted = λ n x e. h.counted n x (sym (slots n) ∙ e) ∙ ap (λ (m : ℕ). m + count_by (λ (v : Vertex). is_in text_cmp x.text v.labels) vertices) (sym (count_permutation (λ (l : Link). l.label == n) links links' p));
        unused = λ n e. count_permutation (λ (l : Link). l.label == n) links links' p ∙ h.unused n (sym (slots n) ∙ e);
        unborne = λ t unknown. h.unborne t (λ m e. unknown m (ap (option_map (λ (y : Name). y.text)) (slots m) ∙ e));
        one_each = h.one_each;
      })

  same_triples : (ls : List Link) → map (triple_of names') ls ≡ map (triple_of names) ls
  same_triples [] = refl
  same_triples (l ∷ ls) =
      let t : triple_of names' l ≡ triple_of names l = ap (λ (o : Option Name). record { src = l.src; label = unwrap_or (option_map (λ (y : Name). y.text) o) []; dst = l.dst }) (slots l.label) in
      rw (t, same_triples ls) refl

  -- and mean the same graph with them
  pub same_graph_of : kept_graph names' vertices' links' ≡ kept_graph names vertices links
  same_graph_of = same_graph (sorted vertex_cmp vertices') (sorted vertex_cmp vertices) (sorted triple_cmp (map (triple_of names') links')) (sorted triple_cmp (map (triple_of names) links))
      (ap (sorted vertex_cmp) same)
      (ap (sorted triple_cmp) (same_triples links')
      ∙ sym (sorted_same triple_cmp triple_total (map (triple_of names) links) (map (triple_of names) links') (λ a b i j e. triple_exact a b e) (IsPermutation-map (triple_of names) links links' p)))

-- ---- an entry of a row has a name

-- the label of an entry of an out row is a name
pub entry_named : (names : List (Option Name)) (nodes : List (ℕ × Node Row)) (places : List (Link × Places ℕ)) → ArePlaced nodes places →
    IsNamed names (map vertex_of nodes) (keys_of places) →
    (v i : ℕ) (t : RowEntry) → slice_get (outs nodes v) i ≡ Some t → IsSome (slot names t.label)
entry_named names nodes places h n v i t e =
    let k : Link = record { src = v; label = t.label; dst = t.other } in
    let place = h.outs.there (v, i) k (ap (option_map (out_link v)) e) in
    let some = IsSome-mapped (λ (p : Places ℕ). (k.src, p.out_at)) (lookup (link_eq k) places) (v, i) place in
    let l = in_any (link_eq k) (keys_of places) (sym (is_some-lookup (link_eq k) places) ∙ some) in
    let x = known_label names (map vertex_of nodes) (keys_of places) n l.0 l.1 in
    let P : Link → Type 0 = λ z. IsSome (slot names z.label) in
    subst P (sym (link_same k l.0 l.2)) (rw x.1 refl)
