-- What a read of a store finds.
use Rattle.std.proofs.Common.{◌≡◌, ℕ, ◌+◌, ◌≤◌, ◌<◌, Bool, true, false, ◌&&◌, Option, Some, List, [], ◌∷◌, map, length, refl, sym, ap, ◌∙◌}
use Rattle.std.proofs.Common.{subst, inl, inr, arith}
use Rattle.std.specs.Prelude.{◌==◌, nat_eq, IsPermutation}
use Rattle.std.specs.List.{find, list_any, AllByRecursion, IsDistinct}
use Rattle.std.specs.Map.{lookup, keys_of}
use Rattle.std.specs.Cmp.{nat_cmp_total}
use Rattle.std.specs.declared.cmp.Ordering.{Ordering}
use Rattle.std.specs.declared.cmp.Ordering.TheVariants.{Less, Equal, Greater}
use Rattle.std.specs.Ordering.{nat_cmp, is_lt}
use Rattle.std.proofs.lemmas.Bool.{and_parts, eqb-true, eq-eqb}
use Rattle.std.proofs.lemmas.Option.{none-some, same_Some}
use Rattle.std.proofs.lemmas.List.{length-map}
use Rattle.std.proofs.lemmas.List.Sorted.{length_permutation}
use Rattle.std.proofs.lemmas.Map.Entries.{length-keys_of}
use Rattle.std.proofs.lemmas.Map.Lookups.{exact_unsigned}
use Rattle.flux_model.specs.Ordered.{is_ascending, put}
use Rattle.flux_model.specs.Labels.{is_within}
use Rattle.flux_model.specs.Graph.{ids, vertex_cmp}
use Rattle.flux_model.specs.Pattern.{fits_labels}
use Rattle.flux_model.specs.declared.graph.Vertex.{Vertex}
use Rattle.label_graph.specs.declared.link.Link.{Link}
use Rattle.label_graph.specs.declared.link.Node.{Node}
use Rattle.label_graph.specs.declared.names.Name.{Name}
use Rattle.label_graph.specs.Places.{vertex_of}
use Rattle.graph_traits.specs.Rows.{vertex_of_id}
use Rattle.flux_model.specs.Members.{In, AreOnce}
use Rattle.flux_model.proofs.MemberLemmas.{in_any, any_in, mapped_in, in_mapped, once_permutation}
use Rattle.flux_laws.proofs.SameMembersLemmas.{ascending_once}
use Rattle.label_graph.specs.Sorted.{sorted}
use Rattle.label_graph.specs.Store.{kept_graph, IsNamed}
use Rattle.label_graph.proofs.SortedLemmas.{in_sorted, sorted_in, sorted_ascending}
use Rattle.label_graph.proofs.StoreLemmas.{vertex_total}

-- ---- the one element that passes a test

find_one : {X : Type 0} (p : X → Bool) (xs : List X) (x : X) → In xs x → p x ≡ true → ((y : X) → In xs y → p y ≡ true → y ≡ x) →
    find p xs ≡ Some x
find_one p [] x i h one = absurd i
find_one {X} p (y ∷ ys) x i h one = by (p y) refl i (λ j. find_one p ys x j h (λ z k. one z (inr k)))
  where
    by : (b : Bool) → p y ≡ b → In (y ∷ ys) x → (In ys x → find p ys ≡ Some x) → find p (y ∷ ys) ≡ Some x
    by true e j ih = rw e (ap Some (one y (inl refl) e))
    by false e (inl q) ih = let r : p x ≡ false = rw q e in let k = h in cc
    by false e (inr j) ih = rw e (ih j)

any_one : {X : Type 0} (p q : X → Bool) (xs : List X) (x : X) → In xs x → p x ≡ true → ((y : X) → In xs y → p y ≡ true → y ≡ x) →
    list_any (λ y. p y && q y) xs ≡ q x
any_one {X} p q xs x i h one = by (q x) refl
  where
    none : q x ≡ false → (b : Bool) → list_any (λ y. p y && q y) xs ≡ b → list_any (λ y. p y && q y) xs ≡ false
    none e true f =
        let r = in_any (λ y. p y && q y) xs f in
        let a = and_parts (p r.0) (q r.0) r.2 in
        let P : X → Type 0 = λ z. q z ≡ true in
        let t : q x ≡ true = subst P (one r.0 r.1 a.0) a.1 in cc
    none e false f = f

    by : (b : Bool) → q x ≡ b → list_any (λ y. p y && q y) xs ≡ b
    by true e = any_in (λ y. p y && q y) xs x i (rw (h, e) refl)
    by false e = none e (list_any (λ y. p y && q y) xs) refl

-- ---- a vertex that stands

vertex_is : (a x : ℕ) (b y : List (List ℕ)) → a ≡ x → b ≡ y →
    ◌≡◌ {A = Vertex} (record { id = a; labels = b }) (record { id = x; labels = y })
vertex_is a x b y p q = cc

node_in : {R : Type 0} (es : List (ℕ × Node R)) (v : ℕ) (p : Node R) → lookup (nat_eq v) es ≡ Some p →
    In (map vertex_of es) (record { id = v; labels = p.labels })
node_in {R} [] v p e = absurd (none-some p e)
node_in {R} (x ∷ xs) v p e = by (nat_eq v x.0) refl e (node_in xs v p)
  where
    by : (b : Bool) → nat_eq v x.0 ≡ b → lookup (nat_eq v) (x ∷ xs) ≡ Some p →
        (lookup (nat_eq v) xs ≡ Some p → In (map vertex_of xs) (record { id = v; labels = p.labels })) →
        In (map vertex_of (x ∷ xs)) (record { id = v; labels = p.labels })
    by true q l ih = let s = same_Some x.1 p (rw q at l) in inl (vertex_is v x.0 p.labels x.1.labels (eqb-true v x.0 q) (ap (λ (n : Node R). n.labels) (sym s)))
    by false q l ih = inr (ih (rw q at l))

module _ {R : Type 0} (names : List (Option Name)) (nodes : List (ℕ × Node R)) (links : List Link) (n : IsNamed names (map vertex_of nodes) links) where
  stands : (v : ℕ) (p : Node R) → lookup (nat_eq v) nodes ≡ Some p →
      In (sorted vertex_cmp (map vertex_of nodes)) (record { id = v; labels = p.labels })
  stands v p e = in_sorted vertex_cmp vertex_total (map vertex_of nodes) (λ a b i j q. n.one_each a b i j (exact_unsigned a.id b.id q)) (record { id = v; labels = p.labels }) (node_in nodes v p e)

  one : (v : ℕ) (p : Node R) → lookup (nat_eq v) nodes ≡ Some p → (w : Vertex) → In (sorted vertex_cmp (map vertex_of nodes)) w →
      (w.id == v) ≡ true → w ≡ record { id = v; labels = p.labels }
  one v p e w i q = n.one_each w (record { id = v; labels = p.labels }) (sorted_in vertex_cmp vertex_total (map vertex_of nodes) w i) (node_in nodes v p e) (eqb-true w.id v q)

  -- the labels of a node are those of the vertex
  pub labels_found : (v : ℕ) (p : Node R) → lookup (nat_eq v) nodes ≡ Some p → vertex_of_id (kept_graph names (map vertex_of nodes) links) v ≡ Some (record { id = v; labels = p.labels })
  labels_found v p e = find_one (λ (w : Vertex). w.id == v) (sorted vertex_cmp (map vertex_of nodes)) (record { id = v; labels = p.labels }) (stands v p e) (eq-eqb v v refl) (one v p e)

  -- a vertex has each of the labels where its node has
  pub fits_found : (v : ℕ) (p : Node R) (labels : List (List ℕ)) → lookup (nat_eq v) nodes ≡ Some p →
      fits_labels (kept_graph names (map vertex_of nodes) links) labels v ≡ is_within labels p.labels
  fits_found v p labels e = any_one (λ (w : Vertex). w.id == v) (λ (w : Vertex). is_within labels w.labels) (sorted vertex_cmp (map vertex_of nodes)) (record { id = v; labels = p.labels }) (stands v p e) (eq-eqb v v refl) (one v p e)

-- ---- the vertices, each once

ids_ascending : (vs : List Vertex) → is_ascending vertex_cmp vs ≡ true → is_ascending nat_cmp (map (λ (v : Vertex). v.id) vs) ≡ true
ids_ascending [] a = refl
ids_ascending (v ∷ []) a = refl
ids_ascending (v ∷ w ∷ vs) a =
    let p = and_parts (is_lt (vertex_cmp v w)) (is_ascending vertex_cmp (w ∷ vs)) a in rw (p.0, ids_ascending (w ∷ vs) p.1) refl

keys_once : (ks : List ℕ) → IsDistinct nat_eq ks → AreOnce ks
unfolding IsDistinct
keys_once [] d = tt
keys_once (k ∷ ks) d = (apart ks d.0, keys_once ks d.1)
  where
    apart : (ls : List ℕ) → AllByRecursion (λ l. nat_eq k l ≡ false) ls → In ls k → ⊥
    apart [] a i = i
    apart (l ∷ ls) a (inl e) = let q : nat_eq k l ≡ true = eq-eqb k l e in let r = a.0 in cc
    apart (l ∷ ls) a (inr i) = apart ls a.1 i

key_vertex : {R : Type 0} (es : List (ℕ × Node R)) (k : ℕ) → In (keys_of es) k → (v : Vertex) × In (map vertex_of es) v × (k ≡ v.id)
key_vertex {R} es k i = let e = mapped_in (λ (e : ℕ × Node R). e.0) es k i in (vertex_of e.0, in_mapped vertex_of es e.0 e.1, e.2)

vertex_key : {R : Type 0} (es : List (ℕ × Node R)) (v : Vertex) → In (map vertex_of es) v → In (keys_of es) v.id
vertex_key {R} es v i =
    let e = mapped_in vertex_of es v i in
    let P : Vertex → Type 0 = λ w. In (keys_of es) w.id in
    subst P (sym e.2) (in_mapped (λ (e : ℕ × Node R). e.0) es e.0 e.1)

module _ {R : Type 0} (names : List (Option Name)) (nodes : List (ℕ × Node R)) (links : List Link) (n : IsNamed names (map vertex_of nodes) links)
    (distinct : IsDistinct nat_eq (keys_of nodes)) where
  -- the ids of the nodes are those of the vertices
  pub ids_listed : IsPermutation (keys_of nodes) (ids (kept_graph names (map vertex_of nodes) links))
  ids_listed = once_permutation (keys_of nodes) (map (λ (v : Vertex). v.id) (sorted vertex_cmp (map vertex_of nodes)))
      (keys_once (keys_of nodes) distinct)
      (ascending_once nat_cmp nat_cmp_total (map (λ (v : Vertex). v.id) (sorted vertex_cmp (map vertex_of nodes)))
      (ids_ascending (sorted vertex_cmp (map vertex_of nodes)) (sorted_ascending vertex_cmp vertex_total (map vertex_of nodes))))
      (λ k i.
      let v = key_vertex nodes k i in
      let P : ℕ → Type 0 = λ m. In (map (λ (v : Vertex). v.id) (sorted vertex_cmp (map vertex_of nodes))) m in
      subst P (sym v.2) (in_mapped (λ (v : Vertex). v.id) (sorted vertex_cmp (map vertex_of nodes)) v.0
      (in_sorted vertex_cmp vertex_total (map vertex_of nodes) (λ a b i j q. n.one_each a b i j (exact_unsigned a.id b.id q)) v.0 v.1)))
      (λ k i.
      let v = mapped_in (λ (v : Vertex). v.id) (sorted vertex_cmp (map vertex_of nodes)) k i in
      let P : ℕ → Type 0 = λ m. In (keys_of nodes) m in
      subst P (sym v.2) (vertex_key nodes v.0 (sorted_in vertex_cmp vertex_total (map vertex_of nodes) v.0 v.1)))

  -- there are as many nodes as vertices
  pub vertices_counted : length nodes ≡ length (kept_graph names (map vertex_of nodes) links).vertices
  vertices_counted =
      sym (length-keys_of nodes)
      ∙ (sym (length_permutation (keys_of nodes) (ids (kept_graph names (map vertex_of nodes) links)) ids_listed)
      ∙ length-map (sorted vertex_cmp (map vertex_of nodes)) (λ (v : Vertex). v.id))

-- ---- a place among the vertices

length_put : {X : Type 0} (R : X → X → Ordering) (x : X) (ys : List X) → length (put R x ys) ≤ length ys + 1
length_put R x [] = omega arith
length_put R x (y ∷ ys) = by (R x y) refl (length_put R x ys)
  where
    by : (r : Ordering) → R x y ≡ r → length (put R x ys) ≤ length ys + 1 → length (put R x (y ∷ ys)) ≤ length (y ∷ ys) + 1
    by Less e ih = rw e (omega arith)
    by Equal e ih = rw e (omega arith)
    by Greater e ih = rw e (omega arith)

length_sorted : {X : Type 0} (R : X → X → Ordering) (xs : List X) → length (sorted R xs) ≤ length xs
length_sorted R [] = omega arith
length_sorted R (x ∷ xs) = let p = length_put R x (sorted R xs) in let l = length_sorted R xs in omega arith

-- a place among the vertices is one among the nodes
pub within_nodes : {R : Type 0} (names : List (Option Name)) (nodes : List (ℕ × Node R)) (links : List Link) (i : ℕ) →
    i < length (kept_graph names (map vertex_of nodes) links).vertices → i < length nodes
within_nodes names nodes links i lt =
    let l = length_sorted vertex_cmp (map vertex_of nodes) in
    let m = length-map nodes vertex_of in omega arith
