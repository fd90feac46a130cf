-- Sums over the vertices of a graph.
use Rattle.std.proofs.Common.{◌≡◌, ℕ, ◌+◌, ◌<◌, ◌≤◌, Bool, true, false, cond, ◌&&◌, ◌||◌, ◌==◌, List, [], ◌∷◌, refl, sym, ap, ◌∙◌, subst, arith}
use Rattle.std.specs.Prelude.{map, count_by, nat_eq}
use Rattle.std.specs.List.{sum_by, list_any, AllByRecursion, IsDistinct}
use Rattle.std.specs.Cmp.{nat_eq_equiv}
use Rattle.std.specs.declared.cmp.Ordering.{Ordering}
use Rattle.std.specs.declared.cmp.Ordering.TheVariants.{Less, Equal, Greater}
use Rattle.std.specs.Ordering.{nat_cmp, is_lt}
use Rattle.std.proofs.lemmas.Bool.{and_parts, eqb-true, ne_eqb}
use Rattle.std.proofs.lemmas.List.Sums.{sum_by-cons}
use Rattle.std.proofs.lemmas.Cmp.{ranked}
use Rattle.flux_model.specs.Graph.{Graph, IsGraph, ids, has_vertex, vertex_cmp}
use Rattle.flux_model.specs.Ordered.{is_ascending}
use Rattle.flux_model.specs.States.{Joint}
use Rattle.flux_model.specs.declared.graph.Vertex.{Vertex}

-- ---- sums

-- of numbers that are alike
pub sum_alike : {X : Type 0} (f h : X → ℕ) (xs : List X) → ((x : X) → f x ≡ h x) → sum_by f xs ≡ sum_by h xs
sum_alike f h xs e = λ i. sum_by (λ x. e x i) xs

-- of numbers that are added
pub sum_both : {X : Type 0} (f h : X → ℕ) (xs : List X) → sum_by (λ x. f x + h x) xs ≡ sum_by f xs + sum_by h xs
sum_both f h [] = omega arith
sum_both f h (x ∷ xs) =
    omega (arith, sum_by-cons (λ y. f y + h y) x xs, sum_by-cons f x xs, sum_by-cons h x xs, sum_both f h xs)

-- of nothing but 0
pub sum_nothing : {X : Type 0} (f : X → ℕ) (xs : List X) → ((x : X) → f x ≡ 0) → sum_by f xs ≡ 0
sum_nothing f [] none = refl
sum_nothing f (x ∷ xs) none = omega (arith, sum_by-cons f x xs, none x, sum_nothing f xs none)

-- ---- one of distinct numbers

-- a number that is not in the list
nowhere : (x n : ℕ) (vs : List ℕ) → AllByRecursion (λ y. nat_eq x y ≡ false) vs → sum_by (λ v. cond (x == v) n 0) vs ≡ 0
nowhere x n [] h = refl
nowhere x n (v ∷ vs) h =
    let here : cond (x == v) n 0 ≡ 0 = ap (λ b. cond b n 0) h.0 in
    omega (arith, sum_by-cons (λ v. cond (x == v) n 0) v vs, here, nowhere x n vs h.1)

-- a number that is in the list stands there once
pub once : (x n : ℕ) (vs : List ℕ) → IsDistinct nat_eq vs → list_any (nat_eq x) vs ≡ true → sum_by (λ v. cond (x == v) n 0) vs ≡ n
unfolding IsDistinct
once x n [] distinct m = cc
once x n (v ∷ vs) distinct m = by (x == v) refl (once x n vs distinct.1)
  where
    by : (b : Bool) → (x == v) ≡ b → (list_any (nat_eq x) vs ≡ true → sum_by (λ w. cond (x == w) n 0) vs ≡ n) → sum_by (λ w. cond (x == w) n 0) (v ∷ vs) ≡ n
    by true e later =
        let here : cond (x == v) n 0 ≡ n = ap (λ b. cond b n 0) e in
        let others : AllByRecursion (λ y. nat_eq x y ≡ false) vs = subst (λ z. AllByRecursion (λ y. nat_eq z y ≡ false) vs) (sym (eqb-true x v e)) distinct.0 in
        omega (arith, sum_by-cons (λ w. cond (x == w) n 0) v vs, here, nowhere x n vs others)
    by false e later =
        let here : cond (x == v) n 0 ≡ 0 = ap (λ b. cond b n 0) e in
        omega (arith, sum_by-cons (λ w. cond (x == w) n 0) v vs, here, later (ap (λ b. b || list_any (nat_eq x) vs) (sym e) ∙ m))

-- and any number stands there at most once
pub once_at_most : (x n : ℕ) (vs : List ℕ) → IsDistinct nat_eq vs → sum_by (λ v. cond (x == v) n 0) vs ≤ n
unfolding IsDistinct
once_at_most x n [] distinct = omega arith
once_at_most x n (v ∷ vs) distinct = by (x == v) refl (once_at_most x n vs distinct.1)
  where
    by : (b : Bool) → (x == v) ≡ b → sum_by (λ w. cond (x == w) n 0) vs ≤ n → sum_by (λ w. cond (x == w) n 0) (v ∷ vs) ≤ n
    by true e later =
        let here : cond (x == v) n 0 ≡ n = ap (λ b. cond b n 0) e in
        let others : AllByRecursion (λ y. nat_eq x y ≡ false) vs = subst (λ z. AllByRecursion (λ y. nat_eq z y ≡ false) vs) (sym (eqb-true x v e)) distinct.0 in
        omega (arith, sum_by-cons (λ w. cond (x == w) n 0) v vs, here, nowhere x n vs others)
    by false e later =
        let here : cond (x == v) n 0 ≡ 0 = ap (λ b. cond b n 0) e in
        omega (arith, sum_by-cons (λ w. cond (x == w) n 0) v vs, here, later)

-- ---- the ids of a graph are distinct

lower : (a b : ℕ) → is_lt (nat_cmp a b) ≡ true → a < b
lower a b e = by (nat_cmp a b) refl e
  where
    by : (r : Ordering) → r ≡ nat_cmp a b → is_lt r ≡ true → a < b
    by Less is e = ranked a b Less is
    by Equal is e = absurd (let bad : false ≡ true = e in cc)
    by Greater is e = absurd (let bad : false ≡ true = e in cc)

above_all : (v : Vertex) (vs : List Vertex) → is_ascending vertex_cmp (v ∷ vs) ≡ true → (x : ℕ) → x < v.id → AllByRecursion (λ y. nat_eq x y ≡ false) (map (λ (w : Vertex). w.id) (v ∷ vs))
above_all v [] h x low = (ne_eqb x v.id (λ same. absurd (omega (arith, low, same))), tt)
above_all v (w ∷ ws) h x low =
    let parts = and_parts (is_lt (nat_cmp v.id w.id)) (is_ascending vertex_cmp (w ∷ ws)) h in
    (ne_eqb x v.id (λ same. absurd (omega (arith, low, same))), above_all w ws parts.1 x (omega (arith, low, lower v.id w.id parts.0)))

distinct_vertices : (vs : List Vertex) → is_ascending vertex_cmp vs ≡ true → IsDistinct nat_eq (map (λ (w : Vertex). w.id) vs)
unfolding IsDistinct
distinct_vertices [] h = tt
distinct_vertices (v ∷ []) h = (tt, tt)
distinct_vertices (v ∷ w ∷ ws) h =
    let parts = and_parts (is_lt (nat_cmp v.id w.id)) (is_ascending vertex_cmp (w ∷ ws)) h in
    (above_all w ws parts.1 v.id (lower v.id w.id parts.0), distinct_vertices (w ∷ ws) parts.1)

-- no two vertices have the same id
pub distinct_ids : (g : Graph) → IsGraph g → IsDistinct nat_eq (ids g)
distinct_ids g is = distinct_vertices g.vertices is.ascending_vertices

-- ---- a vertex is one whose id is listed

listed_id_in : (v : ℕ) (vs : List Vertex) → list_any (λ (w : Vertex). w.id == v) vs ≡ list_any (nat_eq v) (map (λ (w : Vertex). w.id) vs)
listed_id_in v [] = refl
listed_id_in v (w ∷ ws) = λ i. nat_eq_equiv.symm w.id v i || listed_id_in v ws i

-- by the list of all ids
pub listed_id : (g : Graph) (v : ℕ) → has_vertex g v ≡ list_any (nat_eq v) (ids g)
listed_id g v = listed_id_in v g.vertices

-- ---- joints by their upper ends

module _ (r : ℕ → Bool) (w : ℕ) (vs : List ℕ) (distinct : IsDistinct nat_eq vs) (all : (x : ℕ) → r x ≡ true → list_any (nat_eq x) vs ≡ true) where
  -- whether a joint leads from v to w
  abbrev leads : ℕ → Joint → Bool
  leads v e = e.above == v && e.below == w

  part : (b c d : Bool) (n : ℕ) → (c ≡ true → b ≡ d) → ◌≡◌ {A = ℕ} (cond b (cond (c && n == w) 1 0) 0) (cond c (cond (n == w && d) 1 0) 0)
  part b true d n h = by b d (n == w) (h refl)
    where
      by : (b d s : Bool) → b ≡ d → ◌≡◌ {A = ℕ} (cond b (cond s 1 0) 0) (cond (s && d) 1 0)
      by true true true h = refl
      by true true false h = refl
      by false false true h = refl
      by false false false h = refl
      by true false s h = absurd (let bad : true ≡ false = h in cc)
      by false true s h = absurd (let bad : false ≡ true = h in cc)
  part true false d n h = refl
  part false false d n h = refl

  sum_cond : (b : Bool) (m n : ℕ) → cond b (m + n) 0 ≡ cond b m 0 + cond b n 0
  sum_cond true m n = refl
  sum_cond false m n = refl

  own : (e : Joint) → sum_by (λ v. cond (e.above == v) (cond (e.below == w && r e.above) 1 0) 0) vs ≡ cond (e.below == w && r e.above) 1 0
  own e = by (r e.above) refl
    where
      by : (b : Bool) → r e.above ≡ b → sum_by (λ v. cond (e.above == v) (cond (e.below == w && b) 1 0) 0) vs ≡ cond (e.below == w && b) 1 0
      by true h = once e.above (cond (e.below == w && true) 1 0) vs distinct (all e.above h)
      by false h =
          let no : ◌≡◌ {A = ℕ} (cond (e.below == w && false) 1 0) 0 = never (e.below == w) in
          sum_nothing (λ v. cond (e.above == v) (cond (e.below == w && false) 1 0) 0) vs (λ v. ap (λ n. cond (e.above == v) n 0) no ∙ zero_either (e.above == v)) ∙ sym no
        where
          never : (s : Bool) → ◌≡◌ {A = ℕ} (cond (s && false) 1 0) 0
          never true = refl
          never false = refl

          zero_either : (s : Bool) → ◌≡◌ {A = ℕ} (cond s 0 0) 0
          zero_either true = refl
          zero_either false = refl

  -- the joints to w are those from each vertex
  pub sum_of_joints : (es : List Joint) → sum_by (λ v. cond (r v) (count_by (leads v) es) 0) vs ≡ count_by (λ e. e.below == w && r e.above) es
  sum_of_joints [] = sum_nothing (λ v. cond (r v) (count_by (leads v) []) 0) vs (λ v. zero_either (r v))
    where
      zero_either : (s : Bool) → ◌≡◌ {A = ℕ} (cond s 0 0) 0
      zero_either true = refl
      zero_either false = refl
  sum_of_joints (e ∷ es) =
      sum_alike (λ v. cond (r v) (count_by (leads v) (e ∷ es)) 0) (λ v. cond (e.above == v) (cond (e.below == w && r e.above) 1 0) 0 + cond (r v) (count_by (leads v) es) 0) vs
      (λ v.
      ap (λ n. cond (r v) n 0) (sum_by-cons (λ x. cond (leads v x) 1 0) e es)
      ∙ sum_cond (r v) (cond (leads v e) 1 0) (count_by (leads v) es)
      ∙ ap (λ n. n + cond (r v) (count_by (leads v) es) 0) (part (r v) (e.above == v) (r e.above) e.below (λ same. ap r (sym (eqb-true e.above v same)))))
      ∙ sum_both (λ v. cond (e.above == v) (cond (e.below == w && r e.above) 1 0) 0) (λ v. cond (r v) (count_by (leads v) es) 0) vs
      ∙ (λ i. own e i + sum_of_joints es i)
      ∙ sym (sum_by-cons (λ x. cond (x.below == w && r x.above) 1 0) e es)
