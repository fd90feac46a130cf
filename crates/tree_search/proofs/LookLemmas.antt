-- What a search reads at most, whatever it meets.
use Rattle.std.proofs.Common.{◌≡◌, ℕ, zero, suc, ◌+◌, ◌-◌, ◌*◌, ◌<◌, ◌≤◌, Bool, true, false, not, cond, ◌||◌, ◌==◌, nat_eq, List, [], ◌∷◌, drop, length, filter, get_or, slice_index, Option, Some, None, is_some, inl, inr, refl, sym, ap, ◌∙◌, subst, arith}
use Rattle.std.specs.Prelude.{◌⊎◌, slice_set}
use Rattle.std.specs.Option.{unwrap_or}
use Rattle.std.specs.List.{IsDistinct, list_any, sum_by}
use Rattle.std.proofs.Math.Nat.{mul-add}
use Rattle.std.proofs.Math.Seq.{drop-cons}
use Rattle.std.proofs.lemmas.Bool.{and_parts, and_from, or_left, eqb-true, eq-eqb, eqb-false, ne_eqb, both_ways}
use Rattle.std.proofs.lemmas.List.{length-map, get_or-map, map-set}
use Rattle.std.proofs.lemmas.List.Sums.{sum_by-cons}
use Rattle.flux_model.specs.Costs.{degree, is_joined, rows_read}
use Rattle.flux_model.specs.Exact.{StateRows, row_at, IsExact}
use Rattle.flux_model.specs.Graph.{Graph, ids, has_triple}
use Rattle.flux_model.specs.Order.{Place, SearchOrder}
use Rattle.flux_model.specs.Partial.{id_of}
use Rattle.flux_model.specs.Pattern.{PatternGraph, vertex_count, fits}
use Rattle.flux_model.specs.States.{joined, reaches, reaches_within, extends}
use Rattle.flux_model.specs.declared.graph.Vertex.{Vertex}
use Rattle.flux_model.specs.Tree.{QueryTree, edge_at, link_at, is_child}
use Rattle.flux_model.specs.declared.tree.TreeLink.{TreeLink}
use Rattle.flux_model.specs.Members.{In}
use Rattle.flux_model.proofs.MemberLemmas.{any_in, in_filter}
use Rattle.match_order.specs.Whole.{vertices}
use Rattle.match_order.proofs.CallerLemmas.{HangsFrom, vertex_within, anchor_joined, child_hangs}
use Rattle.query_tree.proofs.CallerLemmas.{is_child_of}
use Rattle.graph_rows.specs.Directions.{triple_of, direction_to}
use Rattle.graph_rows.specs.declared.direction.Direction.{Direction}
use Rattle.graph_rows.specs.declared.direction.Direction.TheVariants.{Out, In as Inward}
use Rattle.tree_search.specs.Aim.{keeps_aim}
use Rattle.tree_search.specs.AimedMembers.{may_take}
use Rattle.tree_search.specs.Given.{IsReady, IsRowAt, nth_vertex, nth_anchor, may_have, edge_between}
use Rattle.tree_search.specs.LookCost.{head_of, target_of, look_from, look_over, goes_next}
use Rattle.tree_search.specs.Members.{ids_of}
use Rattle.tree_search.specs.SearchCosts.{test_cost}
use Rattle.tree_search.specs.declared.aim.Aim.{Aim}
use Rattle.tree_search.specs.declared.aim.Aim.TheVariants.{All, Edge}
use Rattle.tree_search.proofs.CostLemmas.{turn_paid, test_most, products}
use Rattle.tree_search.proofs.EmbeddingLemmas.{vertex_of_fits}
use Rattle.tree_search.proofs.EndLemmas.{by_in}
use Rattle.tree_search.proofs.LiveLemmas.{fits_when}
use Rattle.tree_search.proofs.TurnLemmas.{vertex_listed}

-- ---- sums over some elements of a list

sum_less : (cost : ℕ → ℕ) (p : ℕ → Bool) (ys : List ℕ) → sum_by cost (filter p ys) ≤ sum_by cost ys
sum_less cost p [] = omega arith
sum_less cost p (y ∷ ys) = by (p y) (sum_less cost p ys)
  where
    by : (b : Bool) → sum_by cost (filter p ys) ≤ sum_by cost ys → sum_by cost (cond b (y ∷ filter p ys) (filter p ys)) ≤ sum_by cost (y ∷ ys)
    by true rest = omega (arith, rest, sum_by-cons cost y ys, sum_by-cons cost y (filter p ys))
    by false rest = omega (arith, rest, sum_by-cons cost y ys)

sum_taken : (cost : ℕ → ℕ) (ys : List ℕ) (x : ℕ) → In ys x → cost x + sum_by cost (filter (λ y. not (y == x)) ys) ≤ sum_by cost ys
sum_taken cost [] x i = absurd i
sum_taken cost (y ∷ ys) x i = by (y == x) refl i (sum_taken cost ys x)
  where
    others : List ℕ
    others = filter (λ z. not (z == x)) ys

    by : (b : Bool) → (y == x) ≡ b → (x ≡ y) ⊎ In ys x → (In ys x → cost x + sum_by cost others ≤ sum_by cost ys) → cost x + sum_by cost (cond (not b) (y ∷ others) others) ≤ sum_by cost (y ∷ ys)
    by true same j rest = let equal : cost y ≡ cost x = ap cost (eqb-true y x same) in omega (arith, equal, sum_less cost (λ z. not (z == x)) ys, sum_by-cons cost y ys)
    by false other (inl e) rest = absurd (eqb-false y x other (sym e))
    by false other (inr j) rest = omega (arith, rest j, sum_by-cons cost y ys, sum_by-cons cost y others)

-- a list without repeats, of which those that are kept stand in another, sums to no more
sum_among : (cost : ℕ → ℕ) (keep : ℕ → Bool) (xs ys : List ℕ) → IsDistinct nat_eq xs → ((z : ℕ) → In xs z → keep z ≡ true → In ys z) → sum_by cost (filter keep xs) ≤ sum_by cost ys
unfolding IsDistinct
sum_among cost keep [] ys apart among = omega arith
sum_among cost keep (x ∷ xs) ys apart among = by (keep x) refl (sum_among cost keep xs)
  where
    by : (b : Bool) → keep x ≡ b → ((zs : List ℕ) → IsDistinct nat_eq xs → ((z : ℕ) → In xs z → keep z ≡ true → In zs z) → sum_by cost (filter keep xs) ≤ sum_by cost zs)
        → sum_by cost (cond b (x ∷ filter keep xs) (filter keep xs)) ≤ sum_by cost ys
    by true e rest =
        let others = rest (filter (λ y. not (y == x)) ys) apart.1 (λ z i k. in_filter (λ y. not (y == x)) ys z (among z (inr i) k) (ap not (ne_eqb z x (λ same. eqb-false x z (by_in (λ y. nat_eq x y ≡ false) xs z apart.0 i) (sym same))))) in
        omega (arith, others, sum_taken cost ys x (among x (inl refl) e), sum_by-cons cost x (filter keep xs))
    by false e rest = rest ys apart.1 (λ z i k. among z (inr i) k)

-- a list without repeats is no longer than one that has its elements
distinct_few : (xs ys : List ℕ) → IsDistinct nat_eq xs → ((z : ℕ) → In xs z → In ys z) → length xs ≤ length ys
distinct_few xs ys apart among = omega (arith, sum_among (λ _. 1) (λ _. true) xs ys apart (λ z i keep. among z i), all xs, ones xs, ones ys)
  where
    ones : (zs : List ℕ) → sum_by (λ _. 1) zs ≡ length zs
    ones [] = refl
    ones (z ∷ zs) = omega (arith, sum_by-cons (λ _. 1) z zs, ones zs)

    all : (zs : List ℕ) → sum_by (λ _. 1) (filter (λ _. true) zs) ≡ sum_by (λ _. 1) zs
    all [] = refl
    all (z ∷ zs) = omega (arith, sum_by-cons (λ _. 1) z zs, sum_by-cons (λ _. 1) z (filter (λ _. true) zs), all zs)

-- a layer of the index is no longer than there are vertices
pub layer_few : (q : PatternGraph) (t : QueryTree) (d : StateRows) (g : Graph) → IsExact q t g d → (u : ℕ) (layer : List ℕ) → IsDistinct nat_eq layer
    → ((v : ℕ) → list_any (nat_eq v) layer ≡ is_some (row_at d u v)) → length layer ≤ length g.vertices
layer_few q t d g exact u layer once rows =
    let few = distinct_few layer (ids g) once (λ v i. vertex_listed g v (vertex_of_fits q g u v (fit v (reached v (reaches (joined q t g) u v) refl i)))) in
    omega (arith, few, length-map g.vertices (λ (v : Vertex). v.id))
  where
    reached : (v : ℕ) (b : Bool) → reaches (joined q t g) u v ≡ b → In layer v → reaches (joined q t g) u v ≡ true
    reached v true is i = is
    reached v false is i =
        let has : list_any (nat_eq v) layer ≡ true = any_in (nat_eq v) layer v i (eq-eqb v v refl) in
        let none : is_some (row_at d u v) ≡ false = ap is_some (exact.rows u v) ∙ rw is refl in
        absurd (both_ways (is_some (row_at d u v)) none (sym (rows v) ∙ has))

    fits_of : (n v : ℕ) → reaches_within n (joined q t g) u v ≡ true → (joined q t g).fits u v ≡ true
    fits_of zero v h = absurd (let bad : false ≡ true = h in cc)
    fits_of (suc n) v h = (and_parts _ _ h).0

    fit : (v : ℕ) → reaches (joined q t g) u v ≡ true → fits q u g v ≡ true
    fit v h = fits_of (length t.links) v h

sum_scaled : (e : ℕ) (f : ℕ → ℕ) (xs : List ℕ) → sum_by (λ z. e * f z) xs ≡ e * sum_by f xs
sum_scaled e f [] = omega arith
sum_scaled e f (x ∷ xs) =
    sum_by-cons (λ z. e * f z) x xs
    ∙ ap (λ n. e * f x + n) (sum_scaled e f xs)
    ∙ sym (ap (λ n. e * n) (sum_by-cons f x xs) ∙ mul-add e (f x) (sum_by f xs))

-- ---- the place of the order

module _ (o : SearchOrder) (k : ℕ) (some : 1 ≤ k) (few : k < length (vertices o)) where
  nowhere : Place
  nowhere = record { vertex = 0; anchor = 0 }

  inside : k - 1 < length o.places
  inside = omega (arith, some, few, length-map o.places (λ (p : Place). p.vertex))

  place_is : drop (k - 1) o.places ≡ record { vertex = nth_vertex o k; anchor = nth_anchor o k } ∷ drop k o.places
  place_is =
      let next : suc (k - 1) ≡ k = omega (arith, some) in
      let vertex : nth_vertex o k ≡ (get_or o.places (k - 1) nowhere).vertex =
      ap (slice_index (vertices o)) (sym next) ∙ get_or-map (λ (p : Place). p.vertex) o.places (k - 1) nowhere 0 inside in
      let anchor : nth_anchor o k ≡ (get_or o.places (k - 1) nowhere).anchor = get_or-map (λ (p : Place). p.anchor) o.places (k - 1) nowhere 0 inside in
      drop-cons o.places (k - 1) nowhere inside
      ∙ (λ i. record { vertex = sym vertex i; anchor = sym anchor i } ∷ drop (next i) o.places)

-- ---- what goes on

joined_row : (q : PatternGraph) (t : QueryTree) (g : Graph) (w a v x : ℕ) → HangsFrom t a w ⊎ HangsFrom t w a
    → is_joined q t g (record { vertex = w; anchor = a }) v x ≡ has_triple g (triple_of (direction_to (edge_at q (edge_between t w a)) w) v (edge_at q (edge_between t w a)).label x)
joined_row q t g w a v x tied = by (is_child t a w) refl
  where
    edge : (l : TreeLink) (b : Bool) → cond b (has_triple g (record { src = v; label = (edge_at q l.edge).label; dst = x })) (has_triple g (record { src = x; label = (edge_at q l.edge).label; dst = v }))
        ≡ has_triple g (triple_of (cond b Out Inward) v (edge_at q l.edge).label x)
    edge l true = refl
    edge l false = refl

    up : (l : TreeLink) → link_at t a ≡ Some l → is_child t a w ≡ false → HangsFrom t a w ⊎ HangsFrom t w a
        → is_joined q t g (record { vertex = w; anchor = a }) v x ≡ has_triple g (triple_of (direction_to (edge_at q (edge_between t w a)) w) v (edge_at q (edge_between t w a)).label x)
    up l e child either = rw (child, e) (edge l ((edge_at q l.edge).head == w))

    by : (b : Bool) → is_child t a w ≡ b → is_joined q t g (record { vertex = w; anchor = a }) v x ≡ has_triple g (triple_of (direction_to (edge_at q (edge_between t w a)) w) v (edge_at q (edge_between t w a)).label x)
    by true child = let h = child_hangs t a w child in rw (child, h.1) (edge h.0 ((edge_at q h.0.edge).head == w))
    by false child = at tied
      where
        at : HangsFrom t a w ⊎ HangsFrom t w a → is_joined q t g (record { vertex = w; anchor = a }) v x ≡ has_triple g (triple_of (direction_to (edge_at q (edge_between t w a)) w) v (edge_at q (edge_between t w a)).label x)
        at (inl (l, e, same)) = up l e child tied
        at (inr (l, e, same)) = absurd (both_ways (is_child t a w) child (ap (λ b. is_child t b w) (sym same) ∙ is_child_of t w l e))

given_index : (p : List (Option ℕ)) (u v : ℕ) → id_of p u ≡ Some v → slice_index (ids_of p) u ≡ v
given_index [] u v has = absurd (let none : None ≡ Some v = has in cc)
given_index (o ∷ p) zero v has = ap (λ r. unwrap_or r 0) has
given_index (o ∷ p) (suc u) v has = given_index p u v has

module _ (q : PatternGraph) (t : QueryTree) (d : StateRows) (g : Graph) (o : SearchOrder) (ready : IsReady q t d g o) (aim : Aim) (k : ℕ) (some : 1 ≤ k) (few : k < length (vertices o)) (p : List (Option ℕ))
    (v : ℕ) (direction : Direction) (label : List ℕ) (row : IsRowAt q t o k p v direction label) where
  abbrev w : ℕ
  w = nth_vertex o k

  abbrev a : ℕ
  a = nth_anchor o k

  abbrev m : List ℕ
  m = ids_of p

  at_anchor : slice_index m a ≡ v
  at_anchor = given_index p a v row.anchor

  -- a triple of the row joins
  row_joins : (x : ℕ) → is_joined q t g (record { vertex = w; anchor = a }) (slice_index m a) x ≡ has_triple g (triple_of direction v label x)
  row_joins x =
      ap (λ n. is_joined q t g (record { vertex = w; anchor = a }) n x) at_anchor
      ∙ joined_row q t g w a v x (anchor_joined t o ready.order k some few)
      ∙ (λ i. has_triple g (triple_of (sym row.leads i) v (sym row.name i) x))

  pins : (b : Aim) (x : ℕ) → keeps_aim q b p w x ≡ true → not (w == head_of q b) || x == target_of b ≡ true
  pins All x keeps = or_left (not (w == vertex_count q)) (x == 0) (ap not (ne_eqb w (vertex_count q) (λ same. omega (arith, same, vertex_within t o ready.order k few, ready.belongs.vertices))))
  pins (Edge i s) x keeps = (and_parts _ _ keeps).0

  -- what is taken is next
  pub taken_next : (x : ℕ) → may_take q t g aim p w x ≡ true → has_triple g (triple_of direction v label x) ≡ true → goes_next q t g aim o k m x ≡ true
  taken_next x may stands =
      let outer = and_parts (keeps_aim q aim p w x) (may_have q t g p w x) may in
      let explicit = (and_parts _ _ (and_parts _ _ outer.1).0).0 in
      let fit : fits q w g x ≡ true = fits_when (length t.links) (joined q t g) w x (and_parts (reaches (joined q t g) w x) (extends (joined q t g) w x) explicit).1 in
      and_from _ _ (and_from (fits q w g x) _ fit (row_joins x ∙ stands)) (pins aim x outer.0)

  -- the row and what goes on from it are within the budget
  pub look_start : (n : ℕ) → n ≤ degree g v → (xs : List ℕ) → IsDistinct nat_eq xs → (u : ℕ) → u ≡ w
      → (length q.edges + 4) * (n + 1) + sum_by (look_over q t g aim o k m u) (filter (goes_next q t g aim o k m) xs) ≤ look_from q t g aim o k m
  look_start n most xs apart u at =
      omega (arith, wide, among, scaled, whole)
    where
      scale : ℕ
      scale = length q.edges + 4

      nexts : List ℕ
      nexts = filter (goes_next q t g aim o k m) (ids g)

      read : ℕ → ℕ
      read z = rows_read q t g (head_of q aim) (target_of aim) (drop k o.places) (slice_set m w z)

      wide : (length q.edges + 4) * (n + 1) ≤ scale * (1 + degree g v)
      wide = products (length q.edges) n (degree g v) most

      among : sum_by (look_over q t g aim o k m u) (filter (goes_next q t g aim o k m) xs) ≤ sum_by (λ z. scale * read z) nexts
      among = subst (λ n. sum_by (look_over q t g aim o k m n) (filter (goes_next q t g aim o k m) xs) ≤ sum_by (λ z. scale * read z) nexts) (sym at)
          (sum_among (λ z. scale * read z) (goes_next q t g aim o k m) xs nexts apart
          (λ z i keep. in_filter (goes_next q t g aim o k m) (ids g) z (vertex_listed g z (vertex_of_fits q g w z (and_parts _ _ (and_parts _ _ keep).0).0)) keep))

      scaled : sum_by (λ z. scale * read z) nexts ≡ scale * sum_by read nexts
      scaled = sum_scaled scale read nexts

      whole : look_from q t g aim o k m ≡ scale * (1 + degree g v) + scale * sum_by read nexts
      whole =
          ap (λ l. scale * rows_read q t g (head_of q aim) (target_of aim) l m) (place_is o k some few)
          ∙ ap (λ n. scale * (1 + degree g n + sum_by read nexts)) at_anchor
          ∙ mul-add scale (1 + degree g v) (sum_by read nexts)

-- ---- one turn

module _ (q : PatternGraph) (t : QueryTree) (g : Graph) (w x : ℕ) (xs rest : List ℕ) (ends : xs ≡ x ∷ rest) (cost : ℕ → ℕ) (keep : ℕ → Bool) where
  kept : keep x ≡ true → sum_by cost (filter keep xs) ≡ cost x + sum_by cost (filter keep rest)
  kept e = ap (λ l. sum_by cost (filter keep l)) ends ∙ ap (λ b. sum_by cost (cond b (x ∷ filter keep rest) (filter keep rest))) e ∙ sum_by-cons cost x (filter keep rest)

  fewer : sum_by cost (filter keep rest) ≤ sum_by cost (filter keep xs)
  fewer = subst (λ n. sum_by cost (filter keep rest) ≤ n) (ap (λ l. sum_by cost (filter keep l)) (sym ends)) (by (keep x))
    where
      by : (b : Bool) → sum_by cost (filter keep rest) ≤ sum_by cost (cond b (x ∷ filter keep rest) (filter keep rest))
      by true = omega (arith, sum_by-cons cost x (filter keep rest))
      by false = omega arith

  -- a candidate that is taken, with what goes on from it, is within the budget
  pub look_turn : keep x ≡ true → (less more : ℕ) → less < more → (s0 s1 s2 s3 first whole inner : ℕ) → s1 + 2 * less ≤ s0 + 2 * more → s2 ≤ s1 + test_cost q t g w x + 1 → s3 ≤ s2 + inner → inner ≡ cost x
      → s0 + ((length q.edges + 4) * (more + 1) + sum_by cost (filter keep xs)) ≤ first + whole
      → s3 + ((length q.edges + 4) * (less + 1) + sum_by cost (filter keep rest)) ≤ first + whole
  look_turn keeps less more h s0 s1 s2 s3 first whole inner a b c same d =
      omega (arith, a, b, c, same, d, test_most q t g w x, turn_paid (length q.edges) less more (omega (arith, h)), kept keeps)

  -- so is one that is not
  pub look_skip : (less more : ℕ) → less < more → (s0 s1 s2 first whole : ℕ) → s1 + 2 * less ≤ s0 + 2 * more → s2 ≤ s1 + test_cost q t g w x + 1
      → s0 + ((length q.edges + 4) * (more + 1) + sum_by cost (filter keep xs)) ≤ first + whole
      → s2 + ((length q.edges + 4) * (less + 1) + sum_by cost (filter keep rest)) ≤ first + whole
  look_skip less more h s0 s1 s2 first whole a b d =
      omega (arith, a, b, d, test_most q t g w x, turn_paid (length q.edges) less more (omega (arith, h)), fewer)

-- what the rest of the search may read is what this candidate is worth
pub look_inner : (q : PatternGraph) (t : QueryTree) (g : Graph) (aim : Aim) (o : SearchOrder) (k : ℕ) (p now put : List (Option ℕ)) (w x : ℕ) → now ≡ p → put ≡ slice_set now w (Some x)
    → look_from q t g aim o (k + 1) (ids_of put) ≡ look_over q t g aim o k (ids_of p) w x
look_inner q t g aim o k p now put w x same is =
    let back : k + 1 - 1 ≡ k = omega arith in
    let ids : ids_of put ≡ slice_set (ids_of p) w x = ap ids_of (is ∙ ap (λ l. slice_set l w (Some x)) same) ∙ map-set (λ r. unwrap_or r 0) p w (Some x) in
    λ i. (length q.edges + 4) * rows_read q t g (head_of q aim) (target_of aim) (drop (back i) o.places) (ids i)
