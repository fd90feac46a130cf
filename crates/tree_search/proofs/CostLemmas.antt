-- What a search without dead ends costs.
use Rattle.std.proofs.Common.{◌≡◌, ℕ, suc, ◌+◌, ◌-◌, ◌*◌, ◌<◌, ◌≤◌, Bool, true, false, cond, ◌==◌, nat_eq, List, [], ◌∷◌, drop, length, slice_index, Option, Some, None, inl, inr, refl, sym, ap, ◌∙◌, subst, arith}
use Rattle.std.specs.Prelude.{slice_set, IsPermutation}
use Rattle.std.specs.List.{IsDistinct, sum_by, range_with_len}
use Rattle.std.proofs.Math.Nat.{mul-add, mul-suc, add-mul, mul-le-mul_left}
use Rattle.std.proofs.Math.Seq.{drop-cons}
use Rattle.std.proofs.lemmas.Bool.{both_ways}
use Rattle.std.proofs.lemmas.List.Sorted.{sum_by-IsPermutation}
use Rattle.std.proofs.lemmas.List.Sums.{sum_by-cons, sum_by-append, length-filter}
use Rattle.std.proofs.lemmas.Option.{get_or_from_slice_get, slice_get-get_or, slice_get_within}
use Rattle.flux_model.specs.Costs.{degree, row_cost, embedding_cost}
use Rattle.flux_model.specs.Exact.{StateRows}
use Rattle.flux_model.specs.Graph.{Graph}
use Rattle.flux_model.specs.Order.{SearchOrder}
use Rattle.flux_model.specs.Partial.{id_of, with_id}
use Rattle.flux_model.specs.Pattern.{PatternGraph, vertex_count}
use Rattle.flux_model.specs.States.{joined, is_explicit}
use Rattle.flux_model.specs.Tree.{QueryTree, link_at}
use Rattle.flux_model.specs.declared.graph.Triple.{Triple}
use Rattle.flux_model.specs.declared.tree.TreeLink.{TreeLink}
use Rattle.flux_model.specs.Members.{In, AreOnce}
use Rattle.flux_model.proofs.MemberLemmas.{once_permutation, once_by_place, in_by_place, place_of, range_in, in_range, range_once}
use Rattle.match_order.specs.Whole.{vertices}
use Rattle.match_order.proofs.CallerLemmas.{place_of_vertex, vertex_within, one_place}
use Rattle.graph_rows.specs.Directions.{whole_row}
use Rattle.graph_rows.specs.declared.direction.Direction.{Direction}
use Rattle.graph_rows.specs.declared.direction.Direction.TheVariants.{Out, In as Inward}
use Rattle.tree_search.specs.Given.{IsReady, IsGiven, nth_vertex, nth_anchor, may_have}
use Rattle.tree_search.specs.Members.{members_from, members_over}
use Rattle.tree_search.specs.declared.aim.Aim.TheVariants.{All}
use Rattle.tree_search.specs.SearchCosts.{MeetsNoDeadEnd, test_cost, cost_from, members_cost}
use Rattle.tree_search.proofs.MemberLemmas.{given_id}
use Rattle.tree_search.proofs.PassLemmas.{member}
use Rattle.tree_search.proofs.GivenLemmas.{members_listed, HasMembers}
use Rattle.tree_search.proofs.LiveLemmas.{anchor_above, goes_somewhere, explicit_may_have}

-- ---- sums

sum_both : {X : Type 0} (f h : X → ℕ) (xs : List X) → sum_by (λ x. f x + h x) xs ≡ sum_by f xs + sum_by h xs
sum_both f h [] = omega arith
sum_both f h (x ∷ xs) = omega (arith, sum_by-cons (λ y. f y + h y) x xs, sum_by-cons f x xs, sum_by-cons h x xs, sum_both f h xs)

sum_in : {X : Type 0} (f : X → ℕ) (xs : List X) (x : X) → In xs x → f x ≤ sum_by f xs
sum_in f [] x i = absurd i
sum_in f (y ∷ ys) x (inl e) = let same : f x ≡ f y = ap f e in omega (arith, sum_by-cons f y ys, same)
sum_in f (y ∷ ys) x (inr i) = omega (arith, sum_by-cons f y ys, sum_in f ys x i)

-- what is nowhere more sums to no more
pub sum_more : {X : Type 0} (f h : X → ℕ) (xs : List X) → ((x : X) → f x ≤ h x) → sum_by f xs ≤ sum_by h xs
sum_more f h [] each = omega arith
sum_more f h (x ∷ xs) each = omega (arith, sum_by-cons f x xs, sum_by-cons h x xs, each x, sum_more f h xs each)

-- ---- turns

-- what the turns of the row up to the next candidate, and the candidate's tests, come to
pub turn_paid : (e less more : ℕ) → less + 1 ≤ more → 2 * more + 2 + e + (e + 4) * (less + 1) ≤ 2 * less + (e + 4) * (more + 1)
turn_paid e less more h = by (more_is less more h)
  where
    more_is : (a b : ℕ) → a + 1 ≤ b → (r : ℕ) × (b ≡ a + 1 + r)
    more_is a b l = (b - (a + 1), omega (arith, l))

    by : (r : ℕ) × (more ≡ less + 1 + r) → 2 * more + 2 + e + (e + 4) * (less + 1) ≤ 2 * less + (e + 4) * (more + 1)
    by (r, is) =
        let whole : more + 1 ≡ (less + 1) + (r + 1) = omega (arith, is) in
        let split : (e + 4) * (more + 1) ≡ (e + 4) * (less + 1) + (e + 4) * (r + 1) = ap (λ n. (e + 4) * n) whole ∙ mul-add (e + 4) (less + 1) (r + 1) in
        let one : r + 1 ≡ suc r = omega arith in
        let first : (e + 4) * (r + 1) ≡ (e + 4) * r + (e + 4) = ap (λ n. (e + 4) * n) one ∙ mul-suc (e + 4) r in
        let four : (e + 4) * r ≡ e * r + 4 * r = add-mul e 4 r in
        omega (arith, split, first, four, is)

-- the end of a row
pub end_paid : (e n : ℕ) → 2 * n + 1 ≤ (e + 4) * (n + 1)
end_paid e n = let four : (e + 4) * (n + 1) ≡ e * (n + 1) + 4 * (n + 1) = add-mul e 4 (n + 1) in omega (arith, four)

-- a row no longer than the degree costs no more than the turns of all
pub products : (e a b : ℕ) → a ≤ b → (e + 4) * (a + 1) ≤ (e + 4) * (1 + b)
products e a b h = mul-le-mul_left (e + 4) (omega (arith, h))

-- ---- rows

-- a row is no longer than the degree of its vertex
pub row_length : (g : Graph) (v : ℕ) (direction : Direction) → length (whole_row direction g v) ≤ degree g v
row_length g v Out = omega (arith, length-filter (λ (t : Triple). t.src == v) g.triples)
row_length g v Inward = omega (arith, length-filter (λ (t : Triple). t.dst == v) g.triples)

cost_at_link : (t : QueryTree) (g : Graph) (m : List ℕ) (u : ℕ) (l : TreeLink) → link_at t u ≡ Some l → row_cost t g m u ≡ 1 + degree g (slice_index m l.parent)
cost_at_link t g m u l e = rw e refl

cost_at_root : (t : QueryTree) (g : Graph) (m : List ℕ) (u : ℕ) → link_at t u ≡ None → row_cost t g m u ≡ 0
cost_at_root t g m u e = rw e refl

module _ (q : PatternGraph) (t : QueryTree) (d : StateRows) (g : Graph) (o : SearchOrder) (ready : IsReady q t d g o) (start : o.start ≡ t.root) (live : MeetsNoDeadEnd q t) where
  abbrev scale : ℕ
  scale = length q.edges + 4

  -- one place more
  cost_split : (k : ℕ) → k < length (vertices o) → (m : List ℕ) → cost_from q t g o k m ≡ scale * row_cost t g m (nth_vertex o k) + cost_from q t g o (k + 1) m
  cost_split k few m =
      let next : suc k ≡ k + 1 = omega arith in
      ap (λ l. scale * sum_by (row_cost t g m) l) (drop-cons (vertices o) k 0 few ∙ ap (λ n. nth_vertex o k ∷ drop n (vertices o)) next)
      ∙ ap (λ n. scale * n) (sum_by-cons (row_cost t g m) (nth_vertex o k) (drop (k + 1) (vertices o)))
      ∙ mul-add scale (row_cost t g m (nth_vertex o k)) (sum_by (row_cost t g m) (drop (k + 1) (vertices o)))

  -- ---- the row at place k is paid for

  -- the row of the anchor, and what the embeddings cost from the next place on, come to no more than what they cost from this place on
  pub row_paid : (k : ℕ) → 1 ≤ k → k < length (vertices o) → (p : List (Option ℕ)) → IsGiven q t g o k p → (v : ℕ) → id_of p (nth_anchor o k) ≡ Some v → (n : ℕ) → n ≤ degree g v
      → (over : List (List ℕ)) → IsPermutation over (members_from q g p)
      → (length q.edges + 4) * (n + 1) + sum_by (cost_from q t g o (k + 1)) over ≤ members_cost q t g o k p
  row_paid k some few p known v has n few_rows over same =
      let m = goes_somewhere q t d g o ready start live (left k few) k (left_is k few) some p known in
      let up = anchor_above q t d g o ready start k some few in
      let at : slice_index m.0 up.0.parent ≡ v = ap (slice_index m.0) up.2 ∙ given_id p m.0 (nth_anchor o k) v (member q g All p m.0 m.1).1 has in
      let cost : row_cost t g m.0 (nth_vertex o k) ≡ 1 + degree g v = cost_at_link t g m.0 (nth_vertex o k) up.0 up.1 ∙ ap (λ n. 1 + degree g n) at in
      let one : scale * row_cost t g m.0 (nth_vertex o k) ≤ sum_by (λ m. scale * row_cost t g m (nth_vertex o k)) (members_from q g p) = sum_in (λ m. scale * row_cost t g m (nth_vertex o k)) (members_from q g p) m.0 m.1 in
      let whole : members_cost q t g o k p ≡ sum_by (λ m. scale * row_cost t g m (nth_vertex o k)) (members_from q g p) + sum_by (cost_from q t g o (k + 1)) (members_from q g p) =
      sum_alike (cost_from q t g o k) (λ m. scale * row_cost t g m (nth_vertex o k) + cost_from q t g o (k + 1) m) (members_from q g p) (cost_split k few)
      ∙ sum_both (λ m. scale * row_cost t g m (nth_vertex o k)) (cost_from q t g o (k + 1)) (members_from q g p) in
      let moved : sum_by (cost_from q t g o (k + 1)) (members_from q g p) ≡ sum_by (cost_from q t g o (k + 1)) over = sum_by-IsPermutation (cost_from q t g o (k + 1)) over (members_from q g p) same in
      let product : scale * row_cost t g m.0 (nth_vertex o k) ≡ scale * (1 + degree g v) = ap (λ n. scale * n) cost in
      let larger : (length q.edges + 4) * (n + 1) ≤ scale * (1 + degree g v) = products (length q.edges) n (degree g v) few_rows in
      omega (arith, one, whole, moved, product, larger)
    where
      left : (k : ℕ) → k < length (vertices o) → ℕ
      left k h = length (vertices o) - k

      left_is : (k : ℕ) (h : k < length (vertices o)) → k + left k h ≡ length (vertices o)
      left_is k h = omega (arith, h)

      sum_alike : {X : Type 0} (f h : X → ℕ) (xs : List X) → ((x : X) → f x ≡ h x) → sum_by f xs ≡ sum_by h xs
      sum_alike f h xs e = λ i. sum_by (λ x. e x i) xs

  -- ---- the whole of an embedding's cost

  -- an embedding costs its scale and what its rows from place 1 on cost
  pub embedding_paid : (m : List ℕ) → embedding_cost q t g m ≡ scale + cost_from q t g o 1 m
  embedding_paid m =
      let n = vertex_count q in
      let rows : sum_by (row_cost t g m) (range_with_len 0 n) ≡ sum_by (row_cost t g m) (vertices o) = sum_by-IsPermutation (row_cost t g m) (vertices o) (range_with_len 0 n) listed in
      let first : sum_by (row_cost t g m) (vertices o) ≡ row_cost t g m o.start + sum_by (row_cost t g m) (drop 1 (vertices o)) = sum_by-cons (row_cost t g m) o.start (drop 1 (vertices o)) in
      let nothing : row_cost t g m o.start ≡ 0 = cost_at_root t g m o.start (ap (link_at t) start ∙ ready.belongs.tree.top) in
      let sum : 1 + sum_by (row_cost t g m) (range_with_len 0 n) ≡ 1 + sum_by (row_cost t g m) (drop 1 (vertices o)) = omega (arith, rows, first, nothing) in
      ap (λ s. scale * s) sum
      ∙ mul-add scale 1 (sum_by (row_cost t g m) (drop 1 (vertices o)))
      ∙ (let once : scale * 1 ≡ scale = omega arith in ap (λ s. s + cost_from q t g o 1 m) once)
    where
      listed : IsPermutation (vertices o) (range_with_len 0 (vertex_count q))
      listed = once_permutation (vertices o) (range_with_len 0 (vertex_count q)) vertices_once (range_once 0 (vertex_count q))
          (λ u i. in_range 0 (vertex_count q) u (omega arith) (inside u i))
          (λ u i. here u (range_in 0 (vertex_count q) u i).1)
        where
          vertices_once : AreOnce (vertices o)
          vertices_once = once_by_place (vertices o) (λ i j x p r.
              one_place t o ready.order i j (slice_get_within (vertices o) i x p) (slice_get_within (vertices o) j x r)
              (get_or_from_slice_get (vertices o) i x 0 p ∙ sym (get_or_from_slice_get (vertices o) j x 0 r)))

          inside : (u : ℕ) → In (vertices o) u → u < 0 + vertex_count q
          inside u i =
              let place = place_of (vertices o) u i in
              let within = vertex_within t o ready.order place.0 (slice_get_within (vertices o) place.0 u place.1) in
              omega (arith, within, get_or_from_slice_get (vertices o) place.0 u 0 place.1, ready.belongs.vertices)

          here : (u : ℕ) → u < 0 + vertex_count q → In (vertices o) u
          here u h =
              let place = place_of_vertex t o ready.order u (omega (arith, h, ready.belongs.vertices)) in
              in_by_place (vertices o) place.0 u (slice_get-get_or (vertices o) place.0 0 place.1 ∙ ap Some place.2)

  -- a root that leads on pays for its tests as well
  pub root_paid : (p : List (Option ℕ)) → IsGiven q t g o 1 p → length q.edges + 1 + members_cost q t g o 1 p ≤ sum_by (embedding_cost q t g) (members_from q g p)
  root_paid p known =
      let m = goes_somewhere q t d g o ready start live (length (vertices o) - 1) 1 (omega arith) (omega arith) p known in
      let all : sum_by (embedding_cost q t g) (members_from q g p) ≡ sum_by (λ _. scale) (members_from q g p) + members_cost q t g o 1 p =
      (λ i. sum_by (λ m. embedding_paid m i) (members_from q g p)) ∙ sum_both (λ _. scale) (cost_from q t g o 1) (members_from q g p) in
      omega (arith, all, sum_in (λ _. scale) (members_from q g p) m.0 m.1)

  -- ---- the loop over a row

  -- at first the row and the embeddings over its candidates are to be paid
  pub start_paid : (k : ℕ) → 1 ≤ k → (few : k < length (vertices o)) (p : List (Option ℕ)) (known : IsGiven q t g o k p) (w : ℕ) → w ≡ nth_vertex o k → (v : ℕ) → id_of p (nth_anchor o k) ≡ Some v → (n : ℕ) → n ≤ degree g v → (xs : List ℕ) → IsDistinct nat_eq xs → HasMembers q t d g o ready k few p known All xs
      → (length q.edges + 4) * (n + 1) + sum_by (cost_from q t g o (k + 1)) (members_over q g p w xs) ≤ members_cost q t g o k p
  start_paid k some few p known w at v anchor n most xs apart has =
      let split = members_listed q t d g o ready k few p known All xs apart has in
      let split' : IsPermutation (members_over q g p w xs) (members_from q g p) = subst (λ u. IsPermutation (members_over q g p u xs) (members_from q g p)) (sym at) split in
      row_paid k some few p known v anchor n most (members_over q g p w xs) split'

-- ---- one turn

-- a candidate costs at most one step more than there are edges
pub test_most : (q : PatternGraph) (t : QueryTree) (g : Graph) (w x : ℕ) → test_cost q t g w x ≤ 1 + length q.edges
test_most q t g w x = by (is_explicit (joined q t g) w x)
  where
    by : (b : Bool) → cond b (1 + length q.edges) 1 ≤ 1 + length q.edges
    by true = omega arith
    by false = omega arith

test_least : (q : PatternGraph) (t : QueryTree) (g : Graph) (w x : ℕ) → is_explicit (joined q t g) w x ≡ false → test_cost q t g w x ≡ 1
test_least q t g w x e = ap (λ b. cond b (1 + length q.edges) 1) e

module _ (q : PatternGraph) (t : QueryTree) (g : Graph) (p : List (Option ℕ)) (w : ℕ) (now : List (Option ℕ)) (same : now ≡ p) (x : ℕ) (xs rest : List ℕ) (ends : xs ≡ x ∷ rest) (cost : List ℕ → ℕ) where
  -- the embeddings with x and the others
  over_split : sum_by cost (members_over q g p w xs) ≡ sum_by cost (members_from q g (with_id p w x)) + sum_by cost (members_over q g p w rest)
  over_split = ap (λ zs. sum_by cost (members_over q g p w zs)) ends ∙ sum_by-append cost (members_from q g (with_id p w x)) (members_over q g p w rest)

  over_put : (put : List (Option ℕ)) → put ≡ slice_set now w (Some x) → sum_by cost (members_from q g put) ≡ sum_by cost (members_from q g (with_id p w x))
  over_put put is = ap (λ l. sum_by cost (members_from q g l)) (is ∙ ap (λ l. slice_set l w (Some x)) same)

  -- a candidate that is taken is paid for
  pub turn_steps : (put : List (Option ℕ)) → put ≡ slice_set now w (Some x) → (less more : ℕ) → less < more → (s0 s1 s2 s3 first whole : ℕ) → s1 + 2 * less ≤ s0 + 2 * more → s2 ≤ s1 + test_cost q t g w x + 1 → s3 ≤ s2 + sum_by cost (members_from q g put)
      → s0 + ((length q.edges + 4) * (more + 1) + sum_by cost (members_over q g p w xs)) ≤ first + whole
      → s3 + ((length q.edges + 4) * (less + 1) + sum_by cost (members_over q g p w rest)) ≤ first + whole
  turn_steps put is less more h s0 s1 s2 s3 first whole a b c d =
      omega (arith, a, b, c, d, test_most q t g w x, turn_paid (length q.edges) less more (omega (arith, h)), over_split, over_put put is)

  -- so is one that is not
  pub skip_steps : (less more : ℕ) → less < more → (s0 s1 s2 first whole : ℕ) → s1 + 2 * less ≤ s0 + 2 * more → s2 ≤ s1 + test_cost q t g w x + 1
      → s0 + ((length q.edges + 4) * (more + 1) + sum_by cost (members_over q g p w xs)) ≤ first + whole
      → s2 + ((length q.edges + 4) * (less + 1) + sum_by cost (members_over q g p w rest)) ≤ first + whole
  skip_steps less more h s0 s1 s2 first whole a b d =
      omega (arith, a, b, d, test_most q t g w x, turn_paid (length q.edges) less more (omega (arith, h)), over_split)

  -- a root that is taken
  pub root_steps : (put : List (Option ℕ)) → put ≡ slice_set now w (Some x) → (s0 s2 s3 first i whole inner : ℕ) → s2 ≤ s0 + test_cost q t g w x → s3 ≤ s2 + inner → length q.edges + 1 + inner ≤ sum_by cost (members_from q g put)
      → s0 + sum_by cost (members_over q g p w xs) ≤ first + i + whole
      → s3 + sum_by cost (members_over q g p w rest) ≤ first + (i + 1) + whole
  root_steps put is s0 s2 s3 first i whole inner b c paid d =
      omega (arith, b, c, paid, d, test_most q t g w x, over_split, over_put put is)

  -- a root that is not
  pub loose_steps : (s0 s2 first i whole : ℕ) → s2 ≤ s0 + test_cost q t g w x → is_explicit (joined q t g) w x ≡ false
      → s0 + sum_by cost (members_over q g p w xs) ≤ first + i + whole
      → s2 + sum_by cost (members_over q g p w rest) ≤ first + (i + 1) + whole
  loose_steps s0 s2 first i whole b none d = omega (arith, b, d, test_least q t g w x none, over_split)

-- what may not be had is not explicit
pub not_explicit : (q : PatternGraph) (t : QueryTree) (g : Graph) → MeetsNoDeadEnd q t → (p : List (Option ℕ)) (w x : ℕ) (told : Bool) → told ≡ may_have q t g p w x → told ≡ false → is_explicit (joined q t g) w x ≡ false
not_explicit q t g live p w x told may fails = by (is_explicit (joined q t g) w x) refl
  where
    by : (b : Bool) → is_explicit (joined q t g) w x ≡ b → is_explicit (joined q t g) w x ≡ false
    by true is = absurd (both_ways (may_have q t g p w x) (sym may ∙ fails) (explicit_may_have q t g live p w x is))
    by false is = is
