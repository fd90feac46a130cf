-- What follows from `IsTree`, for those that stand on a `QueryTree`.
use Rattle.std.proofs.Common.{◌≡◌, ◌≢◌, ◌↔◌, ℕ, zero, suc, ◌+◌, ◌-◌, ◌<◌, ◌≤◌, Bool, true, false, ◌||◌, ◌==◌, ltb, length, get_or, Option, Some, None, refl, sym, ap, subst, ◌∙◌, inl, inr, arith}
use Rattle.std.specs.Prelude.{◌⊎◌}
use Rattle.std.specs.List.{All, AllPairs, filter, range_with_len, slice_get}
use Rattle.std.specs.List.Sorted.{IsStrictlyIncreasing}
use Rattle.std.proofs.lemmas.Bool.{cases_eq, cases_lt, cases_order, eqb-true, eq-eqb, ne_eqb, lt-ltb, le-ltb, ltb-true}
use Rattle.std.proofs.lemmas.List.{get_or_past}
use Rattle.std.proofs.lemmas.List.Elements.{All-from_recursion}
use Rattle.std.proofs.lemmas.List.FromFn.{length-range_with_len, get_or-range_with_len}
use Rattle.std.proofs.lemmas.List.Kept.{AllPairs-from_increasing, IsStrictlyIncreasing-filter}
use Rattle.std.proofs.lemmas.Option.{get_or_from_slice_get, slice_get_within}
use Rattle.flux_model.specs.Tree.{QueryTree, link_at, is_child, children, hangs_within, IsTree}
use Rattle.flux_model.specs.declared.tree.TreeLink.{TreeLink}
use Rattle.query_tree.specs.Depth.{depth_within, depth}
use Rattle.query_tree.proofs.NumberLemmas.{each_number, few_numbers, count_less}
use Rattle.query_tree.proofs.HangLemmas.{hangs_up, hangs_loose}

range-increasing : (n : ℕ) → IsStrictlyIncreasing (range_with_len 0 n)
range-increasing n k h =
    let few : k + 1 < n = omega (arith, length-range_with_len 0 n) in
    omega (arith, get_or-range_with_len 0 n k 0 (omega arith), get_or-range_with_len 0 n (k + 1) 0 few)

-- ---- links

-- a vertex with a link is below the count
pub link_within : (t : QueryTree) (u : ℕ) (l : TreeLink) → link_at t u ≡ Some l → u < length t.links
link_within t u l e = by (cases_lt u (length t.links))
  where
    by : (u < length t.links) ⊎ (length t.links ≤ u) → u < length t.links
    by (inl h) = h
    by (inr h) = let none : link_at t u ≡ None = get_or_past t.links u None h in absurd cc

-- it is a child of its parent
pub is_child_of : (t : QueryTree) (u : ℕ) (l : TreeLink) → link_at t u ≡ Some l → is_child t l.parent u ≡ true
is_child_of t u l e = rw e (eq-eqb l.parent l.parent refl)

module _ (t : QueryTree) (is : IsTree t) where
  pub not_root : (u : ℕ) (l : TreeLink) → link_at t u ≡ Some l → u ≢ t.root
  not_root u l e same =
      let none : link_at t t.root ≡ None = is.top in
      let there : link_at t u ≡ link_at t t.root = ap (link_at t) same in
      absurd cc

  -- a vertex that hangs and is not the root has a link
  has_link : (k u : ℕ) → hangs_within k t u ≡ true → u ≢ t.root → (l : TreeLink) × (link_at t u ≡ Some l)
  has_link zero u h other = absurd (other (eqb-true u t.root h))
  has_link (suc k) u h other = by (link_at t u) refl
    where
      by : (o : Option TreeLink) → link_at t u ≡ o → (l : TreeLink) × (link_at t u ≡ Some l)
      by None e = absurd (other (eqb-true u t.root (sym (hangs_loose t k u e) ∙ h)))
      by (Some l) e = (l, e)

  -- every vertex but the root has a link
  pub linked : (u : ℕ) → u < length t.links → u ≢ t.root → (l : TreeLink) × (link_at t u ≡ Some l)
  linked u h other = has_link (length t.links) u (is.hanging u h) other

  pub none_at_root : (u : ℕ) → u < length t.links → (link_at t u ≡ None) ↔ (u ≡ t.root)
  none_at_root u h = (there (cases_eq u t.root), λ same. ap (link_at t) same ∙ is.top)
    where
      there : (u ≡ t.root) ⊎ (u ≡ t.root → ⊥) → link_at t u ≡ None → u ≡ t.root
      there (inl same) e = same
      there (inr other) e = let l = linked u h other in let some : link_at t u ≡ Some l.0 = l.1 in absurd cc

  -- what hangs within k links, its parent hangs within one less
  hangs_below : (k u : ℕ) (l : TreeLink) → link_at t u ≡ Some l → hangs_within (suc k) t u ≡ true → hangs_within k t l.parent ≡ true
  hangs_below k u l e h = rest (u == t.root) (ne_eqb u t.root (not_root u l e)) (sym (hangs_up t k u l e) ∙ h)
    where
      rest : (b : Bool) → b ≡ false → b || hangs_within k t l.parent ≡ true → hangs_within k t l.parent ≡ true
      rest true f g = cc
      rest false f g = g

  count_suc : (n : ℕ) → t.root < n → (m : ℕ) × (n ≡ suc m)
  count_suc zero h = absurd (omega arith)
  count_suc (suc m) h = (m, refl)

  -- a parent is below the count
  pub parent_within : (u : ℕ) (l : TreeLink) → link_at t u ≡ Some l → l.parent < length t.links
  parent_within u l e = by (cases_eq l.parent t.root)
    where
      n : (m : ℕ) × (length t.links ≡ suc m)
      n = count_suc (length t.links) is.root

      up : hangs_within n.0 t l.parent ≡ true
      up = hangs_below n.0 u l e (subst (λ k. hangs_within k t u ≡ true) n.1 (is.hanging u (link_within t u l e)))

      by : (l.parent ≡ t.root) ⊎ (l.parent ≡ t.root → ⊥) → l.parent < length t.links
      by (inl same) = omega (arith, is.root)
      by (inr other) = let m = has_link n.0 l.parent up other in link_within t l.parent m.0 m.1

-- ---- children

-- a child of p has a link to p
pub child_link : (t : QueryTree) (p u : ℕ) → is_child t p u ≡ true → (l : TreeLink) × (link_at t u ≡ Some l) × (l.parent ≡ p)
child_link t p u h = by (link_at t u) refl
  where
    by : (o : Option TreeLink) → link_at t u ≡ o → (l : TreeLink) × (link_at t u ≡ Some l) × (l.parent ≡ p)
    by None e = let no : is_child t p u ≡ false = rw e refl in absurd cc
    by (Some l) e = let same : is_child t p u ≡ (l.parent == p) = rw e refl in (l, e, eqb-true l.parent p (sym same ∙ h))

-- the child at place i is below the count, and hangs from p
pub child_at : (t : QueryTree) (p i u : ℕ) → slice_get (children t p) i ≡ Some u → (u < length t.links) × (is_child t p u ≡ true)
child_at t p i u e =
    let each : All (λ v. (v < length t.links) × (is_child t p v ≡ true)) (children t p) = All-from_recursion (λ v. (v < length t.links) × (is_child t p v ≡ true)) (children t p) (each_number (is_child t p) (λ v. (v < length t.links) × (is_child t p v ≡ true)) 0 (length t.links) (λ v h c. (omega arith, c))) in
    let here : get_or (children t p) i 0 ≡ u = get_or_from_slice_get (children t p) i u 0 e in
    subst (λ v. (v < length t.links) × (is_child t p v ≡ true)) here (each i 0 (slice_get_within (children t p) i u e))

-- children ascend, so a vertex stands once among them
pub children-increasing : (t : QueryTree) (p : ℕ) → IsStrictlyIncreasing (children t p)
children-increasing t p = IsStrictlyIncreasing-filter (is_child t p) (range_with_len 0 (length t.links)) (range-increasing (length t.links))

-- no child stands at two places
pub child_once : (t : QueryTree) (p i j u : ℕ) → slice_get (children t p) i ≡ Some u → slice_get (children t p) j ≡ Some u → i ≡ j
child_once t p i j u e f = by (cases_order i j)
  where
    below : AllPairs (λ v w. v < w) (children t p)
    below = AllPairs-from_increasing (children t p) (children-increasing t p)

    at : (k : ℕ) → slice_get (children t p) k ≡ Some u → get_or (children t p) k 0 ≡ u
    at k g = get_or_from_slice_get (children t p) k u 0 g

    by : (i ≡ j) ⊎ ((i < j) ⊎ (j < i)) → i ≡ j
    by (inl same) = same
    by (inr (inl l)) = absurd (omega (arith, below i j 0 l (slice_get_within (children t p) j u f), at i e, at j f))
    by (inr (inr l)) = absurd (omega (arith, below j i 0 l (slice_get_within (children t p) i u e), at i e, at j f))

-- ---- depths

module _ (t : QueryTree) where
  depth_at_root : (k u : ℕ) → (u == t.root) ≡ true → depth_within k t u ≡ 0
  depth_at_root zero u h = refl
  depth_at_root (suc k) u h = rw h refl

  module _ (is : IsTree t) where
    depth_at_link : (k u : ℕ) (l : TreeLink) → link_at t u ≡ Some l → depth_within (suc k) t u ≡ suc (depth_within k t l.parent)
    depth_at_link k u l e = rw (ne_eqb u t.root (not_root t is u l e), e) refl

    -- more links than lead to the root change nothing
    depth_settles : (k u : ℕ) → hangs_within k t u ≡ true → depth_within (suc k) t u ≡ depth_within k t u
    depth_settles zero u h = depth_at_root 1 u h
    depth_settles (suc k) u h = by (link_at t u) refl (depth_settles k)
      where
        by : (o : Option TreeLink) → link_at t u ≡ o → ((v : ℕ) → hangs_within k t v ≡ true → depth_within (suc k) t v ≡ depth_within k t v) → depth_within (suc (suc k)) t u ≡ depth_within (suc k) t u
        by None e rest =
            let root : (u == t.root) ≡ true = sym (hangs_loose t k u e) ∙ h in
            depth_at_root (suc (suc k)) u root ∙ sym (depth_at_root (suc k) u root)
        by (Some l) e rest =
            depth_at_link (suc k) u l e ∙ ap suc (rest l.parent (hangs_below t is k u l e h)) ∙ sym (depth_at_link k u l e)

    depth_below_within : (k u : ℕ) (l : TreeLink) → link_at t u ≡ Some l → hangs_within k t u ≡ true → depth_within k t u ≡ suc (depth_within k t l.parent)
    depth_below_within zero u l e h = absurd (not_root t is u l e (eqb-true u t.root h))
    depth_below_within (suc k) u l e h =
        depth_at_link k u l e ∙ ap suc (sym (depth_settles k l.parent (hangs_below t is k u l e h)))

-- the root has depth 0
pub depth-root : (t : QueryTree) → depth t t.root ≡ 0
unfolding depth
depth-root t = depth_at_root t (length t.links) t.root (eq-eqb t.root t.root refl)

-- a vertex is one deeper than its parent
pub depth-below : (t : QueryTree) → IsTree t → (u : ℕ) (l : TreeLink) → link_at t u ≡ Some l → depth t u ≡ suc (depth t l.parent)
unfolding depth
depth-below t is u l e = depth_below_within t is (length t.links) u l e (is.hanging u (link_within t u l e))

module _ (t : QueryTree) (is : IsTree t) where
  -- on the way to the root there is a vertex at each depth
  on_the_way : (gap d u : ℕ) → u < length t.links → depth t u ≡ d + gap → (w : ℕ) × (w < length t.links) × (depth t w ≡ d)
  on_the_way zero d u h e = (u, h, omega arith)
  on_the_way (suc gap) d u h e =
      let l = linked t is u h (λ same. omega (arith, ap (depth t) same, depth-root t)) in
      on_the_way gap d l.0.parent (parent_within t is u l.0 l.1) (omega (arith, depth-below t is u l.0 l.1))

  abbrev above_depth : ℕ → ℕ → Bool
  above_depth d w = ltb (depth t w) d

  -- so at least d vertices are above depth d
  many_above : (u : ℕ) → u < length t.links → (d : ℕ) → d ≤ suc (depth t u) → d ≤ length (filter (above_depth d) (range_with_len 0 (length t.links)))
  many_above u h zero small = omega arith
  many_above u h (suc d) small =
      let w = on_the_way (depth t u - d) d u h (omega arith) in
      omega (
        arith,
        many_above u h d (omega arith),
        count_less (above_depth d) (above_depth (suc d)) (λ v l. lt-ltb (depth t v) (suc d) (omega (arith, ltb-true (depth t v) d l))) 0 (length t.links) w.0 (omega arith) (omega (arith, w.1)) (le-ltb (depth t w.0) d (omega (arith, w.2))) (lt-ltb (depth t w.0) (suc d) (omega (arith, w.2))),
      )

  -- a depth is below the count of vertices
  pub depth-small : (u : ℕ) → u < length t.links → depth t u < length t.links
  depth-small u h =
      omega (arith, many_above u h (suc (depth t u)) (omega arith), few_numbers (above_depth (suc (depth t u))) (length t.links))
