-- In a tree with depths, the counters of an exact row tell the state.
use Rattle.std.proofs.Common.{◌≡◌, ℕ, zero, suc, ◌+◌, ◌<◌, ◌≤◌, Bool, true, false, ◌&&◌, ◌||◌, ◌==◌, nat_lt, List, [], ◌∷◌, length, inl, inr, refl, sym, ap, ◌∙◌, arith}
use Rattle.std.specs.Prelude.{Option, None, Some, map, ◌⊎◌}
use Rattle.std.specs.List.{list_any, list_all, range_with_len}
use Rattle.std.proofs.lemmas.Bool.{and_parts, and_from, or_right, or_cases, eqb-true, eq-eqb, cases_lt}
use Rattle.std.proofs.lemmas.List.{get_or_past}
use Rattle.flux_model.specs.Tree.{QueryTree, link_at, is_child, children, IsTree}
use Rattle.flux_model.specs.declared.tree.TreeLink.{TreeLink}
use Rattle.flux_model.specs.States.{Joint, Joined, reaches_within, extends_within, reaches, extends, is_explicit}
use Rattle.flux_model.specs.Exact.{out_count}
use Rattle.dcg_store.specs.Counters.{is_full}
use Rattle.flux_model.specs.Members.{In}
use Rattle.flux_model.proofs.MemberLemmas.{list_any-alike, list_all-alike, any_in, filter_in, range_in}
use Rattle.dcg_store.proofs.ListLemmas.{some_counted}

-- each vertex is one deeper than its parent, and none is as deep as there are vertices
pub record HasDepths (t : QueryTree) (depth : ℕ → ℕ) : Type 0 where
  pub deeper : (u : ℕ) (l : TreeLink) → link_at t u ≡ Some l → depth u ≡ suc (depth l.parent)
  pub shallow : (u : ℕ) → u < length t.links → depth u < length t.links

-- ---- a child and its link

child_link : (t : QueryTree) (u c : ℕ) → is_child t u c ≡ true → (l : TreeLink) × (link_at t c ≡ Some l) × (l.parent ≡ u)
child_link t u c h = by (link_at t c) refl
  where
    by : (o : Option TreeLink) → link_at t c ≡ o → (l : TreeLink) × (link_at t c ≡ Some l) × (l.parent ≡ u)
    by None e = absurd (let bad : is_child t u c ≡ false = rw e refl in let no_bool : false ≡ true = sym bad ∙ h in cc)
    by (Some l) e = let same : is_child t u c ≡ (l.parent == u) = rw e refl in (l, e, eqb-true l.parent u (sym same ∙ h))

pub child_of : (t : QueryTree) (u c : ℕ) → In (children t u) c → (c < length t.links) × (l : TreeLink) × (link_at t c ≡ Some l) × (l.parent ≡ u)
child_of t u c m =
    let r = filter_in (is_child t u) (range_with_len 0 (length t.links)) c m in
    let low = (range_in 0 (length t.links) c r.0).1 in
    let link = child_link t u c r.1 in
    (omega (arith, low), link.0, link.1, link.2)

-- ---- one step of each recursion

module _ (j : Joined) where
  pub reaches_up : (k u v : ℕ) (l : TreeLink) → link_at j.tree u ≡ Some l
      → reaches_within (suc k) j u v ≡ (j.fits u v && (u == j.tree.root || list_any (λ e. e.below == v && reaches_within k j l.parent e.above) (j.joints u)))
  reaches_up k u v l e = rw e refl

  pub reaches_loose : (k u v : ℕ) → link_at j.tree u ≡ None → reaches_within (suc k) j u v ≡ (j.fits u v && (u == j.tree.root || false))
  reaches_loose k u v e = rw e refl

  -- what is reached or extends fits
  pub fits_of_reaches : (k u v : ℕ) → reaches_within k j u v ≡ true → j.fits u v ≡ true
  fits_of_reaches zero u v h = absurd (let bad : false ≡ true = h in cc)
  fits_of_reaches (suc k) u v h = (and_parts _ _ h).0

  fits_of_extends : (k u v : ℕ) → extends_within k j u v ≡ true → j.fits u v ≡ true
  fits_of_extends zero u v h = absurd (let bad : false ≡ true = h in cc)
  fits_of_extends (suc k) u v h = (and_parts _ _ h).0

  -- what is reached is a vertex of the tree
  pub inside_of_reaches : IsTree j.tree → (k u v : ℕ) → reaches_within k j u v ≡ true → u < length j.tree.links
  inside_of_reaches is zero u v h = absurd (let bad : false ≡ true = h in cc)
  inside_of_reaches is (suc k) u v h = by (cases_lt u (length j.tree.links))
    where
      root : (u == j.tree.root || false) ≡ true → u < length j.tree.links
      root h = elim (or_cases (u == j.tree.root) false h) [ inl same ↦ let at : u ≡ j.tree.root = eqb-true u j.tree.root same in omega (arith, is.root, at) | inr bad ↦ absurd (let no_bool : false ≡ true = bad in cc) ]

      by : (u < length j.tree.links) ⊎ (length j.tree.links ≤ u) → u < length j.tree.links
      by (inl low) = low
      by (inr high) = root (and_parts _ _ (sym (reaches_loose k u v (get_or_past j.tree.links u None high)) ∙ h)).1

-- ---- more fuel than depth changes nothing

module _ (j : Joined) (depth : ℕ → ℕ) (deep : HasDepths j.tree depth) where
  pub reaches_stable : (a b u v : ℕ) → depth u < a → depth u < b → reaches_within a j u v ≡ reaches_within b j u v
  reaches_stable zero b u v low high = absurd (omega (arith, low))
  reaches_stable (suc a) zero u v low high = absurd (omega (arith, high))
  reaches_stable (suc a) (suc b) u v low high = by (link_at j.tree u) refl (reaches_stable a b)
    where
      by : (o : Option TreeLink) → link_at j.tree u ≡ o → ((w x : ℕ) → depth w < a → depth w < b → reaches_within a j w x ≡ reaches_within b j w x) → reaches_within (suc a) j u v ≡ reaches_within (suc b) j u v
      by None e rest = reaches_loose j a u v e ∙ sym (reaches_loose j b u v e)
      by (Some l) e rest =
          let down = deep.deeper u l e in
          reaches_up j a u v l e
          ∙ ap (λ x. j.fits u v && (u == j.tree.root || x))
          (list_any-alike (λ e. e.below == v && reaches_within a j l.parent e.above) (λ e. e.below == v && reaches_within b j l.parent e.above) (j.joints u)
          (λ e _. ap (λ x. e.below == v && x) (rest l.parent e.above (omega (arith, low, down)) (omega (arith, high, down)))))
          ∙ sym (reaches_up j b u v l e)

  pub extends_stable : (a b u v : ℕ) → u < length j.tree.links → length j.tree.links ≤ a + depth u → length j.tree.links ≤ b + depth u → extends_within a j u v ≡ extends_within b j u v
  extends_stable zero b u v inside low high = absurd (omega (arith, low, deep.shallow u inside))
  extends_stable (suc a) zero u v inside low high = absurd (omega (arith, high, deep.shallow u inside))
  extends_stable (suc a) (suc b) u v inside low high =
      ap (λ x. j.fits u v && x)
      (list_all-alike (λ c. list_any (λ e. e.above == v && extends_within a j c e.below) (j.joints c)) (λ c. list_any (λ e. e.above == v && extends_within b j c e.below) (j.joints c)) (children j.tree u)
      (λ c m.
      let child = child_of j.tree u c m in
      let down = deep.deeper c child.1 child.2 ∙ ap (λ p. suc (depth p)) child.3 in
      list_any-alike (λ e. e.above == v && extends_within a j c e.below) (λ e. e.above == v && extends_within b j c e.below) (j.joints c)
      (λ e _. ap (λ x. e.above == v && x) (extends_stable a b c e.below child.0 (omega (arith, low, down)) (omega (arith, high, down))))))

  -- ---- what the counters tell

  full-map : (f : ℕ → ℕ) (cs : List ℕ) → list_all (nat_lt 0) (map f cs) ≡ list_all (λ c. nat_lt 0 (f c)) cs
  full-map f [] = refl
  full-map f (c ∷ cs) = ap (λ b. nat_lt 0 (f c) && b) (full-map f cs)

  implied : (b x : Bool) → (x ≡ true → b ≡ true) → (b && x) ≡ x
  implied b true h = ap (λ c. c && true) (h refl)
  implied true false h = refl
  implied false false h = refl

  when : (b x y : Bool) → (b ≡ true → x ≡ y) → (b && x) ≡ (b && y)
  when true x y h = h refl
  when false x y h = refl

  -- the lower end of a joint from a vertex that is reached is reached, if it fits
  pub reaches_below : (u v c : ℕ) (l : TreeLink) (e : Joint) → c < length j.tree.links → link_at j.tree c ≡ Some l → l.parent ≡ u → In (j.joints c) e → e.above ≡ v
      → reaches j u v ≡ true → j.fits c e.below ≡ true → reaches j c e.below ≡ true
  reaches_below u v c l e inside link parent among above reached fit =
      let n = length j.tree.links in
      let up : reaches_within n j l.parent e.above ≡ true = (λ i. reaches_within n j (parent i) (above i)) ∙ reached in
      reaches_stable n (suc n) c e.below (deep.shallow c inside) (let low = deep.shallow c inside in omega (arith, low))
      ∙ reaches_up j n c e.below l link
      ∙ and_from (j.fits c e.below) _ fit
      (or_right (c == j.tree.root) _ (any_in (λ x. x.below == e.below && reaches_within n j l.parent x.above) (j.joints c) e among (and_from _ _ (eq-eqb e.below e.below refl) up)))

  -- of a vertex that is reached, each child's counter is at least 1 exactly where it extends
  pub full_is_extends : IsTree j.tree → (u v ins : ℕ) → reaches j u v ≡ true → is_full (record { ins = ins; outs = map (out_count j v) (children j.tree u) }) ≡ extends j u v
  full_is_extends is u v ins reached =
      let n = length j.tree.links in
      let inside = inside_of_reaches j is n u v reached in
      full-map (out_count j v) (children j.tree u)
      ∙ list_all-alike (λ c. nat_lt 0 (out_count j v c)) (λ c. list_any (λ e. e.above == v && extends_within n j c e.below) (j.joints c)) (children j.tree u)
      (λ c m.
      let child = child_of j.tree u c m in
      some_counted (λ e. e.above == v && is_explicit j c e.below) (j.joints c)
      ∙ list_any-alike (λ e. e.above == v && is_explicit j c e.below) (λ e. e.above == v && extends_within n j c e.below) (j.joints c)
      (λ e among. when (e.above == v) (is_explicit j c e.below) (extends_within n j c e.below)
      (λ above. implied (reaches j c e.below) (extends_within n j c e.below)
      (λ ext. reaches_below u v c child.1 e child.0 child.2 child.3 among (eqb-true e.above v above) reached (fits_of_extends j n c e.below ext)))))
      ∙ ap (λ b. b && list_all (λ c. list_any (λ e. e.above == v && extends_within n j c e.below) (j.joints c)) (children j.tree u)) (sym (fits_of_reaches j n u v reached))
      ∙ extends_stable (suc n) n u v inside (omega arith) (omega arith)
