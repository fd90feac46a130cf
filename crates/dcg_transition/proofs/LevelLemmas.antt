-- The vertices of a tree, level by level.
use Rattle.std.proofs.Common.{◌≡◌, ◌≢◌, ℕ, zero, suc, ◌+◌, ◌-◌, ◌<◌, ◌≤◌, Bool, true, false, ◌==◌, ◌&&◌, ◌||◌, nat_lt, List, [], ◌∷◌, ◌++◌, map, length, get_or, inl, inr, refl, sym, ap, ◌∙◌, arith}
use Rattle.std.specs.Prelude.{◌⊎◌, None}
use Rattle.std.specs.List.{range_with_len}
use Rattle.std.proofs.lemmas.Bool.{eqb-true, eq-eqb, ne_eqb, lt-ltb, le-ltb, ltb-true, cases_eq, cases_lt, or_left, or_right, or_cases}
use Rattle.std.proofs.lemmas.List.{get_or_past}
use Rattle.std.proofs.lemmas.List.FromFn.{map-range_with_len_more, length-map-range_with_len, get_or-map-range_with_len}
use Rattle.flux_model.specs.Tree.{QueryTree, link_at, children, IsTree}
use Rattle.query_tree.specs.Depth.{depth_within, depth}
use Rattle.query_tree.proofs.CallerLemmas.{linked, depth-below, depth-small}
use Rattle.dcg_store.proofs.StateLemmas.{HasDepths}
use Rattle.dcg_transition.specs.Filled.{child_counts}
use Rattle.dcg_transition.specs.Levels.{is_before, is_after}

-- one number more
pub numbers_more : (f : ℕ → ℕ) (n x : ℕ) (old new : List ℕ) → old ≡ map f (range_with_len 0 n) → x ≡ f n → new ≡ old ++ x ∷ [] → new ≡ map f (range_with_len 0 (n + 1))
numbers_more f n x old new is next pushed = pushed ∙ (λ i. is i ++ next i ∷ []) ∙ sym (map-range_with_len_more f 0 n n (omega arith))

pub length-child_counts : (t : QueryTree) → length (child_counts t) ≡ length t.links
length-child_counts t = length-map-range_with_len (λ u. length (children t u)) 0 (length t.links)

pub length-depths : (t : QueryTree) (depths : List ℕ) → depths ≡ map (depth t) (range_with_len 0 (length t.links)) → length depths ≡ length t.links
length-depths t depths is = ap (λ (l : List ℕ). length l) is ∙ length-map-range_with_len (depth t) 0 (length t.links)

-- the depth of a vertex by the list of all depths
pub listed_depth : (t : QueryTree) (depths : List ℕ) (u : ℕ) → depths ≡ map (depth t) (range_with_len 0 (length t.links)) → u < length depths → get_or depths u 0 ≡ depth t u
listed_depth t depths u is inside =
    ap (λ (l : List ℕ). get_or l u 0) is ∙ get_or-map-range_with_len (depth t) 0 (length t.links) u u 0 (omega (arith, inside, length-depths t depths is)) (omega arith)

-- ---- depths

pub has_depths : (t : QueryTree) → IsTree t → HasDepths t (depth t)
has_depths t is = record { deeper = depth-below t is; shallow = depth-small t is }

depth_loose : (t : QueryTree) (u : ℕ) → link_at t u ≡ None → (k : ℕ) → depth_within k t u ≡ 0
depth_loose t u e zero = refl
depth_loose t u e (suc k) = by (u == t.root) refl
  where
    by : (b : Bool) → (u == t.root) ≡ b → depth_within (suc k) t u ≡ 0
    by true h = rw h refl
    by false h = rw (h, e) refl

pub depth-past : (t : QueryTree) (u : ℕ) → length t.links ≤ u → depth t u ≡ 0
unfolding depth
depth-past t u h = depth_loose t u (get_or_past t.links u None h) (length t.links)

-- any number is less deep than the tree has vertices
pub depth-under : (t : QueryTree) → IsTree t → (u : ℕ) → depth t u < length t.links
depth-under t is u = by (cases_lt u (length t.links))
  where
    by : (u < length t.links) ⊎ (length t.links ≤ u) → depth t u < length t.links
    by (inl low) = depth-small t is u low
    by (inr high) = omega (arith, depth-past t u high, is.root)

pub depth-not_root : (t : QueryTree) → IsTree t → (u : ℕ) → u < length t.links → u ≢ t.root → 0 < depth t u
depth-not_root t is u h other =
    let l = linked t is u h other in
    omega (arith, depth-below t is u l.0 l.1)

-- ---- tests

same_test : (a b : Bool) → (a ≡ true → b ≡ true) → (b ≡ true → a ≡ true) → a ≡ b
same_test true true f h = refl
same_test true false f h = sym (f refl)
same_test false true f h = h refl
same_test false false f h = refl

lt_other : (x u : ℕ) → x ≢ u → nat_lt x (u + 1) ≡ nat_lt x u
lt_other x u apart = same_test (nat_lt x (u + 1)) (nat_lt x u) (λ h. lt-ltb x u (omega (arith, ltb-true x (u + 1) h, apart))) (λ h. lt-ltb x (u + 1) (omega (arith, ltb-true x u h)))

lt_next : (a b : ℕ) → nat_lt a (b + 1) ≡ (nat_lt a b || a == b)
lt_next a b = by (cases_eq a b)
  where
    or_same : (s : Bool) → s ≡ (s || false)
    or_same true = refl
    or_same false = refl

    by : (a ≡ b) ⊎ (a ≡ b → ⊥) → nat_lt a (b + 1) ≡ (nat_lt a b || a == b)
    by (inl same) = lt-ltb a (b + 1) (omega (arith, same)) ∙ sym (or_right (nat_lt a b) (a == b) (eq-eqb a b same))
    by (inr apart) = lt_other a b apart ∙ or_same (nat_lt a b) ∙ ap (λ s. nat_lt a b || s) (sym (ne_eqb a b apart))

and_none : (a : Bool) → (a && false) ≡ false
and_none true = refl
and_none false = refl

or_none : (a : Bool) → (a || false) ≡ a
or_none true = refl
or_none false = refl

and_all : (a : Bool) → (a && true) ≡ a
and_all true = refl
and_all false = refl

-- c is as deep as the level, and below u
abbrev beside : QueryTree → ℕ → ℕ → ℕ → Bool
beside t level u c = depth t c == level && nat_lt c u

beside_other : (t : QueryTree) (level u c : ℕ) → c ≢ u → beside t level (u + 1) c ≡ beside t level u c
beside_other t level u c apart = ap (λ b. depth t c == level && b) (lt_other c u apart)

-- a vertex of another level changes nothing
beside_skipped : (t : QueryTree) (level u c : ℕ) → depth t u ≢ level → beside t level (u + 1) c ≡ beside t level u c
beside_skipped t level u c skipped = by (cases_eq c u)
  where
    by : (c ≡ u) ⊎ (c ≡ u → ⊥) → beside t level (u + 1) c ≡ beside t level u c
    by (inl same) =
        let no = ne_eqb (depth t c) level (λ e. skipped (ap (depth t) (sym same) ∙ e)) in
        ap (λ b. b && nat_lt c (u + 1)) no ∙ sym (ap (λ b. b && nat_lt c u) no)
    by (inr apart) = beside_other t level u c apart

beside_here : (t : QueryTree) (level u : ℕ) → depth t u ≡ level → beside t level (u + 1) u ≡ true
beside_here t level u e = (λ i. eq-eqb (depth t u) level e i && lt-ltb u (u + 1) (let h : u < u + 1 = omega arith in h) i)

beside_none : (t : QueryTree) (level c : ℕ) → beside t level 0 c ≡ false
beside_none t level c = ap (λ b. depth t c == level && b) (le-ltb c 0 (let h : 0 ≤ c = omega arith in h)) ∙ and_none (depth t c == level)

-- all vertices of a level that is not the root's
beside_all : (t : QueryTree) (level c : ℕ) → 0 < level → beside t level (length t.links) c ≡ (depth t c == level)
beside_all t level c below = by (cases_lt c (length t.links))
  where
    by : (c < length t.links) ⊎ (length t.links ≤ c) → beside t level (length t.links) c ≡ (depth t c == level)
    by (inl low) = ap (λ b. depth t c == level && b) (lt-ltb c (length t.links) low) ∙ and_all (depth t c == level)
    by (inr high) =
        let no = ne_eqb (depth t c) level (λ e. absurd (omega (arith, depth-past t c high, e, below))) in
        ap (λ b. b && nat_lt c (length t.links)) no ∙ sym no

-- ---- those before

module _ (t : QueryTree) (level u : ℕ) where
  pub before_other : (c : ℕ) → c ≢ u → is_before t level (u + 1) c ≡ is_before t level u c
  before_other c apart = ap (λ b. nat_lt (depth t c) level || b) (beside_other t level u c apart)

  pub before_skipped : depth t u ≢ level → (c : ℕ) → is_before t level (u + 1) c ≡ is_before t level u c
  before_skipped skipped c = ap (λ b. nat_lt (depth t c) level || b) (beside_skipped t level u c skipped)

  pub before_here : depth t u ≡ level → is_before t level (u + 1) u ≡ true
  before_here e = or_right (nat_lt (depth t u) level) (beside t level (u + 1) u) (beside_here t level u e)

  pub before_not : depth t u ≡ level → is_before t level u u ≡ false
  before_not e = (λ i. le-ltb (depth t u) level (let h : level ≤ depth t u = omega (arith, e) in h) i || depth t u == level && le-ltb u u (let h : u ≤ u = omega arith in h) i) ∙ and_none (depth t u == level)

  pub before_less : (c : ℕ) → depth t c < level → is_before t level u c ≡ true
  before_less c h = ap (λ b. b || beside t level u c) (lt-ltb (depth t c) level h)

pub before_first : (t : QueryTree) (level c : ℕ) → is_before t level 0 c ≡ nat_lt (depth t c) level
before_first t level c = ap (λ b. nat_lt (depth t c) level || b) (beside_none t level c) ∙ or_none (nat_lt (depth t c) level)

pub before_next : (t : QueryTree) (level c : ℕ) → 0 < level → is_before t level (length t.links) c ≡ is_before t (level + 1) 0 c
before_next t level c below =
    ap (λ b. nat_lt (depth t c) level || b) (beside_all t level c below) ∙ sym (lt_next (depth t c) level) ∙ sym (before_first t (level + 1) c)

-- ---- those after

module _ (t : QueryTree) (level u : ℕ) where
  pub after_other : (c : ℕ) → c ≢ u → is_after t level (u + 1) c ≡ is_after t level u c
  after_other c apart = ap (λ b. nat_lt level (depth t c) || b) (beside_other t level u c apart)

  pub after_skipped : depth t u ≢ level → (c : ℕ) → is_after t level (u + 1) c ≡ is_after t level u c
  after_skipped skipped c = ap (λ b. nat_lt level (depth t c) || b) (beside_skipped t level u c skipped)

  pub after_here : depth t u ≡ level → is_after t level (u + 1) u ≡ true
  after_here e = or_right (nat_lt level (depth t u)) (beside t level (u + 1) u) (beside_here t level u e)

  pub after_not : depth t u ≡ level → is_after t level u u ≡ false
  after_not e = (λ i. le-ltb level (depth t u) (let h : depth t u ≤ level = omega (arith, e) in h) i || depth t u == level && le-ltb u u (let h : u ≤ u = omega arith in h) i) ∙ and_none (depth t u == level)

  pub after_deeper : (c : ℕ) → level < depth t c → is_after t level u c ≡ true
  after_deeper c h = ap (λ b. b || beside t level u c) (lt-ltb level (depth t c) h)

pub after_first : (t : QueryTree) (level c : ℕ) → is_after t level 0 c ≡ nat_lt level (depth t c)
after_first t level c = ap (λ b. nat_lt level (depth t c) || b) (beside_none t level c) ∙ or_none (nat_lt level (depth t c))

pub after_next : (t : QueryTree) (level c : ℕ) → 0 < level → is_after t level (length t.links) c ≡ is_after t (level - 1) 0 c
after_next t level c below =
    ap (λ b. nat_lt level (depth t c) || b) (beside_all t level c below)
    ∙ same_test (nat_lt level (depth t c) || depth t c == level) (nat_lt (level - 1) (depth t c)) there back
    ∙ sym (after_first t (level - 1) c)
  where
    there : (nat_lt level (depth t c) || depth t c == level) ≡ true → nat_lt (level - 1) (depth t c) ≡ true
    there h = elim (or_cases (nat_lt level (depth t c)) (depth t c == level) h) [
      | inl less ↦ lt-ltb (level - 1) (depth t c) (omega (arith, ltb-true level (depth t c) less))
      | inr same ↦ lt-ltb (level - 1) (depth t c) (omega (arith, eqb-true (depth t c) level same, below))
    ]

    back : nat_lt (level - 1) (depth t c) ≡ true → (nat_lt level (depth t c) || depth t c == level) ≡ true
    back h = elim (cases_eq (depth t c) level) [
      | inl same ↦ or_right (nat_lt level (depth t c)) (depth t c == level) (eq-eqb (depth t c) level same)
      | inr apart ↦ or_left (nat_lt level (depth t c)) (depth t c == level) (lt-ltb level (depth t c) (omega (arith, ltb-true (level - 1) (depth t c) h, apart)))
    ]
