-- The vertices that are reached are those to which a chain of edges leads.
use Rattle.std.proofs.Common.{◌≡◌, ℕ, zero, suc, ◌+◌, ◌<◌, ◌≤◌, Bool, true, false, ◌||◌, ◌&&◌, ◌==◌, cond, List, [], ◌∷◌, ◌++◌, length, refl, sym, ◌∙◌, ap, subst, arith, get_or}
use Rattle.std.specs.Prelude.{◌↔◌}
use mathlib.Core.Logic.{◌⊎◌, inl, inr}
use borrow.Author.Tests.{eqb-true}
use Rattle.std.specs.Ordering.{nat_cmp, is_eq, is_lt}
use Rattle.std.specs.Cmp.{nat_cmp_total}
use Rattle.std.specs.List.{list_all, filter, range_with_len, Any, AllByRecursion}
use Rattle.std.proofs.lemmas.Bool.Decides.{nat_tests}
use Rattle.std.proofs.lemmas.Cmp.{tied_itself}
use Rattle.std.proofs.lemmas.List.Elements.{All-from_recursion}
use Rattle.std.proofs.lemmas.List.Folds.{list_any_at, Any-from_list_any}
use Rattle.std.proofs.lemmas.List.FromFn.{get_or-range_with_len, length-range_with_len}
use Rattle.std.proofs.lemmas.Map.Lookups.{exact_unsigned}
use Rattle.std.proofs.lemmas.Map.Views.{any-filter_same}
use Rattle.flux_model.specs.Ordered.{is_ascending, is_in}
use Rattle.flux_model.specs.Pattern.{HasEnds, vertex_count, is_next_to, reached}
use Rattle.flux_model.specs.declared.pattern.PatternEdge.{PatternEdge}
use Rattle.flux_laws.specs.PatternsLaws.{Joins, IsChain, ConnectedByChains}
use Rattle.flux_laws.proofs.AscendingLemmas.{filter-list_all, filter-ascending, within-length, length-filter-le}
use Rattle.flux_laws.proofs.TestLemmas.{both, or_right}
use Rattle.flux_laws.proofs.PlainLemmas.{list_all-weaker}
use Rattle.flux_laws.proofs.UndoLemmas.{holds_there}
use Rattle.flux_laws.proofs.WithinLemmas.{within-filter}

-- ---- numbers in lists

eqb-refl : (u : ℕ) → (u == u) ≡ true
eqb-refl u = grind (arith, nat_tests)

same_from_cmp : (u k : ℕ) → is_eq (nat_cmp u k) ≡ true → u ≡ k
same_from_cmp u k e = grind (arith, nat_tests)

cmp_self : (u k : ℕ) → k ≡ u → is_eq (nat_cmp u k) ≡ true
cmp_self u k e = grind (arith, nat_tests)

below_next : (a b : ℕ) → a < b → is_lt (nat_cmp a b) ≡ true
below_next a b h = grind (arith, nat_tests)

in_range : (n u : ℕ) → u < n → is_in nat_cmp u (range_with_len 0 n) ≡ true
in_range n u h =
    list_any_at (λ k. is_eq (nat_cmp u k)) (range_with_len 0 n) u 0 (omega (arith, length-range_with_len 0 n)) (cmp_self u (get_or (range_with_len 0 n) u 0) (omega (arith, get_or-range_with_len 0 n u 0 h)))

range-ascending : (a n : ℕ) → is_ascending nat_cmp (range_with_len a n) ≡ true
range-ascending a zero = refl
range-ascending a (suc zero) = refl
range-ascending a (suc (suc n)) = rw (below_next a (a + 1) (omega arith)) (range-ascending (a + 1) (suc n))

all_range : (p : ℕ → Bool) (a n : ℕ) → ((u : ℕ) → u < a + n → p u ≡ true) → list_all p (range_with_len a n) ≡ true
all_range p a zero h = refl
all_range p a (suc n) h = rw (h a (omega arith)) (all_range p (a + 1) n (λ u l. h u (omega arith)))

-- each element of a list is in it
each_in : (xs : List ℕ) → list_all (λ x. is_in nat_cmp x xs) xs ≡ true
each_in [] = refl
each_in (x ∷ xs) =
    rw (tied_itself nat_cmp_total x) (list_all-weaker (λ y. is_in nat_cmp y xs) (λ y. is_in nat_cmp y (x ∷ xs)) (λ y h. or_right (is_eq (nat_cmp y x)) (is_in nat_cmp y xs) h) xs (each_in xs))

-- what a filter keeps of u
in-filter : (p : ℕ → Bool) (u : ℕ) (xs : List ℕ) → is_in nat_cmp u (filter p xs) ≡ (p u && is_in nat_cmp u xs)
in-filter p u xs = any-filter_same (λ k. is_eq (nat_cmp u k)) p (p u) (λ k e. ap p (sym (same_from_cmp u k e))) xs

-- a weaker test keeps more, or the same
grow : (p r : ℕ → Bool) (xs : List ℕ) → (length (filter p xs) < length (filter (λ u. p u || r u) xs)) ⊎ (filter (λ u. p u || r u) xs ≡ filter p xs)
grow p r [] = inr refl
grow p r (x ∷ xs) = by (p x) (r x) (grow p r xs)
  where
    few : List ℕ
    few = filter p xs

    many : List ℕ
    many = filter (λ u. p u || r u) xs

    by : (b c : Bool) → (length few < length many) ⊎ (many ≡ few) → (length (cond b (x ∷ few) few) < length (cond (b || c) (x ∷ many) many)) ⊎ (cond (b || c) (x ∷ many) many ≡ cond b (x ∷ few) few)
    by true c (inl l) = inl (omega arith)
    by true c (inr e) = inr (ap (λ l. x ∷ l) e)
    by false true (inl l) = inl (omega arith)
    by false true (inr e) = inl (omega (arith, ap length e))
    by false false (inl l) = inl l
    by false false (inr e) = inr e

-- all pass exactly where a filter leaves nothing out
count_all : (p : ℕ → Bool) (s n : ℕ) → list_all p (range_with_len s n) ≡ (length (filter p (range_with_len s n)) == n)
count_all p s zero = refl
count_all p s (suc n) = by (p s) refl (count_all p (s + 1) n)
  where
    less : (k : ℕ) → k ≤ n → false ≡ (k == suc n)
    less k h = grind (arith, nat_tests)

    next : (k : ℕ) → (k == n) ≡ (suc k == suc n)
    next k = grind (arith, nat_tests)

    by : (b : Bool) → p s ≡ b → list_all p (range_with_len (s + 1) n) ≡ (length (filter p (range_with_len (s + 1) n)) == n) → list_all p (range_with_len s (suc n)) ≡ (length (filter p (range_with_len s (suc n))) == suc n)
    by true e rest = rw e (rest ∙ next (length (filter p (range_with_len (s + 1) n))))
    by false e rest = rw e (less (length (filter p (range_with_len (s + 1) n))) (omega (arith, length-filter-le p (range_with_len (s + 1) n), length-range_with_len (s + 1) n)))

module _ (edges : List PatternEdge) (n : ℕ) where
  abbrev range : List ℕ
  range = range_with_len 0 n

  abbrev near : List ℕ → ℕ → Bool
  near seen u = is_in nat_cmp u seen || is_next_to edges seen u

  abbrev wider : List ℕ → List ℕ
  wider seen = filter (near seen) range

  -- ---- rounds

  record IsSeen (s : List ℕ) : Type 0 where
    ascending : is_ascending nat_cmp s ≡ true
    within : list_all (λ u. is_in nat_cmp u range) s ≡ true

  seen-first : 1 ≤ n → IsSeen (0 ∷ [])
  seen-first some = record { ascending = refl; within = rw (in_range n 0 (omega arith)) refl }

  seen-wider : (s : List ℕ) → IsSeen (wider s)
  seen-wider s = record {
    ascending = filter-ascending nat_cmp nat_cmp_total (near s) range (range-ascending 0 n);
    within = filter-list_all (near s) (λ u. is_in nat_cmp u range) range (each_in range);
  }

  seen : 1 ≤ n → (k : ℕ) → IsSeen (reached edges n k)
  seen some zero = seen-first some
  seen some (suc k) = seen-wider (reached edges n k)

  seen-filter : (s : List ℕ) → IsSeen s → filter (λ u. is_in nat_cmp u s) range ≡ s
  seen-filter s so = within-filter nat_cmp nat_cmp_total exact_unsigned s range so.ascending (range-ascending 0 n) so.within

  seen-few : (s : List ℕ) → IsSeen s → length s ≤ n
  seen-few s so = omega (arith, within-length nat_cmp nat_cmp_total range s (range-ascending 0 n) so.ascending so.within, length-range_with_len 0 n)

  step : (s : List ℕ) → IsSeen s → (length s < length (wider s)) ⊎ (wider s ≡ s)
  step s so = by (grow (λ u. is_in nat_cmp u s) (is_next_to edges s) range)
    where
      by : (length (filter (λ u. is_in nat_cmp u s) range) < length (wider s)) ⊎ (wider s ≡ filter (λ u. is_in nat_cmp u s) range) → (length s < length (wider s)) ⊎ (wider s ≡ s)
      by (inl l) = inl (omega (arith, ap length (seen-filter s so)))
      by (inr e) = inr (e ∙ seen-filter s so)

  -- each round has one vertex more, or it is the last one
  settles : 1 ≤ n → (k : ℕ) → (k + 1 ≤ length (reached edges n k)) ⊎ (wider (reached edges n k) ≡ reached edges n k)
  settles some zero = inl (omega arith)
  settles some (suc k) = by (settles some k) (step (reached edges n k) (seen some k))
    where
      by : (k + 1 ≤ length (reached edges n k)) ⊎ (wider (reached edges n k) ≡ reached edges n k)
          → (length (reached edges n k) < length (wider (reached edges n k))) ⊎ (wider (reached edges n k) ≡ reached edges n k)
          → (suc k + 1 ≤ length (reached edges n (suc k))) ⊎ (wider (reached edges n (suc k)) ≡ reached edges n (suc k))
      by (inl l) (inl m) = inl (omega arith)
      by (inl l) (inr e) = inr (ap wider e)
      by (inr e) other = inr (ap wider e)

  closed : 1 ≤ n → wider (reached edges n n) ≡ reached edges n n
  closed some = by (settles some n)
    where
      by : (n + 1 ≤ length (reached edges n n)) ⊎ (wider (reached edges n n) ≡ reached edges n n) → wider (reached edges n n) ≡ reached edges n n
      by (inl l) = absurd (omega (arith, seen-few (reached edges n n) (seen some n)))
      by (inr e) = e

  start : 1 ≤ n → (k : ℕ) → is_in nat_cmp 0 (reached edges n k) ≡ true
  start some zero = refl
  start some (suc k) = in-filter (near (reached edges n k)) 0 range ∙ rw (start some k, in_range n 0 (omega arith)) refl

  -- ---- along a chain

  abbrev leads : List ℕ → ℕ → PatternEdge → Bool
  leads s u e = (e.head == u && is_in nat_cmp e.tail s) || (e.tail == u && is_in nat_cmp e.head s)

  leads_on : (s : List ℕ) (v w : ℕ) (e : PatternEdge) → is_in nat_cmp v s ≡ true → Joins v w e → leads s w e ≡ true
  leads_on s v w e there (inl j) = rw (j.0, j.1, eqb-refl w, there) refl
  leads_on s v w e there (inr j) = or_right (e.head == w && is_in nat_cmp e.tail s) (e.tail == w && is_in nat_cmp e.head s) (rw (j.0, j.1, eqb-refl w, there) refl)

  end_within : (v w : ℕ) (e : PatternEdge) → HasEnds n e → Joins v w e → w < n
  end_within v w e ends (inl j) = omega (arith, ends.1, j.1)
  end_within v w e ends (inr j) = omega (arith, ends.0, j.0)

  chain_in : (s : List ℕ) → wider s ≡ s → AllByRecursion (HasEnds n) edges → (v : ℕ) (ws : List ℕ) (u : ℕ) → is_in nat_cmp v s ≡ true → IsChain edges v ws u → is_in nat_cmp u s ≡ true
  chain_in s fix ends v [] u there chain = subst (λ (k : ℕ). is_in nat_cmp k s ≡ true) chain there
  chain_in s fix ends v (w ∷ ws) u there chain =
      let joined = chain.0 in
      let e : PatternEdge = joined.1 in
      let has : HasEnds n e = subst (HasEnds n) joined.3 (All-from_recursion (HasEnds n) edges ends joined.0 e joined.2) in
      let next : is_next_to edges s w ≡ true = list_any_at (leads s w) edges joined.0 e joined.2 (ap (leads s w) joined.3 ∙ leads_on s v w e there joined.4) in
      let close : near s w ≡ true = or_right (is_in nat_cmp w s) (is_next_to edges s w) next in
      let here : is_in nat_cmp w (wider s) ≡ true = in-filter (near s) w range ∙ rw (close, in_range n w (end_within v w e has joined.4)) refl in
      chain_in s fix ends w ws u (subst (λ (l : List ℕ). is_in nat_cmp w l ≡ true) fix here) chain.1

  chain_more : (v : ℕ) (ws : List ℕ) (w u : ℕ) → IsChain edges v ws w → Any (Joins w u) edges → IsChain edges v (ws ++ u ∷ []) u
  chain_more v [] w u chain joined = (subst (λ (k : ℕ). Any (Joins k u) edges) (sym chain) joined, refl)
  chain_more v (x ∷ xs) w u chain joined = (chain.0, chain_more x xs w u chain.1 joined)

  abbrev Reached : ℕ → Type 0
  Reached u = (ws : List ℕ) × IsChain edges 0 ws u

  further : (w u : ℕ) → Reached w → Any (Joins w u) edges → Reached u
  further w u before joined = (before.0 ++ u ∷ [], chain_more 0 before.0 w u before.1 joined)

  from_edge : (s : List ℕ) (u : ℕ) → ((w : ℕ) → is_in nat_cmp w s ≡ true → Reached w) → Any (λ e. leads s u e ≡ true) edges → Reached u
  from_edge s u before a = by (e.head == u && is_in nat_cmp e.tail s) refl (e.tail == u && is_in nat_cmp e.head s) refl a.4
    where
      e : PatternEdge
      e = a.1

      joined : (w : ℕ) → Joins w u e → Any (Joins w u) edges
      joined w j = (a.0, e, a.2, a.3, j)

      by : (b : Bool) → (e.head == u && is_in nat_cmp e.tail s) ≡ b → (c : Bool) → (e.tail == u && is_in nat_cmp e.head s) ≡ c → b || c ≡ true → Reached u
      by true p c r h =
          let two = both (e.head == u) (is_in nat_cmp e.tail s) p in
          further e.tail u (before e.tail two.1) (joined e.tail (inl (refl, eqb-true e.head u two.0)))
      by false p true r h =
          let two = both (e.tail == u) (is_in nat_cmp e.head s) r in
          further e.head u (before e.head two.1) (joined e.head (inr (eqb-true e.tail u two.0, refl)))
      by false p false r h = cc

  from_round : (k u : ℕ) → is_in nat_cmp u (reached edges n k) ≡ true → Reached u
  from_round zero u h = ([], sym (same_from_cmp u 0 (first (is_eq (nat_cmp u 0)) h)))
    where
      first : (b : Bool) → b || false ≡ true → b ≡ true
      first true e = refl
      first false e = e
  from_round (suc k) u h = by (is_in nat_cmp u (reached edges n k)) refl (both (near (reached edges n k) u) (is_in nat_cmp u range) (sym (in-filter (near (reached edges n k)) u range) ∙ h)).0 (from_round k)
    where
      by : (b : Bool) → is_in nat_cmp u (reached edges n k) ≡ b → b || is_next_to edges (reached edges n k) u ≡ true → ((w : ℕ) → is_in nat_cmp w (reached edges n k) ≡ true → Reached w) → Reached u
      by true p f before = before u p
      by false p f before = from_edge (reached edges n k) u before (Any-from_list_any (leads (reached edges n k) u) edges f)

  -- ---- connected

  all_reached : 1 ≤ n → list_all (λ u. is_in nat_cmp u (reached edges n n)) range ≡ (length (reached edges n n) == n)
  all_reached some = count_all (λ u. is_in nat_cmp u (reached edges n n)) 0 n ∙ ap (λ (l : List ℕ). length l == n) (seen-filter (reached edges n n) (seen some n))

  -- all vertices are reached exactly where a chain leads to each
  pub chains : 1 ≤ n → AllByRecursion (HasEnds n) edges → ((length (reached edges n n) == n) ≡ true) ↔ ((u : ℕ) → u < n → (ws : List ℕ) × IsChain edges 0 ws u)
  chains some ends = (there, back)
    where
      there : (length (reached edges n n) == n) ≡ true → (u : ℕ) → u < n → Reached u
      there h u l =
          from_round n u (holds_there nat_cmp nat_cmp_total exact_unsigned (λ v. is_in nat_cmp v (reached edges n n)) u range (all_reached some ∙ h) (in_range n u l))

      back : ((u : ℕ) → u < n → Reached u) → (length (reached edges n n) == n) ≡ true
      back f =
          sym (all_reached some)
          ∙ all_range (λ u. is_in nat_cmp u (reached edges n n)) 0 n
          (λ u l. let small : u < n = omega arith in chain_in (reached edges n n) (closed some) ends 0 (f u small).0 u (start some n) (f u small).1)

-- connected is connected by chains
pub by_chains : ConnectedByChains
by_chains q some ends = chains q.edges (vertex_count q) some ends
