-- A connected pattern has an edge that crosses as long as some vertex is not placed.
use Rattle.std.proofs.Common.{◌≡◌, ℕ, zero, suc, ◌<◌, Bool, true, false, not, ◌||◌, ◌&&◌, ◌==◌, List, [], length, get_or, refl, sym, ap, ◌∙◌, inl, inr, arith}
use Rattle.std.specs.Prelude.{◌⊎◌}
use Rattle.std.specs.Ordering.{nat_cmp, is_eq}
use Rattle.std.specs.List.{Any, filter, range_with_len}
use Rattle.std.proofs.lemmas.Bool.{eqb-true, or_cases, and_parts}
use Rattle.std.proofs.lemmas.Bool.Decides.{nat_tests}
use Rattle.std.proofs.lemmas.List.{get_or_default}
use Rattle.std.proofs.lemmas.List.Folds.{Any-from_list_any}
use Rattle.std.proofs.Math.Bool.{or-false}
use Rattle.std.proofs.lemmas.Map.Views.{any-filter_same}
use Rattle.flux_model.specs.Ordered.{is_in}
use Rattle.flux_model.specs.Pattern.{PatternGraph, vertex_count, is_next_to, reached, is_connected}
use Rattle.flux_model.specs.Tree.{QueryTree, edge_at, is_placed, crosses, crossing}
use Rattle.flux_model.specs.declared.pattern.PatternEdge.{PatternEdge}
use Rattle.query_tree.proofs.NumberLemmas.{no_number, all_numbers}

-- exactly one of the two
pub cross_cases : (a b : Bool) → a && not b || not a && b ≡ true → ((a ≡ true) × (b ≡ false)) ⊎ ((a ≡ false) × (b ≡ true))
cross_cases true true h = cc
cross_cases true false h = inl (refl, refl)
cross_cases false true h = inr (refl, refl)
cross_cases false false h = cc

cross_not : (a b : Bool) → a && not b || not a && b ≡ false → a ≡ b
cross_not true true h = refl
cross_not true false h = cc
cross_not false true h = cc
cross_not false false h = refl

same_from_cmp : (u k : ℕ) → is_eq (nat_cmp u k) ≡ true → u ≡ k
same_from_cmp u k e = grind (arith, nat_tests)

-- no edge crosses
module _ (q : PatternGraph) (t : QueryTree) (closed : crossing q t ≡ []) where
  alike : (i : ℕ) (e : PatternEdge) → i < length q.edges → get_or q.edges i e ≡ e → is_placed t e.tail ≡ is_placed t e.head
  alike i e inside is =
      let at : edge_at q i ≡ e = get_or_default q.edges i (record { tail = 0; label = []; head = 0 }) e inside ∙ is in
      let no : crosses t (edge_at q i) ≡ false = no_number (λ i. crosses t (edge_at q i)) 0 (length q.edges) closed i (omega arith) (omega arith) in
      cross_not (is_placed t e.tail) (is_placed t e.head) (sym (ap (crosses t) at) ∙ no)

  abbrev IsAlike : ℕ → Type 0
  IsAlike u = is_placed t u ≡ is_placed t 0

  next_alike : (seen : List ℕ) → ((w : ℕ) → is_in nat_cmp w seen ≡ true → IsAlike w) → (u : ℕ) → is_next_to q.edges seen u ≡ true → IsAlike u
  next_alike seen all u h = by (Any-from_list_any leads q.edges h)
    where
      leads : PatternEdge → Bool
      leads e = (e.head == u && is_in nat_cmp e.tail seen) || (e.tail == u && is_in nat_cmp e.head seen)

      along : (e : PatternEdge) → is_placed t e.tail ≡ is_placed t e.head → ((e.head == u && is_in nat_cmp e.tail seen) ≡ true) ⊎ ((e.tail == u && is_in nat_cmp e.head seen) ≡ true) → IsAlike u
      along e same (inl f) =
          let two = and_parts (e.head == u) (is_in nat_cmp e.tail seen) f in
          ap (is_placed t) (sym (eqb-true e.head u two.0)) ∙ sym same ∙ all e.tail two.1
      along e same (inr f) =
          let two = and_parts (e.tail == u) (is_in nat_cmp e.head seen) f in
          ap (is_placed t) (sym (eqb-true e.tail u two.0)) ∙ same ∙ all e.head two.1

      by : Any (λ e. leads e ≡ true) q.edges → IsAlike u
      by a = along a.1 (alike a.0 a.1 a.2 a.3) (or_cases (a.1.head == u && is_in nat_cmp a.1.tail seen) (a.1.tail == u && is_in nat_cmp a.1.head seen) a.4)

  near_alike : (seen : List ℕ) → ((w : ℕ) → is_in nat_cmp w seen ≡ true → IsAlike w) → (u : ℕ) → is_in nat_cmp u seen || is_next_to q.edges seen u ≡ true → IsAlike u
  near_alike seen all u h = by (or_cases (is_in nat_cmp u seen) (is_next_to q.edges seen u) h)
    where
      by : (is_in nat_cmp u seen ≡ true) ⊎ (is_next_to q.edges seen u ≡ true) → IsAlike u
      by (inl f) = all u f
      by (inr f) = next_alike seen all u f

  in-filter : (p : ℕ → Bool) (u : ℕ) (xs : List ℕ) → is_in nat_cmp u (filter p xs) ≡ true → p u ≡ true
  in-filter p u xs h =
      (and_parts (p u) (is_in nat_cmp u xs) (sym (any-filter_same (λ k. is_eq (nat_cmp u k)) p (p u) (λ k e. ap p (sym (same_from_cmp u k e))) xs) ∙ h)).0

  -- what is reached is placed as vertex 0 is
  reached_alike : (n k u : ℕ) → is_in nat_cmp u (reached q.edges n k) ≡ true → IsAlike u
  reached_alike n zero u h = ap (is_placed t) (same_from_cmp u 0 (sym (or-false (is_eq (nat_cmp u 0))) ∙ h))
  reached_alike n (suc k) u h =
      near_alike (reached q.edges n k) (reached_alike n k) u (in-filter (λ v. is_in nat_cmp v (reached q.edges n k) || is_next_to q.edges (reached q.edges n k) v) u (range_with_len 0 n) h)

  all_alike : (n : ℕ) → (length (reached q.edges n n) == n) ≡ true → (u : ℕ) → u < n → IsAlike u
  all_alike zero whole u h = absurd (omega arith)
  all_alike (suc k) whole u h =
      let many : length (reached q.edges (suc k) (suc k)) ≡ suc k = eqb-true (length (reached q.edges (suc k) (suc k))) (suc k) whole in
      near_alike (reached q.edges (suc k) k) (reached_alike (suc k) k) u
      (all_numbers (λ v. is_in nat_cmp v (reached q.edges (suc k) k) || is_next_to q.edges (reached q.edges (suc k) k) v) 0 (suc k) (omega arith) u (omega arith) (omega arith))

  -- so all are placed, since one is
  pub all_placed : is_connected q ≡ true → (v : ℕ) → v < vertex_count q → is_placed t v ≡ true → (u : ℕ) → u < vertex_count q → is_placed t u ≡ true
  all_placed whole v inside placed u h =
      all_alike (vertex_count q) whole u h ∙ sym (all_alike (vertex_count q) whole v inside) ∙ placed
