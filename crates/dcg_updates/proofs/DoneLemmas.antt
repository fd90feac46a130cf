-- Which tree edges are done after one more.
use Rattle.std.proofs.Common.{◌≡◌, ◌≢◌, ℕ, ◌+◌, ◌<◌, ◌≤◌, true, false, not, ◌||◌, ◌==◌, nat_lt, length, inl, inr, sym, ap, ◌∙◌, arith}
use Rattle.std.specs.Prelude.{◌⊎◌}
use Rattle.std.proofs.lemmas.Bool.{cases_eq, cases_order, eq-eqb, ne_eqb, lt-ltb, le-ltb, and_from, and_left, and_right, or_left, or_right, or_from, both_ways}
use Rattle.flux_model.specs.Tree.{QueryTree}
use Rattle.dcg_moves.specs.Between.{and_at}
use Rattle.dcg_updates.specs.Sights.{is_turned, done_of}
use Rattle.dcg_updates.specs.declared.sight.Change.{Change}
use Rattle.dcg_updates.specs.declared.sight.Change.TheVariants.{Added, Taken}

module _ (t : QueryTree) where
  turned_below : (n z : ℕ) → z < n → z ≢ t.root → is_turned t n z ≡ true
  turned_below n z low other = and_from (nat_lt z n) (not (z == t.root)) (lt-ltb z n low) (ap not (ne_eqb z t.root other))

  -- a vertex that is still to come is not turned
  pub turned_past : (n z : ℕ) → n ≤ z → is_turned t n z ≡ false
  turned_past n z high = and_left (nat_lt z n) (not (z == t.root)) (le-ltb z n high)

  turned_root : (n z : ℕ) → z ≡ t.root → is_turned t n z ≡ false
  turned_root n z same = and_right (nat_lt z n) (not (z == t.root)) (ap not (eq-eqb z t.root same))

  module _ (next u : ℕ) (inside : u < length t.links) (apart : u ≢ t.root) where
    -- an insertion is done at one tree edge more
    pub done_more : (change : Change) → ((z : ℕ) → u ≤ z → done_of t change next z ≡ false) → ((z : ℕ) → z < length t.links → z ≢ t.root → z < u → done_of t change next z ≡ true)
        → done_of t change (u + 1) ≡ and_at (done_of t change next) u
    done_more Taken ahead behind =
        absurd (both_ways (not (is_turned t next (u + next))) (ahead (u + next) (omega arith)) (ap not (turned_past next (u + next) (omega arith))))
    done_more Added ahead behind = λ i z. at z i
      where
        at : (z : ℕ) → is_turned t (u + 1) z ≡ (is_turned t next z || z == u)
        at z = by (cases_eq z t.root) (cases_order z u)
          where
            by : (z ≡ t.root) ⊎ (z ≡ t.root → ⊥) → (z ≡ u) ⊎ ((z < u) ⊎ (u < z)) → is_turned t (u + 1) z ≡ (is_turned t next z || z == u)
            by (inl root) any = turned_root (u + 1) z root ∙ sym (or_from (is_turned t next z) (z == u) (turned_root next z root) (ne_eqb z u (λ same. apart (sym same ∙ root))))
            by (inr other) (inl same) = turned_below (u + 1) z (omega arith) other ∙ sym (or_right (is_turned t next z) (z == u) (eq-eqb z u same))
            by (inr other) (inr (inl low)) = turned_below (u + 1) z (omega arith) other ∙ sym (or_left (is_turned t next z) (z == u) (behind z (omega arith) other low))
            by (inr other) (inr (inr high)) =
                turned_past (u + 1) z (omega arith) ∙ sym (or_from (is_turned t next z) (z == u) (ahead z (omega arith)) (ne_eqb z u (λ same. omega (arith, same, high))))

    -- a removal, at one fewer
    pub done_less : (change : Change) → ((z : ℕ) → u ≤ z → done_of t change next z ≡ true) → ((z : ℕ) → z < length t.links → z ≢ t.root → z < u → done_of t change next z ≡ false)
        → done_of t change next ≡ and_at (done_of t change (u + 1)) u
    done_less Added ahead behind = absurd (both_ways (is_turned t next (u + next)) (turned_past next (u + next) (omega arith)) (ahead (u + next) (omega arith)))
    done_less Taken ahead behind = λ i z. at z i
      where
        at : (z : ℕ) → not (is_turned t next z) ≡ (not (is_turned t (u + 1) z) || z == u)
        at z = by (cases_eq z t.root) (cases_order z u)
          where
            by : (z ≡ t.root) ⊎ (z ≡ t.root → ⊥) → (z ≡ u) ⊎ ((z < u) ⊎ (u < z)) → not (is_turned t next z) ≡ (not (is_turned t (u + 1) z) || z == u)
            by (inl root) any = ap not (turned_root next z root) ∙ sym (or_left (not (is_turned t (u + 1) z)) (z == u) (ap not (turned_root (u + 1) z root)))
            by (inr other) (inl same) = ahead z (omega arith) ∙ sym (or_right (not (is_turned t (u + 1) z)) (z == u) (eq-eqb z u same))
            by (inr other) (inr (inl low)) =
                behind z (omega arith) other low ∙ sym (or_from (not (is_turned t (u + 1) z)) (z == u) (ap not (turned_below (u + 1) z (omega arith) other)) (ne_eqb z u (λ same. omega (arith, same, low))))
            by (inr other) (inr (inr high)) = ahead z (omega arith) ∙ sym (or_left (not (is_turned t (u + 1) z)) (z == u) (ap not (turned_past (u + 1) z (omega arith))))

    -- and not done there any more
    pub fresh_less : (change : Change) → ((z : ℕ) → u ≤ z → done_of t change next z ≡ true) → done_of t change (u + 1) u ≡ false
    fresh_less Added ahead = absurd (both_ways (is_turned t next (u + next)) (turned_past next (u + next) (omega arith)) (ahead (u + next) (omega arith)))
    fresh_less Taken ahead = ap not (turned_below (u + 1) u (omega arith) apart)
