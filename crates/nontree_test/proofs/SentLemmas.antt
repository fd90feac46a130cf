-- The numbers of the edges that are sent to a triple.
use Rattle.std.proofs.Common.{◌≡◌, ℕ, zero, suc, ◌+◌, ◌<◌, ◌≤◌, Bool, true, false, inl, inr, refl, sym, ap, ◌∙◌, arith}
use Rattle.std.specs.Prelude.{◌⊎◌, slice_get, Some}
use Rattle.std.specs.List.{list_any, range_with_len}
use Rattle.std.proofs.lemmas.Bool.{or_left, or_right, or_from, or_parts, cases_eq}
use Rattle.std.proofs.lemmas.Option.{get_or_from_slice_get}
use Rattle.flux_model.specs.Pattern.{PatternGraph}
use Rattle.flux_model.specs.Tree.{edge_at}
use Rattle.flux_model.specs.declared.pattern.PatternEdge.{PatternEdge}

-- a number passes a test
pub any_number : (p : ℕ → Bool) (a n k : ℕ) → a ≤ k → k < a + n → p k ≡ true → list_any p (range_with_len a n) ≡ true
any_number p a zero k low high passes = absurd (omega (arith, low, high))
any_number p a (suc n) k low high passes = by (cases_eq k a) (any_number p (a + 1) n k)
  where
    by : (k ≡ a) ⊎ (k ≡ a → ⊥) → (a + 1 ≤ k → k < a + 1 + n → p k ≡ true → list_any p (range_with_len (a + 1) n) ≡ true) → list_any p (range_with_len a (suc n)) ≡ true
    by (inl same) rest = or_left (p a) (list_any p (range_with_len (a + 1) n)) (ap p (sym same) ∙ passes)
    by (inr other) rest = or_right (p a) (list_any p (range_with_len (a + 1) n)) (rest (omega arith) (omega arith) passes)

-- none does
pub no_number : (p : ℕ → Bool) (a n : ℕ) → ((k : ℕ) → a ≤ k → k < a + n → p k ≡ false) → list_any p (range_with_len a n) ≡ false
no_number p a zero each = refl
no_number p a (suc n) each = or_from (p a) (list_any p (range_with_len (a + 1) n)) (each a (omega arith) (omega arith)) (no_number p (a + 1) n (λ k low high. each k (omega (arith, low)) (omega (arith, high))))

-- where none does, this one does not
pub fails_each : (p : ℕ → Bool) (a n k : ℕ) → list_any p (range_with_len a n) ≡ false → a ≤ k → k < a + n → p k ≡ false
fails_each p a zero k none low high = absurd (omega (arith, low, high))
fails_each p a (suc n) k none low high = by (cases_eq k a) (or_parts (p a) (list_any p (range_with_len (a + 1) n)) none) (fails_each p (a + 1) n k)
  where
    by : (k ≡ a) ⊎ (k ≡ a → ⊥) → (p a ≡ false) × (list_any p (range_with_len (a + 1) n) ≡ false) → (list_any p (range_with_len (a + 1) n) ≡ false → a + 1 ≤ k → k < a + 1 + n → p k ≡ false) → p k ≡ false
    by (inl same) two rest = ap p same ∙ two.0
    by (inr other) two rest = rest two.1 (omega arith) (omega arith)

-- an edge that is read at a place is the edge of that number
pub edge_read : (q : PatternGraph) (i : ℕ) (e : PatternEdge) → slice_get q.edges i ≡ Some e → edge_at q i ≡ e
edge_read q i e read = get_or_from_slice_get q.edges i e _ read
