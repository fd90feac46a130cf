use Rattle.std.proofs.Common.{◌≡◌, sym, ap, ◌∙◌, ℕ, ◌+◌, ◌<◌, Bool, false, inl, inr, arith}
use Rattle.std.specs.Prelude.{◌⊎◌}
use Rattle.std.proofs.lemmas.Bool.{cases_eq}
use Rattle.flux_model.specs.Tree.{edge_at}
use Rattle.flux_model.specs.Partial.{edge_sends}
use Rattle.nontree_test.proofs.SentLemmas.{any_number, no_number, edge_read}
use Rattle.nontree_test.proofs.sent.earlier.Goals as goal

pub returns-then-edge_sends : goal.returns-then-edge_sends
returns-then-edge_sends c =
    sym (any_number (λ k. edge_sends c.args.partial.now c.args.w c.args.x c.args.triple.now (edge_at c.args.pattern.now k)) 0 c.args.number c.loop-i.i (omega arith) (omega (arith, c.loop-i-test.true))
    (ap (edge_sends c.args.partial.now c.args.w c.args.x c.args.triple.now) (edge_read c.args.pattern.now c.loop-i.i c.edge.result.now c.edge.ensures.edge) ∙ sym c.edge_sends.ensures ∙ c.if-edge_sends.true))

pub loop-i-preserved : goal.loop-i-preserved
loop-i-preserved c = record { none = λ k h. by k h (cases_eq k c.loop-i.i) }
  where
    test : ℕ → Bool
    test k = edge_sends c.args.partial.now c.args.w c.args.x c.args.triple.now (edge_at c.args.pattern.now k)

    here : test c.loop-i.i ≡ false
    here = ap (edge_sends c.args.partial.now c.args.w c.args.x c.args.triple.now) (edge_read c.args.pattern.now c.loop-i.i c.edge.result.now c.edge.ensures.edge) ∙ sym c.edge_sends.ensures ∙ c.if-edge_sends.false

    by : (k : ℕ) → k < c.loop-i.i + 1 → (k ≡ c.loop-i.i) ⊎ (k ≡ c.loop-i.i → ⊥) → test k ≡ false
    by k h (inl same) = ap test same ∙ here
    by k h (inr other) = c.loop-i.invariant.none k (omega arith)

pub returns : goal.returns
returns c =
    sym (no_number (λ k. edge_sends c.args.partial.now c.args.w c.args.x c.args.triple.now (edge_at c.args.pattern.now k)) 0 c.args.number (λ k low high. c.loop-i.invariant.none k (omega (arith, high, c.loop-i-test.false))))
