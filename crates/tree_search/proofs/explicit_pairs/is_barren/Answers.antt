use Rattle.std.proofs.Common.{◌≡◌, sym, ap, ◌∙◌, ℕ, ◌+◌, ◌<◌, ◌==◌, false, inl, inr, arith}
use Rattle.std.specs.Prelude.{◌⊎◌}
use Rattle.std.proofs.lemmas.Bool.{cases_eq, eq-eqb, ne_eqb}
use Rattle.flux_model.specs.Pattern.{vertex_count}
use Rattle.dcg_store.specs.SoundRows.{live_count}
use Rattle.nontree_test.proofs.SentLemmas.{any_number, no_number}
use Rattle.tree_search.proofs.explicit_pairs.is_barren.Goals as goal

pub returns-then-live_count-eq0 : goal.returns-then-live_count-eq0
returns-then-live_count-eq0 c =
    sym (any_number (λ u. live_count c.args.dcg.now u == 0) 0 (vertex_count c.args.pattern.now) c.loop-u.u (omega arith) (omega (arith, c.loop-u-test.true, c.vertex_count-u-end.ensures.count))
    (eq-eqb (live_count c.args.dcg.now c.loop-u.u) 0 (sym c.live_count.ensures ∙ c.if-live_count-eq0.true)))

pub loop-u-preserved : goal.loop-u-preserved
loop-u-preserved c = record { live = λ k h. by k h (cases_eq k c.loop-u.u) }
  where
    by : (k : ℕ) → k < c.loop-u.u + 1 → (k ≡ c.loop-u.u) ⊎ (k ≡ c.loop-u.u → ⊥) → (live_count c.args.dcg.now k == 0) ≡ false
    by k h (inl same) = ap (λ n. live_count c.args.dcg.now n == 0) same ∙ ne_eqb (live_count c.args.dcg.now c.loop-u.u) 0 (λ none. c.if-live_count-eq0.false (c.live_count.ensures ∙ none))
    by k h (inr other) = c.loop-u.invariant.live k (omega arith)

pub returns : goal.returns
returns c =
    sym (no_number (λ u. live_count c.args.dcg.now u == 0) 0 (vertex_count c.args.pattern.now) (λ k low high. c.loop-u.invariant.live k (omega (arith, high, c.loop-u-test.false, c.vertex_count-u-end.ensures.count))))
