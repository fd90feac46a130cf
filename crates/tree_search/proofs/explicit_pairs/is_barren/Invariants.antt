use Rattle.std.proofs.Common.{◌≡◌, ◌<◌, ◌==◌, ℕ, false}
use Rattle.dcg_store.specs.SoundRows.{live_count}
use Rattle.tree_search.proofs.explicit_pairs.is_barren.Given as goal

-- each vertex so far has an explicit pair
abbrev pub invariant-loop-u : goal.invariant-loop-u
invariant-loop-u l = record { live : (k : ℕ) → k < l.u → (live_count l.dcg k == 0) ≡ false }
