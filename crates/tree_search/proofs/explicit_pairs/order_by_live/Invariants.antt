use Rattle.std.proofs.Common.{◌≡◌, ◌<◌, ℕ, length, slice_index}
use Rattle.dcg_store.specs.SoundRows.{live_count}
use Rattle.tree_search.proofs.explicit_pairs.order_by_live.Given as goal

-- the counts so far
abbrev pub invariant-loop-u : goal.invariant-loop-u
invariant-loop-u l = record {
  size : length l.live ≡ 32;
  counts : (j : ℕ) → j < l.u → slice_index l.live j ≡ live_count l.dcg j;
}
