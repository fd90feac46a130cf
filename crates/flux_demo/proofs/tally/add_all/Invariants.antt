use Rattle.std.proofs.Common.{◌≡◌, ◌<◌, ◌≤◌, ◌+◌, ◌^◌, ℕ, slice_index}
use Rattle.flux_demo.specs.Tally.{gained_at, lost_at}
use Rattle.flux_demo.proofs.tally.add_all.Given as goal

-- the patterns before k are done, and the counts of the others are as they were
abbrev pub invariant-loop-k : goal.invariant-loop-k
invariant-loop-k l = record {
  gained : (j : ℕ) → j < l.k → slice_index l.gained j ≡ slice_index l.fn.gained j + gained_at j l.deltas;
  gained_rest : (j : ℕ) → l.k ≤ j → slice_index l.gained j ≡ slice_index l.fn.gained j;
  lost : (j : ℕ) → j < l.k → slice_index l.lost j ≡ slice_index l.fn.lost j + lost_at j l.deltas;
  lost_rest : (j : ℕ) → l.k ≤ j → slice_index l.lost j ≡ slice_index l.fn.lost j;
  fits : (j : ℕ) → j < l.k → (gained_at j l.deltas < 2 ^ 64) × (lost_at j l.deltas < 2 ^ 64);
}
