use Rattle.std.proofs.Common.{◌≡◌, ℕ, ◌<◌, length, slice_index}
use Rattle.std.specs.Option.{unwrap_or}
use Rattle.flux_model.specs.Partial.{id_of}
use Rattle.tree_search.proofs.search.hand_over.Given as goal

-- the ids so far
abbrev pub invariant-loop-u : goal.invariant-loop-u
invariant-loop-u g l = record {
  size : length l.ids ≡ 32;
  ids : (j : ℕ) → j < l.u → slice_index l.ids j ≡ unwrap_or (id_of l.partial j) 0;
}
