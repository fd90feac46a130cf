use Rattle.std.proofs.Common.{◌≡◌, map}
use Rattle.std.specs.List.{range_with_len}
use Rattle.query_tree.specs.Depth.{depth}
use Rattle.dcg_transition.proofs.levels.depths.Given as goal

-- the depths so far
abbrev pub invariant-loop-u : goal.invariant-loop-u
invariant-loop-u l = l.depths.items ≡ map (depth l.fn.tree) (range_with_len 0 l.u)
