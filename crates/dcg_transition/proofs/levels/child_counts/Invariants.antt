use Rattle.std.proofs.Common.{◌≡◌, map, length}
use Rattle.std.specs.List.{range_with_len}
use Rattle.flux_model.specs.Tree.{children}
use Rattle.dcg_transition.proofs.levels.child_counts.Given as goal

-- the numbers of children so far
abbrev pub invariant-loop-u : goal.invariant-loop-u
invariant-loop-u l = l.counts.items ≡ map (λ u. length (children l.fn.tree u)) (range_with_len 0 l.u)
