use Rattle.std.proofs.Common.{◌≡◌, map}
use Rattle.std.specs.List.{range_with_len}
use Rattle.flux_model.specs.Tree.{children}
use Rattle.query_tree.proofs.KeptLemmas.{items_of}
use Rattle.query_tree.proofs.tree.finish.Given as goal

-- the children of each vertex so far
abbrev pub invariant-loop-u : goal.invariant-loop-u
invariant-loop-u l = items_of l.children.items ≡ map (children l.fn.grown) (range_with_len 0 l.u)
