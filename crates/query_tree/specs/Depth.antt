-- How many links lead from a vertex to the root of a tree.
use Rattle.std.specs.Prelude.{ℕ, zero, suc, ◌==◌, length, Option, Some, None, if◌then◌else◌}
use Rattle.flux_model.specs.Tree.{QueryTree, link_at}
use Rattle.flux_model.specs.declared.tree.TreeLink.{TreeLink}

-- one more than at the parent
abbrev pub one_below : Option TreeLink → (ℕ → ℕ) → ℕ
one_below None depth = 0
one_below (Some l) depth = suc (depth l.parent)

-- over k links at most
abbrev pub depth_within : ℕ → QueryTree → ℕ → ℕ
depth_within zero t u = 0
depth_within (suc k) t u = if u == t.root then 0 else one_below (link_at t u) (depth_within k t)

-- from vertex u to the root
unfoldable pub depth : QueryTree → ℕ → ℕ
depth t u = depth_within (length t.links) t u
