-- The rows of counters that are kept of a pattern's states, and when they are exact.
use Rattle.std.specs.Prelude.{◌≡◌, ℕ, ◌==◌, ◌&&◌, Bool, false, List, length, map, count_by, Option, Some, None, if◌then◌else◌}
use Rattle.std.specs.List.{range_with_len}
use Rattle.std.specs.FinMap.{FinMap, get}
use Rattle.std.specs.declared.cmp.Ordering.{Ordering}
use Rattle.std.specs.Ordering.{nat_cmp, ordering_then}
use Rattle.flux_model.specs.Graph.{Graph, ids}
use Rattle.flux_model.specs.Pattern.{PatternGraph}
use Rattle.flux_model.specs.Tree.{QueryTree, link_at, children}
use Rattle.flux_model.specs.declared.tree.TreeLink.{TreeLink}
use Rattle.flux_model.specs.States.{Joined, joined, joined_by, reaches, is_explicit}

-- ---- rows

-- of a pair: how many joints lead in from above, and for each child how many lead on to explicit pairs
pub record Row : Type 0 where
  pub ins : ℕ
  pub outs : List ℕ

-- the joints to v from vertices that the parent reaches; one for the root
abbrev pub in_count : Joined → ℕ → ℕ → ℕ
in_count j u v = by_link (link_at j.tree u)
  where
    by_link : Option TreeLink → ℕ
    by_link None = 1
    by_link (Some l) = count_by (λ e. e.below == v && reaches j l.parent e.above) (j.joints u)

-- the joints from v to vertices whose pair with the child c is explicit
abbrev pub out_count : Joined → ℕ → ℕ → ℕ
out_count j v c = count_by (λ e. e.above == v && is_explicit j c e.below) (j.joints c)

-- the row of a pair, which is kept where the pair is not null
abbrev pub row_of : Joined → ℕ → ℕ → Option Row
row_of j u v = if reaches j u v then Some (record { ins = in_count j u v; outs = map (out_count j v) (children j.tree u) }) else None

-- how many vertices of the graph are explicit for each pattern vertex
abbrev pub live_counts : Graph → Joined → List ℕ
live_counts g j = map (λ u. count_by (is_explicit j u) (ids g)) (range_with_len 0 (length j.tree.links))

-- ---- what is kept

-- by pattern vertex, then by graph vertex
abbrev pub pair_cmp : ℕ × ℕ → ℕ × ℕ → Ordering
pair_cmp a b = ordering_then (nat_cmp a.0 b.0) (nat_cmp a.1 b.1)

-- whether the rows are broken, the number of children of each pattern vertex, and the rows of pairs
pub record StateRows : Type 0 where
  pub is_broken : Bool
  pub children : List ℕ
  pub rows : FinMap pair_cmp Row

abbrev pub row_at : StateRows → ℕ → ℕ → Option Row
row_at d u v = get d.rows (u, v)

-- ---- exact

-- the numbers of children are the tree's, and the rows are those of the pairs that are not null
pub record IsExactOver (j : Joined) (d : StateRows) : Type 0 where
  pub whole : d.is_broken ≡ false
  pub children : d.children ≡ map (λ u. length (children j.tree u)) (range_with_len 0 (length j.tree.links))
  pub rows : (u v : ℕ) → row_at d u v ≡ row_of j u v

abbrev pub IsExact : PatternGraph → QueryTree → Graph → StateRows → Type 0
IsExact q t g d = IsExactOver (joined q t g) d

-- between two graphs, the one with a triple more: the tree edges of the vertices that are done see the larger graph
abbrev pub IsExactBetween : PatternGraph → QueryTree → Graph → Graph → (ℕ → Bool) → StateRows → Type 0
IsExactBetween q t small large done d =
    IsExactOver (joined_by q t large (λ u. if done u then large.triples else small.triples)) d
