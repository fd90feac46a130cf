-- Which tree edges see the triple while it comes to the rows or goes from them.
use Rattle.std.specs.Prelude.{ℕ, ◌==◌, ◌&&◌, not, nat_lt, Bool, List, if◌then◌else◌}
use Rattle.flux_model.specs.Graph.{Graph, with_triple, without_triple}
use Rattle.flux_model.specs.Tree.{QueryTree}
use Rattle.flux_model.specs.declared.graph.Triple.{Triple}
use Rattle.dcg_updates.specs.declared.sight.Change.{Change}
use Rattle.dcg_updates.specs.declared.sight.Change.TheVariants.{Added, Taken}
use Rattle.dcg_updates.specs.declared.sight.Sight.{Sight}
use Rattle.dcg_updates.specs.declared.sight.Sight.TheVariants.{AtHand, Without, With}

-- u is not the root, and below `next`
abbrev pub is_turned : QueryTree → ℕ → ℕ → Bool
is_turned t next u = nat_lt u next && not (u == t.root)

-- its tree edge sees the larger graph
abbrev pub done_of : QueryTree → Change → ℕ → ℕ → Bool
done_of t Added next u = is_turned t next u
done_of t Taken next u = not (is_turned t next u)

-- what a tree edge sees before its turn
abbrev pub sight_before : Change → Sight
sight_before Added = Without
sight_before Taken = With

abbrev pub sight_of : Change → ℕ → ℕ → Sight
sight_of change next u = if nat_lt u next then AtHand else sight_before change

-- the triples that are seen
abbrev pub sees : Sight → Graph → Triple → List Triple
sees AtHand g e = g.triples
sees Without g e = (without_triple g e).triples
sees With g e = (with_triple g e).triples
