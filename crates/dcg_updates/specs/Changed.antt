-- A graph and a triple that came to it or went from it: the graphs without the triple and with it.
use Rattle.std.specs.Prelude.{◌≡◌, ℕ, Bool, true, false, List}
use Rattle.flux_model.specs.Costs.{degree}
use Rattle.flux_model.specs.Graph.{Graph, ids, has_triple, has_both_ends, with_triple, without_triple}
use Rattle.flux_model.specs.Pattern.{PatternGraph}
use Rattle.flux_model.specs.Tree.{QueryTree, BelongsTo}
use Rattle.flux_model.specs.declared.graph.Triple.{Triple}
use Rattle.dcg_moves.specs.Update.{Update}
use Rattle.dcg_updates.specs.declared.sight.Change.{Change}
use Rattle.dcg_updates.specs.declared.sight.Change.TheVariants.{Added, Taken}

abbrev pub small_triples : Change → Graph → Triple → List Triple
small_triples Added g e = (without_triple g e).triples
small_triples Taken g e = g.triples

abbrev pub large_triples : Change → Graph → Triple → List Triple
large_triples Added g e = g.triples
large_triples Taken g e = (with_triple g e).triples

-- both have the same vertices, whichever change it is
abbrev pub small_of : Change → Graph → Triple → Graph
small_of change g e = record { vertices = g.vertices; triples = small_triples change g e }

abbrev pub large_of : Change → Graph → Triple → Graph
large_of change g e = record { vertices = g.vertices; triples = large_triples change g e }

abbrev pub update_of : PatternGraph → QueryTree → Graph → Triple → Change → Update
update_of q t g e change = record { pattern = q; tree = t; small = small_of change g e; large = large_of change g e; triple = e }

-- whether the triple stands in the graph at hand
abbrev pub stands_in : Change → Bool
stands_in Added = true
stands_in Taken = false

-- the tree is the pattern's, the triple joins vertices, and it stands where it came alone
pub record IsChangeOf (q : PatternGraph) (t : QueryTree) (g : Graph) (e : Triple) (change : Change) : Type 0 where
  pub belongs : BelongsTo q t
  pub ends : has_both_ends g e ≡ true
  pub stands : has_triple g e ≡ stands_in change

-- ---- what a view tells of its graphs

abbrev pub ids_of : Graph → List ℕ
ids_of g = ids g

abbrev pub degree_in : Graph → ℕ → ℕ
degree_in g v = degree g v
