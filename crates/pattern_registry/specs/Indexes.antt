-- What a contract sees of the patterns and of what is kept of each, and what a registry keeps.
use Rattle.std.specs.Prelude.{◌≡◌, ℕ, Bool, List, map}
use Rattle.flux_model.specs.Graph.{Graph}
use Rattle.flux_model.specs.Pattern.{PatternGraph}
use Rattle.flux_model.specs.Tree.{tree, BelongsTo}
use Rattle.flux_model.specs.Exact.{IsExact}
use Rattle.pattern_registry.specs.Routes.{AreRoutes}
use Rattle.pattern_registry.specs.States.{PatternStates, IsIndexed}
use Rattle.pattern_registry.specs.declared.index.PatternIndex.{PatternIndex}
use Rattle.pattern_registry.specs.declared.routes.Route.{Route}

abbrev pub pattern_states : List PatternGraph → List PatternIndex → Bool → PatternStates
pattern_states patterns indexes broken =
    record { patterns = patterns; trees = map (λ (i : PatternIndex). i.tree) indexes; rows = map (λ (i : PatternIndex). i.dcg) indexes; is_broken = broken }

-- each pattern has what it needs, and the route of each label leads to the patterns that have an edge with it
pub record IsRegistry (s : PatternStates) (entries : List (List ℕ × Route)) : Type 0 where
  pub indexed : IsIndexed s
  pub routed : AreRoutes s.patterns entries

-- what is kept of a pattern that has started over a graph: the tree that its cards choose, and exact rows
pub record IsStarted (g : Graph) (q : PatternGraph) (index : PatternIndex) : Type 0 where
  pub chosen : index.tree ≡ tree q g
  pub belongs : BelongsTo q index.tree
  pub exact : IsExact q index.tree g index.dcg
