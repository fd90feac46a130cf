use Rattle.pattern_registry.proofs.IndexLemmas.{belongs_here, whole_here}
use Rattle.pattern_registry.proofs.registry.Registry.index_of.Goals as goal

pub returns-clause-belongs : goal.returns-clause-belongs
returns-clause-belongs c =
    belongs_here c.args.self.now c.self.inside.patterns c.self.inside.indexes.items c.self.inside.is_broken c.args.k c.index.result.now c.self.view_is c.self.invariant.indexed c.requires c.index.ensures

pub returns-clause-whole : goal.returns-clause-whole
returns-clause-whole c =
    whole_here c.args.self.now c.self.inside.patterns c.self.inside.indexes.items c.self.inside.is_broken c.args.k c.index.result.now c.self.view_is c.self.invariant.indexed c.requires c.index.ensures
