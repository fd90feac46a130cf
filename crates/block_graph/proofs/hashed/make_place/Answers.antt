use Rattle.std.proofs.Common.{◌∙◌}
use Rattle.std.proofs.lemmas.List.Sorted.{IsPermutation-trans}
use Rattle.block_graph.proofs.hashed.make_place.Goals as goal

pub returns-then-len-doubled-clause-entries : goal.returns-then-len-doubled-clause-entries
returns-then-len-doubled-clause-entries c =
    IsPermutation-trans c.args.places.now.entries c.reserve.new.self.entries c.shrink_to.new.self.entries c.reserve.ensures.entries.0 c.shrink_to.ensures.entries.0

pub returns-then-len-doubled-clause-found : goal.returns-then-len-doubled-clause-found
returns-then-len-doubled-clause-found c k = c.shrink_to.ensures.entries.2 k ∙ c.reserve.ensures.entries.2 k
