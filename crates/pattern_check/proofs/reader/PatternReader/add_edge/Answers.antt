use Rattle.std.proofs.Common.{Option, subst}
use Rattle.flux_model.specs.Pattern.{HaveDistinctNames}
use Rattle.flux_model.specs.PatternFile.{OpenPattern}
use Rattle.pattern_check.specs.Reading.{all_patterns}
use Rattle.pattern_check.proofs.NameLemmas.{names_stay}
use Rattle.pattern_check.proofs.reader.PatternReader.add_edge.Goals as goal

pub invariant_of-self-2 : goal.invariant_of-self-2
invariant_of-self-2 c = (
  c.self.invariant.0,
  names_stay c.self.inside.complete.items c.in-Some.open.pattern c.add_edge.new.self.pattern c.add_edge.ensures.name
      (subst (λ (last : Option OpenPattern). HaveDistinctNames (all_patterns c.self.inside.complete.items last)) c.in-Some.is c.self.invariant.1),
)
