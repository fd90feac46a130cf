use Rattle.pattern_registry.proofs.AnswerLemmas.{found-all}
use Rattle.pattern_registry.proofs.index.PatternIndex.embeddings.Goals as goal

pub returns-clause-all : goal.returns-clause-all
returns-clause-all g c = found-all _ c.all.new.found _ c.new-maps.ensures c.in_ok-all.ensures.found
