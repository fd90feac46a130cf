use Rattle.std.proofs.Common.{sym, ◌∙◌}
use Rattle.label_graph.proofs.SetNameLemmas.{known_is, other_way}
use Rattle.label_graph.proofs.names.Names.is_unknown.Goals as goal

pub returns : goal.returns
returns c = other_way c.is_none.result _ (sym (known_is c.args.self.now c.args.text.now c.find.result c.find.ensures.found ∙ c.is_none.ensures))
