use Rattle.label_graph.proofs.SetNameLemmas.{lowered_one, lowered_unknown}
use Rattle.label_graph.proofs.names.Names.lower_text.Goals as goal

pub returns-in-Some : goal.returns-in-Some
returns-in-Some c =
    lowered_one c.args.text.now c.args.self.now c.lower.new.self c.in-Some.n c.in-Some.ensures.table c.in-Some.ensures.found c.lower.ensures.here c.lower.ensures.others

pub returns-in_default : goal.returns-in_default
returns-in_default c = lowered_unknown c.args.text.now c.args.self.now c.in_default.ensures.found
