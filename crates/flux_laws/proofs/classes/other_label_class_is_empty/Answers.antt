use Rattle.flux_laws.proofs.ClassesLemmas.{other_label}
use Rattle.flux_laws.proofs.classes.other_label_class_is_empty.Goals as goal

pub returns : goal.returns
returns c = other_label
