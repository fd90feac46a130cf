use Rattle.std.proofs.Common.{refl}
use Rattle.stream_lines.proofs.KeptLemmas.{Stands-place}
use Rattle.stream_lines.proofs.cut.worth_keeping.Goals as goal

pub returns-clause-stands : goal.returns-clause-stands
returns-clause-stands c = λ before is. Stands-place _ _ _ _ _ before _ _ c.open_place-place.ensures c.requires.short is c.min-added.ensures refl
