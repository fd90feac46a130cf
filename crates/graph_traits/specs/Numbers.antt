-- What the numbers of labels stand for.
use Rattle.std.specs.Prelude.{◌≡◌, ◌↔◌, ℕ, Bool, false, List, [], Option, Some, None, IfNone, filter}
use Rattle.std.specs.Str.{bytes_eq}
use Rattle.flux_model.specs.Graph.{Graph, has_triple}
use Rattle.flux_model.specs.declared.graph.Triple.{Triple}

-- by the texts that numbers stand for, it is the one number of this text, or None where no number stands for it
abbrev pub IsNumberOf : (ℕ → Option (List ℕ)) → List ℕ → Option ℕ → Type 0
IsNumberOf texts text number = (n : ℕ) → (texts n ≡ Some text) ↔ (number ≡ Some n)

-- no triple of the list has the label
abbrev pub LacksLabel : List ℕ → List Triple → Type 0
LacksLabel label ts = filter (λ (t : Triple). bytes_eq label t.label) ts ≡ []

-- whether the triple of these ends stands with the label, if a label is told
abbrev pub has_triple_by : Graph → Option (List ℕ) → ℕ → ℕ → Bool
has_triple_by g None src dst = false
has_triple_by g (Some label) src dst = has_triple g (record { src = src; label = label; dst = dst })

-- what a store says of the number that it has for a label; where it has none, no triple of the graph has the label
pub record IsNumberIn (texts : ℕ → Option (List ℕ)) (g : Graph) (label : List ℕ) (number : Option ℕ) : Type 0 where
  pub tells : IsNumberOf texts label number
  pub absent : IfNone number (LacksLabel label g.triples)
