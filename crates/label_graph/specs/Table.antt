-- What a table of names keeps inside.
use Rattle.std.specs.Prelude.{◌≡◌, ℕ, ◌<◌, List, Option, Some, nat_eq}
use Rattle.std.specs.Map.{lookup}
use Rattle.std.specs.Cmp.Lexicographic.{pointwise}
use Rattle.label_graph.specs.declared.names.Name.{Name}
use Rattle.label_graph.specs.Names.{slot, text_at}
use Rattle.label_graph.specs.Places.{AreInverse}

-- the number that the look-up has for a text
abbrev pub number_of : List (List ℕ × ℕ) → List ℕ → Option ℕ
number_of numbers text = lookup (pointwise nat_eq text) numbers

-- slots and look-up are each the other read backwards, and each name is used
pub record IsInside (numbers : List (List ℕ × ℕ)) (names : List (Option Name)) : Type 0 where
  pub inverse : AreInverse (text_at names) (number_of numbers)
  pub used : (n : ℕ) (x : Name) → slot names n ≡ Some x → 0 < x.uses
