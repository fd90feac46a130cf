-- A triple by the number of its label, where that has one.
use Rattle.std.specs.Prelude.{ℕ, Bool, false, List, Option, None, Some, is_some}
use Rattle.std.specs.Map.{lookup}
use Rattle.label_graph.specs.declared.link.Link.{Link}
use Rattle.label_graph.specs.Places.{link_eq}

-- whether the link of these ends stands with the number, if one is told
abbrev pub known_stands : {W : Type 0} → List (Link × W) → Option ℕ → ℕ → ℕ → Bool
known_stands places None src dst = false
known_stands places (Some n) src dst = is_some (lookup (link_eq (record { src = src; label = n; dst = dst })) places)
