-- How the least of some numbers is found, and the end of an edge that the root is.
use Rattle.std.specs.Prelude.{ℕ, ◌==◌, ◌||◌, List, length, filter, Option, Some, None, nat_le, slice_index, if◌then◌else◌}
use Rattle.std.specs.List.{range_with_len}
use Rattle.std.specs.Option.{unwrap_or}
use Rattle.flux_model.specs.Tree.{least}
use Rattle.flux_model.specs.declared.pattern.PatternEdge.{PatternEdge}

-- of i and the best before it, the one that has the lower key, of equal keys the one before
abbrev pub better : (ℕ → ℕ) → Option ℕ → ℕ → ℕ
better key None i = i
better key (Some b) i = if nat_le (key b) (key i) then b else i

-- the end of the edge that has the lower card, of equals the lower number
abbrev pub lower_end : List ℕ → PatternEdge → ℕ
lower_end cards e = unwrap_or (least (slice_index cards) (filter (λ u. u == e.tail || u == e.head) (range_with_len 0 (length cards)))) 0
