-- The embeddings that are looked for and have the ids given so far.
use Rattle.std.specs.Prelude.{◌≡◌, ℕ, ◌&&◌, Bool, true, List, filter, flat_map, nat_eq, slice_index, Option}
use Rattle.std.specs.List.{list_any}
use Rattle.flux_model.specs.Graph.{Graph}
use Rattle.flux_model.specs.Members.{In}
use Rattle.flux_model.specs.Partial.{with_id}
use Rattle.flux_model.specs.Pattern.{PatternGraph}
use Rattle.flux_model.specs.Tree.{QueryTree}
use Rattle.tree_search.specs.Aim.{aimed, keeps_aim}
use Rattle.tree_search.specs.Given.{may_have}
use Rattle.tree_search.specs.Members.{goes_on}
use Rattle.tree_search.specs.declared.aim.Aim.{Aim}

-- those that have the given ids
abbrev pub members_at : PatternGraph → Graph → Aim → List (Option ℕ) → List (List ℕ)
members_at q g aim p = filter (goes_on p) (aimed q g aim)

-- those that have one of these ids for w besides
abbrev pub members_over_at : PatternGraph → Graph → Aim → List (Option ℕ) → ℕ → List ℕ → List (List ℕ)
members_over_at q g aim p w xs = flat_map (λ x. members_at q g aim (with_id p w x)) xs

-- the list has the id that each of those with the given ids has for w
abbrev pub HasEachId : PatternGraph → Graph → Aim → List (Option ℕ) → ℕ → List ℕ → Type 0
HasEachId q g aim p w xs = (m : List ℕ) → In (members_at q g aim p) m → list_any (nat_eq (slice_index m w)) xs ≡ true

-- whether x may be given to w, where not all embeddings are looked for
abbrev pub may_take : PatternGraph → QueryTree → Graph → Aim → List (Option ℕ) → ℕ → ℕ → Bool
may_take q t g aim p w x = keeps_aim q aim p w x && may_have q t g p w x
