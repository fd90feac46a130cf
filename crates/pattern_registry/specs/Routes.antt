-- From a label to the patterns that have an edge with it.
use Rattle.std.specs.Prelude.{◌≡◌, ℕ, suc, Bool, List, [], ◌∷◌, ◌++◌, Option, Some, None, slice_get, if◌then◌else◌}
use Rattle.std.specs.Map.{lookup}
use Rattle.std.specs.Option.{unwrap_or}
use Rattle.std.specs.Str.{bytes_eq}
use Rattle.flux_laws.specs.JointsLaws.{has_edge_labelled}
use Rattle.flux_model.specs.Pattern.{PatternGraph}
use Rattle.pattern_registry.specs.declared.routes.Route.{Route}

-- the places of the patterns that have an edge with the label, counted from i
abbrev pub places_with : ℕ → List ℕ → List PatternGraph → List ℕ
places_with i label [] = []
places_with i label (q ∷ qs) = if has_edge_labelled q label then i ∷ places_with (suc i) label qs else places_with (suc i) label qs

abbrev pub places_of : Option Route → List ℕ
places_of None = []
places_of (Some r) = r.places.items

abbrev pub route : List (List ℕ × Route) → List ℕ → List ℕ
route entries label = places_of (lookup (bytes_eq label) entries)

-- with one place more at its end, or as it was
abbrev pub with_place : Bool → List ℕ → ℕ → List ℕ
with_place is_more places k = if is_more then places ++ k ∷ [] else places

-- the route of each label has the places of the patterns that have an edge with it
abbrev pub AreRoutes : List PatternGraph → List (List ℕ × Route) → Type 0
AreRoutes patterns entries = (label : List ℕ) → route entries label ≡ places_with 0 label patterns

-- the place at i of a route, or n behind its end
abbrev pub place_at : List ℕ → ℕ → ℕ → ℕ
place_at places i n = unwrap_or (slice_get places i) n
