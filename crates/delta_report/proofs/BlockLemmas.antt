-- The lines of a delta, under the name that was looked up.
use Rattle.std.proofs.Common.{◌≡◌, ℕ, List, [], ◌∙◌, sym, ap, Some}
use Rattle.std.specs.List.{slice_get}
use Rattle.std.specs.Option.{option_map_or}
use Rattle.flux_model.specs.Pattern.{PatternGraph}
use Rattle.flux_model.specs.declared.maps.Delta.{Delta}
use Rattle.delta_report.specs.Block.{delta_lines, name_at}

-- the name at the place of a pattern is its name
pub name_at-get : (patterns : List PatternGraph) (i : ℕ) (q : PatternGraph) → slice_get patterns i ≡ Some q → name_at patterns i ≡ q.name
name_at-get patterns i q e = ap (λ o. option_map_or (λ (r : PatternGraph). r.name) o []) e

-- the lines of a delta under the name that was looked up
pub delta_lines-named : (k : ℕ) (patterns : List PatternGraph) (d : Delta) (q : PatternGraph) (name : List ℕ) → slice_get patterns d.pattern ≡ Some q → name ≡ q.name → delta_lines k (name_at patterns d.pattern) d ≡ delta_lines k name d
delta_lines-named k patterns d q name e f = ap (λ n. delta_lines k n d) (name_at-get patterns d.pattern q e ∙ sym f)
