-- The lines of the answers, and their number.
use Rattle.std.proofs.Common.{◌≡◌, ◌≤◌, ℕ, ◌+◌, List, [], ◌∷◌, ◌++◌, length, take, codes, sym, ap, ◌∙◌, arith, Some}
use Rattle.std.specs.List.{flat_map, slice_get}
use Rattle.std.proofs.lemmas.List.{length-append}
use Rattle.std.proofs.lemmas.List.Sums.{sum_by_more, sum_by-cons}
use Rattle.std.proofs.lemmas.Option.{slice_get_within, get_or_from_slice_get}
use Rattle.flux_model.specs.Pattern.{PatternGraph}
use Rattle.flux_model.specs.declared.maps.Delta.{Delta}
use Rattle.flux_model.proofs.GrownLemmas.{flat_map_next}
use Rattle.delta_report.specs.MapWords.{map_words}
use Rattle.delta_report.specs.Block.{name_at}
use Rattle.delta_report.specs.Answers.{answer_line, gained_lines, listing, answer_count}
use Rattle.delta_report.proofs.BlockLemmas.{name_at-get}
use Rattle.delta_report.proofs.MapWordsLemmas.{answer_line-parts}

-- ---- the lines

-- under the name that was looked up
pub gained_lines-named : (patterns : List PatternGraph) (d : Delta) (q : PatternGraph) (name : List ℕ) → slice_get patterns d.pattern ≡ Some q → name ≡ q.name → gained_lines (name_at patterns d.pattern) d ≡ gained_lines name d
gained_lines-named patterns d q name e f = ap (λ n. gained_lines n d) (name_at-get patterns d.pattern q e ∙ sym f)

-- the lines of one delta more were written
pub listing_next : (patterns : List PatternGraph) (deltas : List Delta) (i : ℕ) (d : Delta) (q : PatternGraph) (name old mid new : List ℕ) → slice_get deltas i ≡ Some d → slice_get patterns d.pattern ≡ Some q → name ≡ q.name → mid ≡ old ++ listing patterns (take i deltas) → new ≡ mid ++ gained_lines name d → new ≡ old ++ listing patterns (take (i + 1) deltas)
listing_next patterns deltas i d q name old mid new here named is before now =
    flat_map_next (λ (e : Delta). gained_lines (name_at patterns e.pattern) e) old mid new deltas i d here before
    (now ∙ ap (λ t. mid ++ t) (sym (gained_lines-named patterns d q name named is)))

-- ---- their number

-- one delta more
pub answer_count_next : (deltas : List Delta) (i : ℕ) (d : Delta) → slice_get deltas i ≡ Some d → answer_count (take (i + 1) deltas) ≡ answer_count (take i deltas) + length d.gained
answer_count_next deltas i d here =
    sum_by_more (λ (e : Delta). length e.gained) deltas i d (slice_get_within deltas i d here)
    ∙ ap (λ (e : Delta). answer_count (take i deltas) + length e.gained) (get_or_from_slice_get deltas i d d here)

-- each line has a byte at least
one_each : (name : List ℕ) (ms : List (List ℕ)) → length ms ≤ length (flat_map (answer_line name) ms)
one_each name [] = omega arith
one_each name (m ∷ ms) =
    omega (arith, one_each name ms, length-append (answer_line name m) (flat_map (answer_line name) ms), ap length (answer_line-parts name m), length-append (codes "m") (map_words name m))

-- so there are no more of them than bytes
pub answer_count_within : (patterns : List PatternGraph) (deltas : List Delta) → answer_count deltas ≤ length (listing patterns deltas)
answer_count_within patterns [] = omega arith
answer_count_within patterns (d ∷ ds) =
    omega (arith, one_each (name_at patterns d.pattern) d.gained, answer_count_within patterns ds, sum_by-cons (λ (e : Delta). length e.gained) d ds, length-append (gained_lines (name_at patterns d.pattern) d) (listing patterns ds))

-- and their number fits where the bytes fit
pub answer_count_fits : (patterns : List PatternGraph) (deltas : List Delta) (i : ℕ) (d : Delta) (total more : ℕ) (old new : List ℕ) → slice_get deltas i ≡ Some d → total ≡ answer_count (take i deltas) → more ≡ length d.gained → new ≡ old ++ listing patterns (take (i + 1) deltas) → total + more ≤ length new
answer_count_fits patterns deltas i d total more old new here count gained text =
    omega (arith, answer_count_next deltas i d here, answer_count_within patterns (take (i + 1) deltas), ap length text, length-append old (listing patterns (take (i + 1) deltas)))
