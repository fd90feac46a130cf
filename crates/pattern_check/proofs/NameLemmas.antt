-- The names of the complete patterns and of the open one.
use Rattle.std.proofs.Common.{◌≡◌, ◌≤◌, ℕ, arith, length, nat_le, Bool, true, false, not, ◌&&◌, ◌||◌, List, [], ◌∷◌, ◌++◌, refl, sym, ap, ◌∙◌, Option, Some, None}
use Rattle.std.specs.List.{list_any}
use Rattle.std.proofs.lemmas.Bool.Decides.{nat_tests}
use Rattle.std.specs.Str.{bytes_eq}
use Rattle.std.proofs.lemmas.List.Folds.{list_any-append}
use Rattle.flux_model.specs.Ordered.{are_distinct_by}
use Rattle.flux_model.specs.Pattern.{PatternGraph, same_name, HaveDistinctNames}
use Rattle.flux_model.specs.FileReading.{refused_at}
use Rattle.flux_model.specs.PatternFile.{OpenPattern, begin_pattern}
use Rattle.flux_model.specs.declared.code.Code.TheVariants as code
use Rattle.flux_model.specs.declared.limits.Limits.{Limits}
use Rattle.flux_model.specs.declared.pattern.Mode.{Mode}
use Rattle.pattern_check.specs.Reading.{all_patterns}
use Rattle.pattern_check.proofs.ListLemmas.{distinct_push, distinct_front}

-- only the name of the last pattern counts
names_alike : (qs : List PatternGraph) (q r : PatternGraph) → q.name ≡ r.name → are_distinct_by same_name (qs ++ q ∷ []) ≡ are_distinct_by same_name (qs ++ r ∷ [])
names_alike [] q r e = refl
names_alike (p ∷ ps) q r e = (λ i. not (any i) && names_alike ps q r e i)
  where
    any : list_any (same_name p) (ps ++ q ∷ []) ≡ list_any (same_name p) (ps ++ r ∷ [])
    any = list_any-append (same_name p) ps (q ∷ []) ∙ ap (λ name. list_any (same_name p) ps || (bytes_eq p.name name || false)) e ∙ sym (list_any-append (same_name p) ps (r ∷ []))

-- the names stay distinct where the last pattern changes but for its name
pub names_stay : (qs : List PatternGraph) (q r : PatternGraph) → r.name ≡ q.name → HaveDistinctNames (qs ++ q ∷ []) → HaveDistinctNames (qs ++ r ∷ [])
names_stay qs q r e h = names_alike qs r q e ∙ h

-- the complete patterns have distinct names
pub complete_names : (qs : List PatternGraph) (last : Option OpenPattern) → HaveDistinctNames (all_patterns qs last) → HaveDistinctNames qs
complete_names qs None h = h
complete_names qs (Some o) h = distinct_front same_name qs (o.pattern ∷ []) h

-- whether a pattern has this name
abbrev pub is_used : List ℕ → List PatternGraph → Bool
is_used name qs = list_any (λ (q : PatternGraph). bytes_eq q.name name) qs

-- so do they with one pattern more whose name is not used
pub one_more_name : (qs : List PatternGraph) (q : PatternGraph) → HaveDistinctNames qs → is_used q.name qs ≡ false → HaveDistinctNames (qs ++ q ∷ [])
one_more_name qs q h n = distinct_push same_name qs q h n

-- ---- what `begin_pattern` refuses

-- a name that is used is refused
pub begin_used : (limits : Limits) (line : ℕ) (name : List ℕ) (mode : Mode) (qs : List PatternGraph) → is_used name qs ≡ true → begin_pattern limits line name mode qs ≡ refused_at line code.Exists
begin_used limits line name mode qs used = rw used refl

-- a pattern too many is refused
pub begin_full : (limits : Limits) (line : ℕ) (name : List ℕ) (mode : Mode) (qs : List PatternGraph) → is_used name qs ≡ false → limits.patterns ≤ length qs → begin_pattern limits line name mode qs ≡ refused_at line code.Full
begin_full limits line name mode qs new full = let e : nat_le limits.patterns (length qs) ≡ true = grind (arith, nat_tests) in rw (new, e) refl
