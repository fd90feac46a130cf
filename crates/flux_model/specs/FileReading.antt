-- How a file is read: what its lines say is taken in order, and the first refusal ends it.
use Rattle.std.specs.Prelude.{ℕ, suc, List, [], ◌∷◌, Result, Ok, Err}
use Rattle.flux_model.specs.declared.code.Code.{Code}
use Rattle.flux_model.specs.declared.code.Bad.{Bad}

-- a line is refused, with a code
abbrev pub refused_at : {T : Type 0} → ℕ → Code → Result T Bad
refused_at line code = Err (record { line = line; code = code })

-- what follows, unless there was a refusal
abbrev pub result_and_then : {S T E : Type 0} → (S → Result T E) → Result S E → Result T E
result_and_then next (Ok x) = next x
result_and_then next (Err e) = Err e

-- what lines numbered from k make of s, where `take` says what one line makes of it; or the first refusal
abbrev pub read_from : {S L : Type 0} → (ℕ → S → L → Result S Bad) → ℕ → S → List L → Result S Bad
read_from take k s [] = Ok s
read_from take k s (line ∷ lines) = result_and_then (λ next. read_from take (suc k) next lines) (take k s line)
