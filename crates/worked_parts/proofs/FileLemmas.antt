-- What the only file of a shelf is read as.
use Rattle.std.proofs.Common.{◌≡◌, ℕ, List, subst}
use Rattle.std.specs.Prelude.{Option, Some}
use Rattle.flux_model.specs.Limits.{standard}
use Rattle.flux_model.specs.declared.limits.Limits.{Limits}
use Rattle.flux_outside.specs.MemShelf.{bytes_of}

-- under the standard limits, where the shelf's bytes are those of the text
pub read_as_text : {X : Type 0} (judge : Limits → Option (List ℕ) → X) (limits : Limits) (entries : List (List ℕ × List ℕ)) (name text : List ℕ) (x : X)
    → limits ≡ standard → bytes_of entries name ≡ Some text → judge limits (bytes_of entries name) ≡ x → judge standard (Some text) ≡ x
read_as_text {X} judge limits entries name text x same there read =
    let P : Limits → Type 0 = λ m. judge m (bytes_of entries name) ≡ x in
    let Q : Option (List ℕ) → Type 0 = λ o. judge standard o ≡ x in
    subst Q there (subst P same read)
