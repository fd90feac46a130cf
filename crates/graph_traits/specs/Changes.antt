-- What is said of a change that was not made.
use Rattle.std.specs.Prelude.{Result, Ok, Err}

-- the statement holds where the change was refused, and where memory was wanting
abbrev pub IfNotMade : {T E F : Type 0} → Result (Result T E) F → Type 0 → Type 0
IfNotMade (Ok (Ok made)) S = Unit {0}
IfNotMade (Ok (Err refusal)) S = S
IfNotMade (Err wanting) S = S
