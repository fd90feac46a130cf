-- What the calls on an object of the outside do to the bytes that it tells.
use Rattle.std.specs.Prelude.{◌≡◌, ℕ, ◌<◌, ◌≤◌, List, ◌++◌, length, take, drop, Result, Option, None, Some, ⊤, IfOk, IfSome, MatchResult}
use Rattle.std.specs.Io.KnownBytes.{Appends}

-- Known bytes grow by a front part of the text: what a failed put, or a run that ends early, may
-- have written.
abbrev pub AppendsFront : Option (List ℕ) → Option (List ℕ) → List ℕ → Type 0
AppendsFront old new text = (part rest : List ℕ) × (text ≡ part ++ rest) × Appends old new part

-- A put appends the whole piece, or a front part of it where it fails.
abbrev pub PutAppends : {E : Type 0} → Option (List ℕ) → Option (List ℕ) → Result Unit E → List ℕ → Type 0
PutAppends old new result piece = MatchResult result (λ _. Appends old new piece) (λ _. AppendsFront old new piece)

-- The bytes of each name, or None where there is no such name. A function, so that two shelves are
-- the same exactly where they give the same bytes for each name.
abbrev pub Files : Type 0
Files = List ℕ → Option (List ℕ)

-- A read gave the first count bytes from this place on, and none only at their end or with no room.
pub record GivesFrom (bytes : List ℕ) (from count : ℕ) (buf : List ℕ) : Type 0 where
  pub given : take count buf ≡ take count (drop from bytes)
  pub within : count ≤ length (drop from bytes)
  pub ended : count ≡ 0 → 0 < length buf → length bytes ≤ from

-- What a read by name answers: None exactly where the name has no bytes, else how many it gave.
abbrev pub AnswersFor : Option (List ℕ) → Option ℕ → ℕ → List ℕ → Type 0
AnswersFor None None from buf = ⊤
AnswersFor None (Some count) from buf = ⊥
AnswersFor (Some bytes) None from buf = ⊥
AnswersFor (Some bytes) (Some count) from buf = GivesFrom bytes from count buf

-- A read by name that does not fail answers for the files, where they are told.
abbrev pub ShelfReads : {E : Type 0} → Option Files → Result (Option ℕ) E → List ℕ → ℕ → List ℕ → Type 0
ShelfReads files result name from buf = IfSome files (λ told. IfOk result (λ answer. AnswersFor (told name) answer from buf))
