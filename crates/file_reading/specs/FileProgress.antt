-- How far a file has been read.
use Rattle.std.specs.Prelude.{◌≡◌, ℕ, List, [], ◌++◌, length, Option, None, Some, IfSome, Result, Ok}
use Rattle.flux_outside.specs.Told.{Files}
use Rattle.flux_model.specs.Lines.{InputLine, whole, rest}
use Rattle.flux_model.specs.FileReading.{read_from}
use Rattle.flux_model.specs.declared.code.Bad.{Bad}
use Rattle.stream_lines.specs.Waiting.{Waiting}

-- the bytes stand at the front of the file, and there are none where there is no file
abbrev pub IsFront : Option (List ℕ) → List ℕ → Type 0
IsFront None bytes = bytes ≡ []
IsFront (Some file) bytes = (more : List ℕ) × (file ≡ bytes ++ more)

-- the bytes stand at the front of the file of this name, where files are told
abbrev pub HasFront : Option Files → List ℕ → List ℕ → Type 0
HasFront files name bytes = IfSome files (λ m. IsFront (m name) bytes)

-- after so many bytes of a file: each whole line of them was taken, and what has come of the next waits
pub record FileRead {S : Type 0} (after_line : ℕ → S → InputLine → Result S Bad) (line_bytes given taken_lines : ℕ) (first now : S)
    (waiting : Waiting) (files : Option Files) (name : List ℕ) : Type 0 where
  pub bytes : List ℕ
  pub count : length bytes ≡ given
  pub front : HasFront files name bytes
  pub taken : read_from after_line 1 first (whole line_bytes bytes) ≡ Ok now
  pub number : taken_lines ≡ length (whole line_bytes bytes)
  pub limit : waiting.line_bytes ≡ line_bytes
  pub queue : waiting.queue ≡ []
  pub rest : waiting.rest ≡ rest line_bytes bytes
