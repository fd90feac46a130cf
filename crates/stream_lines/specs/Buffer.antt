-- The buffer of `Lines`: the bytes that are kept, and what is known of the line ends among them.
use Rattle.std.specs.Prelude.{◌≡◌, ℕ, ◌+◌, ◌<◌, ◌≤◌, List, [], ◌∷◌, ◌++◌, length, take, drop, Option, MatchOption}
use Rattle.flux_model.specs.Lines.{parts, open_end, whole, rest}

-- how long the first line is, if a byte 10 ends it
abbrev pub IsFirstLen : List ℕ → Option ℕ → Type 0
IsFirstLen bytes first =
    MatchOption first (parts bytes ≡ bytes ∷ [])
    (λ len. (len < length bytes) × (parts bytes ≡ take len bytes ∷ parts (drop (len + 1) bytes)))

-- from this place on no byte is 10, and so many bytes are open there where so many were open before
pub record IsOpenPlace (bytes : List ℕ) (before_len place left : ℕ) : Type 0 where
  pub within : place ≤ length bytes
  pub fewer : left ≤ before_len
  pub open_part : parts (drop place bytes) ≡ drop place bytes ∷ []
  pub open_len : (before : List ℕ) → length (open_end before) ≡ before_len → length (open_end (before ++ take place bytes)) ≡ left

-- the bytes that are kept have the lines and the rest of all that came, and so many bytes of them are open
pub record Stands (n : ℕ) (came kept : List ℕ) (left : ℕ) : Type 0 where
  pub whole : whole n kept ≡ whole n came
  pub rest : rest n kept ≡ rest n came
  pub open_len : length (open_end kept) ≡ left

-- a buffer in order: what is known of its bytes from the first waiting line on
pub record IsBuffer (n : ℕ) (bytes : List ℕ) (from : ℕ) (len : Option ℕ) (left : ℕ) : Type 0 where
  pub limit : n ≤ 4096
  pub start : from ≤ length bytes
  pub first : IsFirstLen (drop from bytes) len
  pub open_len : length (open_end (drop from bytes)) ≡ left
  pub short : left ≤ n + 2
