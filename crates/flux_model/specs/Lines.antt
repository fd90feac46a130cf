-- The lines of an input, where a line has at most n bytes without its end.
use Rattle.std.specs.Prelude.{ℕ, ◌+◌, ◌-◌, ◌==◌, nat_le, List, [], ◌∷◌, ◌++◌, length, take, map, slice_index, if◌then◌else◌}
use Rattle.std.specs.List.{slice_split}

-- a line: its bytes, or that it has too many
pub data InputLine : Type 0 where
  held : List ℕ → InputLine
  long : InputLine

-- one byte 13 at the end is dropped
abbrev pub without_return : List ℕ → List ℕ
without_return bs = if slice_index bs (length bs - 1) == 13 then take (length bs - 1) bs else bs

-- a line that has more bytes than the limit after that is long
abbrev pub line_of : ℕ → List ℕ → InputLine
line_of n bs = if nat_le (length (without_return bs)) n then held (without_return bs) else long

-- the parts between the bytes 10
abbrev pub parts : List ℕ → List (List ℕ)
parts b = slice_split (λ x. x == 10) b

-- each part but the last is a line, which its byte 10 ends
abbrev pub all_but_last : List (List ℕ) → List (List ℕ)
all_but_last [] = []
all_but_last (p ∷ []) = []
all_but_last (p ∷ q ∷ ps) = p ∷ all_but_last (q ∷ ps)

-- the last part is open: nothing has ended it yet
abbrev pub last_part : List (List ℕ) → List ℕ
last_part [] = []
last_part (p ∷ []) = p
last_part (p ∷ q ∷ ps) = last_part (q ∷ ps)

-- what stands after the last byte 10
abbrev pub open_end : List ℕ → List ℕ
open_end b = last_part (parts b)

-- the lines that a byte 10 ends
abbrev pub whole : ℕ → List ℕ → List InputLine
whole n b = map (line_of n) (all_but_last (parts b))

-- an open end: its bytes, or that it is long with any end, since it has more bytes than a line and one byte 13
abbrev pub rest_of : ℕ → List ℕ → InputLine
rest_of n bs = if nat_le (length bs) (n + 1) then held bs else long

abbrev pub rest : ℕ → List ℕ → InputLine
rest n b = rest_of n (open_end b)

-- what stands after the last byte 10 is a line where it is not empty
abbrev pub last_line : ℕ → List ℕ → List InputLine
last_line n [] = []
last_line n (x ∷ xs) = line_of n (x ∷ xs) ∷ []

-- all lines
abbrev pub lines : ℕ → List ℕ → List InputLine
lines n b = whole n b ++ last_line n (open_end b)
