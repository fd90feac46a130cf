-- The words of a line.
use Rattle.std.specs.Prelude.{ℕ, List, [], ◌∷◌, ◌++◌}

-- a word with the space before it
abbrev pub spaced : List ℕ → List ℕ
spaced word = 32 ∷ word

-- words, each with the space before it, and the line's end
abbrev pub rest_of_line : List (List ℕ) → List ℕ
rest_of_line [] = 10 ∷ []
rest_of_line (w ∷ ws) = spaced w ++ rest_of_line ws
