-- The words with which the line of a map ends.
use Rattle.std.specs.Prelude.{ℕ, List, [], ◌∷◌, ◌++◌, flat_map}
use Rattle.std.specs.Fmt.{decimal}
use Rattle.line_words.specs.Words.{spaced}

-- numbers, each with the space before it
abbrev pub spaced_ids : List ℕ → List ℕ
spaced_ids m = flat_map (λ id. spaced (decimal id)) m

-- the ids of a map, and byte 10
abbrev pub map_end : List ℕ → List ℕ
map_end m = spaced_ids m ++ 10 ∷ []

-- the line of a map that begins so
abbrev pub line_from : List ℕ → List ℕ → List ℕ
line_from front m = front ++ map_end m

-- what a map's line ends with: the name of its pattern, its ids, and byte 10
abbrev pub map_words : List ℕ → List ℕ → List ℕ
map_words name m = spaced name ++ map_end m
