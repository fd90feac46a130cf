-- What a file holds, where the shelf tells it.
use Rattle.std.specs.Prelude.{◌≡◌, ℕ, List, Option, IfSome, MatchOption}
use Rattle.flux_outside.specs.Told.{Files}

-- the name is there, and its bytes are as P says
abbrev pub HasFile : Option Files → List ℕ → (List ℕ → Type 0) → Type 0
HasFile files name P = IfSome files (λ m. MatchOption (m name) ⊥ P)

-- what `judge` makes of the file of this name
abbrev pub FileIs : {X : Type 0} → Option Files → List ℕ → (judge : Option (List ℕ) → X) → X → Type 0
FileIs files name judge x = IfSome files (λ m. judge (m name) ≡ x)
