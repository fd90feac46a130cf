-- The embeddings that have the ids given so far, and how what is found grows by them.
use Rattle.std.specs.Prelude.{◌≡◌, ℕ, ◌==◌, Bool, true, List, ◌++◌, map, filter, flat_map, Option, Some, None, IsPermutation}
use Rattle.std.specs.Option.{unwrap_or}
use Rattle.std.specs.Cmp.Lexicographic.{pointwise}
use Rattle.flux_model.specs.Graph.{Graph}
use Rattle.flux_model.specs.Pattern.{PatternGraph}
use Rattle.flux_model.specs.Embedding.{embeddings}
use Rattle.flux_model.specs.Partial.{with_id}

-- it is the id that is given, if one is
abbrev pub agrees : Option ℕ → ℕ → Bool
agrees None x = true
agrees (Some y) x = y == x

-- a list of ids has those that are given
abbrev pub goes_on : List (Option ℕ) → List ℕ → Bool
goes_on p m = pointwise agrees p m

-- the embeddings that have the given ids
abbrev pub members_from : PatternGraph → Graph → List (Option ℕ) → List (List ℕ)
members_from q g p = filter (goes_on p) (embeddings q g)

-- those that have one of these ids for w besides
abbrev pub members_over : PatternGraph → Graph → List (Option ℕ) → ℕ → List ℕ → List (List ℕ)
members_over q g p w xs = flat_map (λ x. members_from q g (with_id p w x)) xs

-- the ids, where all are given
abbrev pub ids_of : List (Option ℕ) → List ℕ
ids_of p = map (λ o. unwrap_or o 0) p

-- ---- growth

-- by some, which with the rest are all, in some order
pub record GrewUpTo {X : Type 0} (old new rest all : List X) : Type 0 where
  pub more : List X
  pub is : new ≡ old ++ more
  pub permutation : IsPermutation (more ++ rest) all

-- by all, in some order
pub record GrewByAll {X : Type 0} (old new all : List X) : Type 0 where
  pub more : List X
  pub is : new ≡ old ++ more
  pub permutation : IsPermutation more all

-- by some, none of them twice
abbrev pub GrewBySome : {X : Type 0} → List X → List X → List X → Type 0
GrewBySome {X} old new all = (rest : List X) × GrewUpTo old new rest all
