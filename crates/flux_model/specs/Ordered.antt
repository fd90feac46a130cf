-- Lists in strictly ascending order, under an order of their elements, and lists without repeats.
use Rattle.std.specs.Prelude.{Bool, true, not, ◌&&◌, List, [], ◌∷◌}
use Rattle.std.specs.List.{list_any}
use Rattle.std.specs.declared.cmp.Ordering.{Ordering}
use Rattle.std.specs.Ordering.{is_lt, is_eq}
use Rattle.std.specs.declared.cmp.Ordering.TheVariants.{Less, Equal, Greater}

module _ {K : Type 0} (cmp : K → K → Ordering) where
  -- each element is below the next
  abbrev pub is_ascending : List K → Bool
  is_ascending [] = true
  is_ascending (x ∷ []) = true
  is_ascending (x ∷ y ∷ ys) = is_lt (cmp x y) && is_ascending (y ∷ ys)

  -- whether x is in the list
  abbrev pub is_in : K → List K → Bool
  is_in x xs = list_any (λ y. is_eq (cmp x y)) xs

  -- x before the first element above it; a list that has x stays as it is
  abbrev pub put : K → List K → List K
  put x [] = x ∷ []
  put x (y ∷ ys) = put_before (cmp x y) x y ys (put x ys)
    where
      put_before : Ordering → K → K → List K → List K → List K
      put_before Less x y ys after = x ∷ y ∷ ys
      put_before Equal x y ys after = y ∷ ys
      put_before Greater x y ys after = y ∷ after

-- no element is the same as a later one
abbrev pub are_distinct_by : {K : Type 0} → (K → K → Bool) → List K → Bool
are_distinct_by same [] = true
are_distinct_by same (x ∷ xs) = not (list_any (same x) xs) && are_distinct_by same xs
