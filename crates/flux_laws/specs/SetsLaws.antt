-- What holds of sets, which are kept as ascending lists.
use Rattle.std.specs.Prelude.{◌≡◌, ◌↔◌, ℕ, ◌||◌, List, IsTrue, Contains}
use Rattle.std.specs.declared.cmp.Ordering.{Ordering}
use Rattle.std.specs.Ordering.{is_eq}
use Rattle.flux_model.specs.Text.{text_cmp}
use Rattle.flux_model.specs.Ordered.{is_ascending, is_in, put}
use Rattle.flux_model.specs.Labels.{label_set}

module _ {K : Type 0} (cmp : K → K → Ordering) where
  -- one more element leaves the list ascending
  abbrev pub PutKeepsOrder : Type 0
  PutKeepsOrder = (x : K) (xs : List K) → IsTrue (is_ascending cmp xs) → IsTrue (is_ascending cmp (put cmp x xs))

  -- the element that is put in is there, and else what was there before
  abbrev pub PutAddsOne : Type 0
  PutAddsOne = (x y : K) (xs : List K) → is_in cmp x (put cmp y xs) ≡ (is_eq (cmp x y) || is_in cmp x xs)

  -- what compares as equal to an element is that element
  abbrev pub IsInIsMembership : Type 0
  IsInIsMembership = (x : K) (xs : List K) → IsTrue (is_in cmp x xs) ↔ Contains xs x

  -- ascending lists that have the same elements are the same
  abbrev pub IsDeterminedByMembers : Type 0
  IsDeterminedByMembers =
      (xs ys : List K) → IsTrue (is_ascending cmp xs) → IsTrue (is_ascending cmp ys) → ((x : K) → Contains xs x ↔ Contains ys x) → xs ≡ ys

abbrev pub LabelSetIsAscending : Type 0
LabelSetIsAscending = (names : List (List ℕ)) → IsTrue (is_ascending text_cmp (label_set names))

abbrev pub LabelSetHasTheNames : Type 0
LabelSetHasTheNames = (names : List (List ℕ)) (name : List ℕ) → Contains (label_set names) name ↔ Contains names name
