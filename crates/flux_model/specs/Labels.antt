-- Sets of labels, as ascending lists.
use Rattle.std.specs.Prelude.{ℕ, ◌||◌, nat_lt, List, [], ◌∷◌, length, IsTrue, ◌≤◌, Bool}
use Rattle.std.specs.List.{list_all}
use Rattle.flux_model.specs.Text.{is_text, text_cmp}
use Rattle.flux_model.specs.Ordered.{is_ascending, put, is_in}

-- how many labels a vertex may have
abbrev pub most_labels : ℕ
most_labels = 16

-- what a `Labels` keeps
pub record IsLabelSet (labels : List (List ℕ)) : Type 0 where
  pub few : length labels ≤ most_labels
  pub ascending : IsTrue (is_ascending text_cmp labels)
  pub texts : IsTrue (list_all is_text labels)

-- a set with more names
abbrev pub put_all : List (List ℕ) → List (List ℕ) → List (List ℕ)
put_all set [] = set
put_all set (name ∷ names) = put_all (put text_cmp name set) names

-- the names that are given, each once, in ascending order
abbrev pub label_set : List (List ℕ) → List (List ℕ)
label_set names = put_all [] names

-- whether each label of the one set is in the other
abbrev pub is_within : List (List ℕ) → List (List ℕ) → Bool
is_within labels others = list_all (λ label. is_in text_cmp label others) labels

-- the label is there, or there is room for one more
abbrev pub CanAdd : List (List ℕ) → List ℕ → Type 0
CanAdd labels label = IsTrue (is_in text_cmp label labels || nat_lt (length labels) most_labels)
